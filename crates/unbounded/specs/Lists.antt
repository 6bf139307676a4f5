-- What the unbounded ends answer to a list of events, and their state after it.
use Rattle.std.specs.Prelude.{ℕ, List, [], ◌∷◌}
use Rattle.limits.specs.declared.Limits.{Limits}
use Rattle.limits.specs.Events.{Event}
use Rattle.unbounded.specs.Ends.{Ends}
use Rattle.unbounded.specs.Rules.{answer, after}

unfoldable pub answers : Limits → List ℕ → ℕ → Ends → List Event → List ℕ
answers l supply space s [] = []
answers l supply space s (e ∷ es) = answer l supply space s e ∷ answers l supply space (after l supply space s e) es

unfoldable pub after_all : Limits → List ℕ → ℕ → Ends → List Event → Ends
after_all l supply space s [] = s
after_all l supply space s (e ∷ es) = after_all l supply space (after l supply space s e) es

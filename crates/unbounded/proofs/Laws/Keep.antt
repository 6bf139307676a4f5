-- Every event keeps the invariant.
use Prim.Native.Nat.{ℕ}
use mathlib.Core.Path.{◌≡◌}
use mathlib.Core.List.{List}
use lib.Dec.{eqb}
use borrow.Author.Tests.{eqb-true}
use Rattle.limits.specs.declared.Limits.{Limits}
use Rattle.limits.specs.Questions.{first_no}
use Rattle.limits.specs.Events.{Event}
use Rattle.limits.proofs.Laws.Choice.{pick-cases}
use Rattle.limits.proofs.Laws.Good.{Good}
use Rattle.unbounded.specs.Ends.{Ends}
use Rattle.unbounded.specs.Rules.{questions, act, answer, after}
use Rattle.unbounded.proofs.Laws.Invariant.{Inv}
use Rattle.unbounded.proofs.Laws.Base.{base-act}
use Rattle.unbounded.proofs.Laws.Unique.{unique-act}

pub keep-act : (l : Limits) (g : Good l) (supply : List ℕ) (space : ℕ) (s : Ends) (e : Event) → Inv l s
    → first_no (questions l supply space s e) ≡ 0 → Inv l (act l supply s e)
keep-act l g supply space s e i q =
    record { base = base-act l g supply space s e i.base q; unique = unique-act l g supply space s e i.base i.unique q }

-- A property that every event keeps which passes its questions, is after-keeps by every event.
pub after-keeps : (P : Ends → Type 0) (l : Limits) (supply : List ℕ) (space : ℕ) (s : Ends) (e : Event) → P s
    → (first_no (questions l supply space s e) ≡ 0 → P (act l supply s e)) → P (after l supply space s e)
unfolding after
after-keeps P l supply space s e h f = pick-cases P (eqb (answer l supply space s e) 0) _ _ (λ y. f (eqb-true _ _ y)) (λ _. h)

pub keep-after : (l : Limits) (g : Good l) (supply : List ℕ) (space : ℕ) (s : Ends) (e : Event) → Inv l s → Inv l (after l supply space s e)
keep-after l g supply space s e i = after-keeps (Inv l) l supply space s e i (keep-act l g supply space s e i)

-- What a call leaves that was done.
use mathlib.Core.Path.{◌≡◌, sym, ◌∙◌}
use mathlib.Core.Bool.{Bool, true}
use mathlib.Core.List.{List, ◌∷◌}
use native.Mathlib.Omega.{arith}
use borrow.Author.Tests.{eqb-true}
use Rattle.std.specs.Prelude.{Result}
use Rattle.std.specs.Result.{is_ok}
use Rattle.limits.specs.declared.answer.Refusal.{Refusal}
use Rattle.limits.specs.Answer.{number_of}
use Rattle.limits.specs.Questions.{Question, ask, Changed}
use Rattle.limits.proofs.Laws.Choice.{test}
use Rattle.limits.proofs.Laws.Promise.{unsound-first, is_ok-number}

-- a call that puts question 4 first and was done leaves a sound link
pub done-sound : {S V X : Type 0} (qs : List Question) (b : Bool) (r : Result X Refusal) (done : X) (shown moved : V) (sound : S → Bool) (before after : S)
    → true ≡ is_ok r → sound before ≡ b → Changed (ask 4 b ∷ qs) r done shown moved sound before after → sound after ≡ true
done-sound qs b r done shown moved sound before after i s c =
    c.stays
    (s
    ∙ test b (λ e. e)
    (λ e. let four : 4 ≡ 0 = unsound-first qs b e ∙ sym c.answered.number ∙ eqb-true (number_of r) 0 (is_ok-number r ∙ sym i) in absurd (omega arith)))

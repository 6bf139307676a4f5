-- Laws on what writers promise.
use Prim.Native.Nat.{ℕ}
use mathlib.Core.Path.{◌≡◌, refl, sym, ◌∙◌, ap, ap₂}
use mathlib.Core.List.{List}
use lib.Dec.{eqb}
use borrow.Author.Tests.{eq-eqb}
use Rattle.std.specs.Prelude.{Result, Ok, Err}
use Rattle.std.specs.Result.{result_unwrap_or}
use Rattle.limits.specs.declared.answer.Refusal.{Refusal}
use Rattle.limits.specs.Answer.{refusal_number, number_of}
use Rattle.limits.specs.Questions.{Question, first_no}
use Rattle.limits.proofs.Laws.Choice.{pick_yes, pick_no}
use Rattle.limits.proofs.Laws.Promise.{answered-as, refusal-not-0}
use Rattle.buffers.specs.Buffers.{Writing, writing, WriteCall, WriteNumber}

module _ (qs : List Question) (done : Writing) (before after : List ℕ) where
  pub write-done : (n : ℕ) → 0 ≡ first_no qs → n ≡ done.count → after ≡ done.buffer → WriteCall qs done (Ok n) before after
  write-done n e c b = record { answered = record { number = e; value = c }; left = b; kept = tt }

  pub write-refused : (refusal : Refusal) → refusal_number refusal ≡ first_no qs → after ≡ before → WriteCall qs done (Err refusal) before after
  write-refused refusal e b = record { answered = record { number = e; value = tt }; left = tt; kept = b }

  -- what a function for C makes of it: the number, and a count of 0 where there is none
  pub write-number : (r : Result ℕ Refusal) → WriteCall qs done r before after → WriteNumber qs done before after (result_unwrap_or r 0) (number_of r)
  write-number (Ok n) w =
      record {
        number = w.answered.number;
        result = ap₂ writing w.answered.value w.left ∙ sym (pick_yes _ _ _ _ (eq-eqb _ _ (sym w.answered.number)) refl);
      }
  write-number (Err r) w =
      record {
        number = w.answered.number;
        result = ap (writing 0) w.kept ∙ sym (pick_no _ _ _ _ (ap (λ n. eqb n 0) (sym w.answered.number) ∙ refusal-not-0 r) refl);
      }

-- the same promise by other questions with the same first no
pub write-as : (qs qs' : List Question) (done : Writing) (r : Result ℕ Refusal) (before after : List ℕ) → first_no qs ≡ first_no qs'
    → WriteCall qs done r before after → WriteCall qs' done r before after
write-as qs qs' done r before after e w = record { answered = answered-as qs qs' r done.count e w.answered; left = w.left; kept = w.kept }

-- The questions of a reply.
use Prim.Native.Nat.{ℕ, ◌*◌, ◌≤◌, ◌<◌}
use mathlib.Core.Path.{◌≡◌, refl, sym}
use mathlib.Core.Bool.{Bool, true}
use mathlib.Core.List.{[], ◌∷◌}
use lib.Dec.{leb}
use borrow.Author.Tests.{ltb-true, lt-ltb, le-ltb, le-leb, lt-leb}
use Rattle.limits.specs.declared.answer.Refusal.{Refusal}
use Rattle.limits.specs.Answer.{refusal_number}
use Rattle.limits.specs.Lists.{all}
use Rattle.limits.specs.Questions.{ask, first_no}
use Rattle.limits.proofs.Laws.Choice.{pick_yes, pick_no}
use Rattle.limits.proofs.Laws.Promise.{refusal-not-0}
use Rattle.limits.proofs.Laws.Questions.{each, more_stays}
use Rattle.pad.specs.Window.{PadState}
use Rattle.pad.specs.Rules.{run, run_questions, reply_questions}

module _ (s : PadState) where
  pub run-passes : 0 < run s → 0 ≡ first_no (run_questions s)
  run-passes h = sym (pick_yes _ _ _ _ (lt-ltb 0 (run s) h) refl)

  pub run_none : run s ≤ 0 → 20 ≡ first_no (run_questions s)
  run_none h = sym (pick_no _ _ _ _ (le-ltb 0 (run s) h) refl)

  -- question 4 is put first; then the run's length is asked for
  module _ (sound : Bool) where
    pub run-found : 0 ≡ first_no (ask 4 sound ∷ run_questions s) → (sound ≡ true) × (0 < run s)
    unfolding all
    run-found e = let h = each (ask 4 sound ∷ run_questions s) refl (sym e) in (h.0, ltb-true 0 (run s) h.1.0)

    module _ (space : ℕ) where
      pub run-refused : (r : Refusal) → refusal_number r ≡ first_no (ask 4 sound ∷ run_questions s)
          → refusal_number r ≡ first_no (ask 4 sound ∷ reply_questions s space)
      run-refused r e = more_stays (ask 4 sound ∷ run_questions s) (refusal_number r) e (ask 21 (leb (16 * run s) space) ∷ []) (refusal-not-0 r)

      module _ (e : sound ≡ true) (h : 0 < run s) where
        pub reply-full : space < 16 * run s → 21 ≡ first_no (ask 4 sound ∷ reply_questions s space)
        reply-full k = sym (pick_yes _ _ _ _ e (pick_yes _ _ _ _ (lt-ltb 0 (run s) h) (pick_no _ _ _ _ (lt-leb (16 * run s) space k) refl)))

        pub reply-passes : 16 * run s ≤ space → 0 ≡ first_no (ask 4 sound ∷ reply_questions s space)
        reply-passes k = sym (pick_yes _ _ _ _ e (pick_yes _ _ _ _ (lt-ltb 0 (run s) h) (pick_yes _ _ _ _ (le-leb (16 * run s) space k) refl)))

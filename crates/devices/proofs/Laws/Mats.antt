-- What the parts of a mat's call give, put together as what it promises.
use Prim.Native.Nat.{ℕ, ◌%◌, ◌≤◌, ◌<◌}
use mathlib.Core.Path.{◌≡◌, refl, sym, ◌∙◌, ap, subst}
use mathlib.Core.Bool.{true}
use mathlib.Core.List.{List, ◌++◌}
use lib.ListN.{length}
use borrow.Author.Tests.{le-leb, lt-leb, eq-eqb, ne_eqb}
use Rattle.std.specs.Prelude.{Result, Ok, Err}
use Rattle.limits.specs.declared.Limits.{Limits}
use Rattle.limits.specs.declared.answer.Refusal.{Refusal}
use Rattle.limits.specs.declared.answer.Refusal.TheVariants.{ShortBuffer}
use Rattle.limits.specs.Answer.{refusal_number}
use Rattle.limits.specs.Lists.{all}
use Rattle.limits.specs.Questions.{Question, first_no, whole_rows}
use Rattle.limits.specs.Tables.{Data, Reply}
use Rattle.limits.proofs.Laws.Choice.{pick_yes, pick_no, both, two}
use Rattle.limits.proofs.Laws.Promise.{changed-sound, changed-refused, refusal-not-0, time-passed}
use Rattle.limits.proofs.Laws.Questions.{numbered, more_stays, more-passes, more-fails, behind-passed}
use Rattle.mat.specs.declared.Mat.{Mat}
use Rattle.mat.specs.Window.{MatState}
use Rattle.mat.specs.Rules.{Sending, send_questions, acknowledge_questions, acknowledging, ticked}
use Rattle.mat.specs.View.{mat_state, sound_mat, SendCall, AcknowledgeCall}
use Rattle.frames.specs.Layout.{frame_into, is_reply}
use Rattle.frames.specs.Rules.{space_questions}
use Rattle.devices.specs.Frames.{data_frame, reply_questions, reply_in}
use Rattle.devices.specs.Mats.{mat_device, sound_device, Sends, ReceiveCall, TickCall}
use Rattle.devices.proofs.Laws.Frames.{received-numbered}

-- 6 in front of the questions of a send
module _ (l : Limits) (s : MatState) (supply : List ℕ) where
  pub part-row : (length supply % 16 ≡ 0 → ⊥) → 6 ≡ first_no (whole_rows supply ++ send_questions l s supply)
  part-row ne = sym (pick_no _ _ _ _ (ne_eqb (length supply % 16) 0 ne) refl)

  pub whole : length supply % 16 ≡ 0 → first_no (whole_rows supply ++ send_questions l s supply) ≡ first_no (send_questions l s supply)
  whole e = pick_yes _ _ _ _ (eq-eqb (length supply % 16) 0 e) refl

  pub send-numbered : numbered (whole_rows supply ++ send_questions l s supply) ≡ true
  unfolding all
  send-numbered = refl

-- a sending, its own questions answered
module _ (l : Limits) (m : Mat) (qs : List Question) (done : Sending) (before : List ℕ) (s : sound_device (mat_device l m) ≡ true) where
  pub send-refused : (refusal : Refusal) → refusal_number refusal ≡ first_no qs → Sends qs done (mat_device l m) before (mat_device l m) before (Err refusal)
  send-refused refusal e =
      changed-sound _ _ _ _ _ _ _ _ _ s
      (changed-refused _ refusal _ _ _ _ _ _ (more_stays qs _ e (space_questions 36 before) (refusal-not-0 refusal)) refl)

  module _ (e : 0 ≡ first_no qs) (n : numbered qs ≡ true) where
    pub send-short : length before < 36 → Sends qs done (mat_device l m) before (mat_device l m) before (Err ShortBuffer)
    send-short h =
        changed-sound _ _ _ _ _ _ _ _ _ s
        (changed-refused _ ShortBuffer _ _ _ _ _ _ (more-fails qs 0 e 28 _ n refl (lt-leb 36 (length before) h)) refl)

    pub send-done : (asked : List Question) (x : Data) (m' : Mat) (after : List ℕ) (size : ℕ) → 36 ≤ length before → SendCall l asked (Ok x) done m m'
        → (after ≡ frame_into (data_frame l x) before) × (size ≡ 36) → Sends qs done (mat_device l m) before (mat_device l m') after (Ok size)
    send-done asked x m' after size h v w =
        changed-sound _ _ _ _ _ _ _ _ _ s
        (record {
          answered = record { number = more-passes qs 0 e 28 _ n refl (le-leb 36 (length before) h); value = w.1 };
          left = λ i. ((l, v.left i), (w.0 ∙ ap (λ y. frame_into (data_frame l y) before) v.answered.value) i);
          kept = tt;
          stays = λ k. let t = two _ _ k in both _ _ t.0 (v.stays t.1);
        })

-- a frame was taken in: what the mat does with its reply
module _ (l : Limits) (m m' : Mat) (bytes : List ℕ) (s : sound_device (mat_device l m) ≡ true) where
  pub reply-refused : (refusal : Refusal) → refusal_number refusal ≡ first_no (reply_questions l bytes) → ReceiveCall (mat_device l m) bytes (mat_device l m) (Err refusal)
  reply-refused refusal e =
      changed-sound _ _ _ _ _ _ _ _ _ s
      (changed-refused _ refusal _ _ _ _ _ _
      (more_stays (reply_questions l bytes) _ e (acknowledge_questions l (mat_state l.window m) (reply_in bytes)) (refusal-not-0 refusal)) refl)

  module _ (e : 0 ≡ first_no (reply_questions l bytes)) where
    then-asked : first_no (acknowledge_questions l (mat_state l.window m) (reply_in bytes))
        ≡ first_no (reply_questions l bytes ++ acknowledge_questions l (mat_state l.window m) (reply_in bytes))
    then-asked =
        sym (behind-passed (reply_questions l bytes) (acknowledge_questions l (mat_state l.window m) (reply_in bytes)) (received-numbered l bytes (is_reply bytes)) (sym e))

    handled : (r : Result ℕ Refusal) → AcknowledgeCall l (acknowledge_questions l (mat_state l.window m) (reply_in bytes)) r (acknowledging l (mat_state l.window m) (reply_in bytes)) m m'
        → ReceiveCall (mat_device l m) bytes (mat_device l m') r
    handled (Ok n) c =
        changed-sound _ _ _ _ _ _ _ _ _ s
        (record {
          answered = record { number = c.answered.number ∙ then-asked; value = c.answered.value };
          left = ap (λ y. (l, y)) c.left;
          kept = tt;
          stays = λ k. let t = two _ _ k in both _ _ t.0 (c.stays t.1);
        })
    handled (Err x) c =
        changed-sound _ _ _ _ _ _ _ _ _ s
        (changed-refused _ x _ _ _ _ _ _ (c.answered.number ∙ then-asked) (ap (mat_device l) c.kept))

    pub reply-handled : (x : Reply) (r : Result ℕ Refusal) → x ≡ reply_in bytes
        → AcknowledgeCall l (acknowledge_questions l (mat_state l.window m) x) r (acknowledging l (mat_state l.window m) x) m m'
        → ReceiveCall (mat_device l m) bytes (mat_device l m') r
    reply-handled x r is c =
        handled r (subst (λ y. AcknowledgeCall l (acknowledge_questions l (mat_state l.window m) y) r (acknowledging l (mat_state l.window m) y) m m') is c)

-- time has passed
pub tick-done : (l : Limits) (m m' : Mat) (d : ℕ) → sound_device (mat_device l m) ≡ true → 1 ≤ d
    → (sound_mat l m' ≡ true) × (mat_state l.window m' ≡ ticked d (mat_state l.window m)) → TickCall (mat_device l m) d (mat_device l m') (Ok tt)
tick-done l m m' d s h e =
    changed-sound _ _ _ _ _ _ _ _ _ s
    (record {
      answered = record { number = time-passed d h; value = refl };
      left = ap (λ y. (l, y)) e.1;
      kept = tt;
      stays = λ k. both _ _ (two _ _ k).0 e.0;
    })

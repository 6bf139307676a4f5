-- A send and a resend, by what is the same of both: what the frame that is written leaves in the world, and the answer.
use Prim.Native.Nat.{ℕ}
use mathlib.Core.Path.{◌≡◌, refl, sym, ◌∙◌, ap, ap₂}
use mathlib.Core.Bool.{Bool, true, false}
use mathlib.Core.List.{List, [], ◌∷◌, ◌++◌, map}
use lib.Dec.{leb, eqb}
use lib.ListN.{length, take}
use Rattle.std.specs.Prelude.{Ok, Err}
use Rattle.limits.specs.declared.Limits.{Limits}
use Rattle.limits.specs.declared.answer.Refusal.{Refusal}
use Rattle.limits.specs.Lists.{all}
use Rattle.limits.specs.Limits.{sound_limits}
use Rattle.limits.specs.Questions.{pick, Question, ask, first_no}
use Rattle.limits.specs.Events.{Event}
use Rattle.limits.specs.Tables.{on_body, put, sound_data}
use Rattle.limits.proofs.Laws.Mapped.{table-put}
use Rattle.limits.proofs.Laws.Promise.{sound-first, refusal-not-0}
use Rattle.mat.specs.declared.Mat.{Mat}
use Rattle.mat.specs.Rules.{Sending}
use Rattle.mat.specs.View.{mat_state}
use Rattle.pad.specs.declared.Pad.{Pad}
use Rattle.pad.specs.View.{pad_state}
use Rattle.frames.specs.Layout.{frame_into}
use Rattle.events.specs.State.{Rows}
use Rattle.events.specs.Rules.{sent_out, acted}
use Rattle.lists.specs.Runs.{buffer_left, continued, supply_left}
use Rattle.devices.specs.declared.MatDevice.{MatDevice}
use Rattle.devices.specs.Frames.{data_frame, data_in}
use Rattle.devices.specs.Mats.{mat_device, sound_device, Sends}
use Rattle.limits.specs.Answer.{refusal_number}
use Rattle.limits.proofs.Laws.Questions.{numbered, front-passed}
use Rattle.agreement.specs.Agreed.{never_full}
use Rattle.agreement.proofs.Laws.Codes.{not4, first_passes}
use Rattle.world.specs.Chains.{for_lent, if_lent}
use Rattle.world.proofs.Laws.Steps.{Steps, answer_at, event-done, call-refused, not-asked, never-13}
use Rattle.world.specs.World.{InAir, with_mat, put_in_air, frame_in_air}
use Rattle.world.specs.TwoDevices.{as_link, good_data}
use Rattle.world.proofs.Laws.Air.{all-put, data-in-air, data-good}
use Rattle.world.proofs.Laws.Stands.{world, Stands, beside-record}

-- What a send or a resend leaves that was done, where its message is sound.
module _ (l : Limits) (g : sound_limits l ≡ true) (m : Mat) (p : Pad) (ds rs : List InAir) (n : Rows) (b : List ℕ)
    (st : Stands l (world l m p ds rs n b)) (qs : List Question) (done : Sending) (s : sound_data l done.message ≡ true) (row : length done.message.row ≡ 16)
    (before after : List ℕ) (mat : MatDevice) (v : ℕ) (c : Sends qs done (mat_device l m) before mat after (Ok v)) (k : Rows) where
  limits : mat.limits ≡ l
  limits = ap (λ y. y.0.0) c.left

  in-air : put_in_air v after ds ≡ put (frame_in_air 36 (frame_into (data_frame l done.message) before)) ds
  unfolding pick
  in-air = ap₂ (λ u y. put_in_air u y ds) c.answered.value (ap (λ y. y.1) c.left)

  sends-stands : Stands l (with_mat (world l m p ds rs n b) mat (put_in_air v after ds) rs k)
  sends-stands =
      record {
        mat-limits = limits;
        pad-limits = refl;
        mat-sound = c.stays st.mat-sound;
        pad-sound = st.pad-sound;
        datas = ap (all (good_data l)) in-air ∙ all-put (good_data l) _ ds st.datas (data-good l g before done.message s row);
        replies = st.replies;
      }

  sends-moved : as_link l (with_mat (world l m p ds rs n b) mat (put_in_air v after ds) rs k)
      ≡ continued (as_link l (world l m p ds rs n b))
      (record { state = sent_out (as_link l (world l m p ds rs n b)).state done; counts = k; buffer = buffer_left (as_link l (world l m p ds rs n b)) })
  sends-moved =
      (λ i. record {
        state =
            record {
              limits = l;
              mat = (ap (λ (o : Limits). mat_state o.window mat.mat) (sym limits) ∙ ap (λ y. y.0.1) c.left) i;
              pad = pad_state l.window p;
              datas = (ap (map (on_body data_in)) in-air ∙ sym (table-put (on_body data_in) _ ds) ∙ ap (λ x. put x (map (on_body data_in) ds)) (data-in-air l g before done.message s row)) i;
              replies = (as_link l (world l m p ds rs n b)).state.replies;
            };
        counts = (as_link l (with_mat (world l m p ds rs n b) mat (put_in_air v after ds) rs k)).counts;
        buffer = b;
      })
      ∙ beside-record (as_link l (world l m p ds rs n b)) (sent_out (as_link l (world l m p ds rs n b)).state done) k

-- `asked` is what the call asks between 4 and 28, and `qs` of it what the event asks before 13.
module _ (l : Limits) (g : sound_limits l ≡ true) (supply : List ℕ) (m : Mat) (p : Pad) (ds rs : List InAir) (n : Rows) (b : List ℕ)
    (st : Stands l (world l m p ds rs n b)) (e : Event) (asked qs : List Question) (done : Sending) (k : Rows) (some : numbered qs ≡ true)
    (no-4 : (space : Bool) → all (λ (q : Question). not4 q.code) (asked ++ (ask 28 space ∷ [])) ≡ true)
    (room : Bool) (answer : answer_at supply (as_link l (world l m p ds rs n b)) e ≡ first_no (qs ++ (ask 13 room ∷ [])))
    (never : never_full (answer_at supply (as_link l (world l m p ds rs n b)) e) ≡ true) where
  -- 13 behind the event's own questions is never answered no
  with-13 : first_no qs ≡ answer_at supply (as_link l (world l m p ds rs n b)) e
  with-13 = sym (answer ∙ not-asked qs 13 room some (λ i. never-13 _ never (answer ∙ i)))

  module _ (before after : List ℕ) (mat : MatDevice) where
    module _ (v : ℕ) (c : Sends asked done (mat_device l m) before mat after (Ok v)) where
      all-passed : first_no asked ≡ 0
      all-passed =
          front-passed asked (ask 28 (leb 36 (length before)) ∷ [])
          (sym (sound-first (asked ++ (ask 28 (leb 36 (length before)) ∷ [])) (sound_device (mat_device l m)) st.mat-sound) ∙ sym c.answered.number)

      pub sends-done : (first_no asked ≡ 0 → first_no qs ≡ 0) → (first_no asked ≡ 0 → sound_data l done.message ≡ true) → (first_no asked ≡ 0 → length done.message.row ≡ 16)
          → (first_no asked ≡ 0
          → acted (supply_left supply (as_link l (world l m p ds rs n b))) (buffer_left (as_link l (world l m p ds rs n b))) (as_link l (world l m p ds rs n b)).state e
          ≡ record { state = sent_out (as_link l (world l m p ds rs n b)).state done; counts = k; buffer = buffer_left (as_link l (world l m p ds rs n b)) })
          → Stands l (with_mat (world l m p ds rs n b) mat (put_in_air v after ds) rs k)
          × Steps supply (as_link l (world l m p ds rs n b)) (as_link l (with_mat (world l m p ds rs n b) mat (put_in_air v after ds) rs k)) (e ∷ []) (0 ∷ [])
      sends-done own sound row acts = (
        sends-stands l g m p ds rs n b st asked done (sound all-passed) (row all-passed) before after mat v c k,
        event-done supply (as_link l (world l m p ds rs n b)) e _ (sym (own all-passed) ∙ with-13)
            (sends-moved l g m p ds rs n b st asked done (sound all-passed) (row all-passed) before after mat v c k ∙ ap (continued (as_link l (world l m p ds rs n b))) (sym (acts all-passed))),
      )

    module _ (r : Refusal) (c : Sends asked done (mat_device l m) before mat after (Err r)) where
      number-is : refusal_number r ≡ first_no (asked ++ (ask 28 (leb 36 (length before)) ∷ []))
      number-is = c.answered.number ∙ sound-first (asked ++ (ask 28 (leb 36 (length before)) ∷ [])) (sound_device (mat_device l m)) st.mat-sound

      pub sends-refused : ((space : Bool) (j : ℕ) → eqb j 0 ≡ false → for_lent j ≡ false → j ≡ first_no (asked ++ (ask 28 space ∷ [])) → j ≡ first_no qs)
          → (mat ≡ mat_device l m)
          × Steps supply (as_link l (world l m p ds rs n b)) (as_link l (world l m p ds rs n b)) (if_lent (refusal_number r) e)
          (take (length (if_lent (refusal_number r) e)) (refusal_number r ∷ []))
          × (not4 (refusal_number r) ≡ true)
      sends-refused own = (
        ap (λ y. y.0) c.kept,
        call-refused supply (as_link l (world l m p ds rs n b)) e (refusal_number r) (refusal-not-0 r)
            (λ q. own (leb 36 (length before)) (refusal_number r) (refusal-not-0 r) q number-is ∙ with-13),
        ap not4 number-is ∙ first_passes not4 (asked ++ (ask 28 (leb 36 (length before)) ∷ [])) refl (no-4 (leb 36 (length before))),
      )

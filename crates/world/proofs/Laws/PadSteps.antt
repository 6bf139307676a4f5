-- A reply of the pad is what the link's event does.
use Prim.Native.Nat.{ℕ, ◌*◌, ◌≤◌}
use lib.ListN.{length, take, drop}
use Rattle.devices.specs.Pads.{pad_device, sound_device, ReplyCall}
use mathlib.Core.Path.{◌≡◌, refl, sym, ◌∙◌, ap, ap₂}
use mathlib.Core.Bool.{true, false}
use mathlib.Core.List.{List, ◌∷◌, ◌++◌, map}
use lib.Dec.{eqb, leb}
use borrow.Author.Tests.{ltb-true, leb-true}
use Rattle.std.specs.Prelude.{Result, Ok, Err}
use Rattle.limits.specs.declared.Limits.{Limits}
use Rattle.limits.specs.declared.answer.Refusal.{Refusal}
use Rattle.limits.specs.Answer.{refusal_number}
use Rattle.limits.specs.Lists.{all}
use Rattle.limits.specs.Limits.{sound_limits}
use Rattle.limits.specs.Questions.{pick, ask, first_no}
use Rattle.limits.specs.Events.{Event, reply}
use Rattle.limits.specs.Tables.{has_room, on_body, put, sound_reply}
use Rattle.limits.proofs.Laws.Choice.{and_right, pick_no}
use Rattle.limits.proofs.Laws.Mapped.{table-put}
use Rattle.limits.proofs.Laws.Promise.{sound-first, refusal-not-0}
use Rattle.limits.proofs.Laws.Questions.{each}
use Rattle.mat.specs.declared.Mat.{Mat}
use Rattle.mat.specs.View.{mat_state}
use Rattle.pad.specs.declared.Pad.{Pad}
use Rattle.pad.specs.Rules.{run, reply_questions, replying}
use Rattle.pad.specs.View.{pad_state, sound_pad}
use Rattle.pad.proofs.Laws.Messages.{replying-sound}
use Rattle.frames.specs.Layout.{frame_into}
use Rattle.frames.specs.Rules.{space_questions}
use Rattle.events.specs.State.{Rows, recorded_by, more_rows}
use Rattle.lists.specs.Runs.{continued}
use Rattle.agreement.specs.Agreed.{never_full}
use Rattle.agreement.proofs.Laws.Codes.{not4, first_passes}
use Rattle.devices.specs.declared.PadDevice.{PadDevice}
use Rattle.devices.specs.declared.Recorded.{Recorded}
use Rattle.devices.specs.Frames.{reply_frame, reply_in}
use Rattle.world.specs.World.{InAir, replied, following, put_in_air, frame_in_air}
use Rattle.world.specs.Chains.{Met, for_lent}
use Rattle.world.specs.TwoDevices.{as_link, good_reply}
use Rattle.world.proofs.Laws.Air.{all-put, reply-good}
use Rattle.world.proofs.Laws.Steps.{answer_at, event-done, call-refused, not-asked, without-28, never-18}
use Rattle.world.proofs.Laws.Fronts.{refused-reply, asks-reply, same-record}
use Rattle.world.proofs.Laws.Stands.{world, Stands, Follows, still, counts-none}

module _ (l : Limits) (g : sound_limits l ≡ true) (supply first : List ℕ) (m : Mat) (p : Pad) (ds rs : List InAir) (n : Rows) (b : List ℕ)
    (st : Stands l (world l m p ds rs n b)) (never : (e : Event) → never_full (answer_at supply (as_link l (world l m p ds rs n b)) e) ≡ true) where
  pad-sound : sound_pad l p ≡ true
  pad-sound = and_right (sound_limits l) (sound_pad l p) st.pad-sound

  -- the event of a reply asks 18, which is never answered no
  with-18 : first_no (reply_questions (pad_state l.window p) (length (drop (16 * n.recorded) b))) ≡ answer_at supply (as_link l (world l m p ds rs n b)) reply
  unfolding all
  with-18 =
      sym
      (not-asked (reply_questions (pad_state l.window p) (length (drop (16 * n.recorded) b))) 18 (has_room (as_link l (world l m p ds rs n b)).state.replies) refl
      (λ i. never-18 _ (never reply) i))

  module _ (rows rows' before after : List ℕ) (pad : PadDevice) where
    -- what the call asks behind 4
    behind-4 : (j : ℕ) → j ≡ first_no (ask 4 (sound_device (pad_device l p)) ∷ (reply_questions (pad_state l.window p) (length rows) ++ space_questions 5 before))
        → j ≡ first_no (reply_questions (pad_state l.window p) (length rows) ++ space_questions 5 before)
    behind-4 j e = e ∙ sound-first (reply_questions (pad_state l.window p) (length rows) ++ space_questions 5 before) (sound_device (pad_device l p)) st.pad-sound

    reply-number : (j : ℕ) → for_lent j ≡ false
        → j ≡ first_no (ask 4 (sound_device (pad_device l p)) ∷ (reply_questions (pad_state l.window p) (length rows) ++ space_questions 5 before))
        → j ≡ first_no (reply_questions (pad_state l.window p) (length rows))
    unfolding all
    reply-number j q e = without-28 j q (reply_questions (pad_state l.window p) (length rows)) refl (leb 5 (length before)) (behind-4 j e)

    module _ (v : Recorded) (c : ReplyCall (pad_device l p) rows before pad rows' after (Ok v)) where
      reply-passed : first_no (reply_questions (pad_state l.window p) (length rows)) ≡ 0
      reply-passed = sym (reply-number 0 refl c.answered.number)

      reply-fits : 16 * run (pad_state l.window p) ≤ length rows
      unfolding all
      reply-fits =
          let q = each (reply_questions (pad_state l.window p) (length rows)) refl reply-passed in
          leb-true (16 * run (pad_state l.window p)) (length rows) q.1.0

      reply-sound : sound_reply l (replying l (pad_state l.window p) rows).reply ≡ true
      unfolding all
      reply-sound =
          let q = each (reply_questions (pad_state l.window p) (length rows)) refl reply-passed in
          replying-sound l g p pad-sound rows (ltb-true 0 (run (pad_state l.window p)) q.0)

      reply-limits : pad.limits ≡ l
      reply-limits = ap (λ y. y.0.0) c.left

      reply-in-air : put_in_air v.written after rs
          ≡ put (frame_in_air 5 (frame_into (reply_frame l (replying l (pad_state l.window p) rows).reply) before)) rs
      unfolding pick
      reply-in-air = ap₂ (λ u y. put_in_air u y rs) (ap (λ (x : Recorded). x.written) c.answered.value) (ap (λ y. y.2) c.left)

  pub replied-follows : (rows rows' before after : List ℕ) (pad : PadDevice) (r : Result Recorded Refusal)
      → Met supply (world l m p ds rs n b) (replied rows rows' before after pad r) → Follows l supply (world l m p ds rs n b) (replied rows rows' before after pad r)
  unfolding following pick continued replying all
  replied-follows rows rows' before after pad (Ok v) c =
      record {
        stands =
            record {
              mat-limits = refl;
              pad-limits = reply-limits rows rows' before after pad v c.1;
              mat-sound = st.mat-sound;
              pad-sound = c.1.stays st.pad-sound;
              datas = st.datas;
              replies =
                  ap (all (good_reply l)) (reply-in-air rows rows' before after pad v c.1)
                  ∙ all-put (good_reply l) _ rs st.replies (reply-good l g before _ (reply-sound rows rows' before after pad v c.1));
            };
        steps =
            event-done supply (as_link l (world l m p ds rs n b)) reply _
            (sym (asks-reply rows (drop (16 * n.recorded) b) c.0 (pad_state l.window p) (reply-passed rows rows' before after pad v c.1)) ∙ with-18)
            (λ i. record {
              state =
                  record {
                    limits = l;
                    mat = mat_state l.window m;
                    pad = (ap (λ (o : Limits). pad_state o.window pad.pad) (sym (reply-limits rows rows' before after pad v c.1)) ∙ ap (λ y. y.0.1) c.1.left) i;
                    datas = (as_link l (world l m p ds rs n b)).state.datas;
                    replies = (ap (map (on_body reply_in)) (reply-in-air rows rows' before after pad v c.1) ∙ sym (table-put (on_body reply_in) _ rs)) i;
                  };
              counts = more_rows n (recorded_by (ap (λ (x : Recorded). x.rows) c.1.answered.value i));
              buffer =
                  take (16 * n.recorded) b
                  ++ (ap (λ y. y.1 ++ drop (length rows) (drop (16 * n.recorded) b)) c.1.left
                  ∙ same-record rows (drop (16 * n.recorded) b) c.0 l (pad_state l.window p) (reply-fits rows rows' before after pad v c.1)) i;
            });
        alike = refl;
        not-4 = refl;
      }
  replied-follows rows rows' before after pad (Err e) c =
      still l supply (world l m p ds rs n b) (replied rows rows' before after pad (Err e))
      (λ i. record {
        mat = (world l m p ds rs n b).mat;
        pad = ap (λ y. y.0) c.1.kept i;
        datas = ds;
        replies = rs;
        counts = counts-none n i;
        buffer = pick_no (eqb (refusal_number e) 0) (take (16 * n.recorded) b ++ (rows' ++ drop (length rows) (drop (16 * n.recorded) b))) b b (refusal-not-0 e) refl i;
      })
      st
      (call-refused supply (as_link l (world l m p ds rs n b)) reply (refusal_number e) (refusal-not-0 e)
      (λ q. refused-reply (pad_state l.window p) rows (drop (16 * n.recorded) b) (refusal_number e) (refusal-not-0 e) q
      (reply-number rows rows' before after pad (refusal_number e) q c.1.answered.number) ∙ with-18))
      refl
      (ap not4 (behind-4 rows rows' before after pad (refusal_number e) c.1.answered.number)
      ∙ first_passes not4 (reply_questions (pad_state l.window p) (length rows) ++ space_questions 5 before) refl refl)

-- What happens at the mat is what the link's event does: a send, a resend, a reply that arrives.
use Prim.Native.Nat.{ℕ, ◌+◌, ◌-◌, ◌*◌, ◌%◌, ◌≤◌, ◌<◌}
use mathlib.Core.Path.{◌≡◌, refl, sym, ◌∙◌, ap}
use mathlib.Core.Bool.{true}
use mathlib.Core.List.{List, ◌++◌, [], ◌∷◌}
use native.Mathlib.Omega.{arith}
use lib.Dec.{eqb}
use lib.ListN.{length, drop, get_or, length-drop}
use lib.Seq.{length-take-le}
use borrow.Author.Tests.{ltb-true, leb-true, eqb-true}
use Rattle.std.specs.Prelude.{Result, Ok, Err}
use Rattle.limits.specs.declared.Limits.{Limits}
use Rattle.limits.specs.declared.answer.Refusal.{Refusal}
use Rattle.limits.specs.Cells.{row_at}
use Rattle.limits.specs.Lists.{all, tab}
use Rattle.limits.specs.Limits.{sound_limits}
use Rattle.limits.specs.Questions.{pick, first_no, whole_rows, ask, Question}
use Rattle.limits.specs.Events.{Event, send, resend, arrive_reply}
use Rattle.limits.specs.Tables.{has_room, Message, Reply, on_body, remove, no_reply}
use Rattle.limits.proofs.Laws.Choice.{and_right, pick_yes}
use Rattle.limits.proofs.Laws.Lists.{length-tab, get_or-tab, all-at}
use Rattle.limits.proofs.Laws.Questions.{each, behind-passed, passed_first}
use Rattle.mat.specs.declared.Mat.{Mat}
use Rattle.mat.specs.Window.{MatState, no_row}
use Rattle.mat.specs.Rules.{send_questions, sending, resend_questions, resending, acknowledge_questions, acknowledging}
use Rattle.mat.specs.View.{mat_state, sound_mat}
use Rattle.mat.proofs.Laws.Messages.{sending-sound, resending-sound}
use Rattle.pad.specs.declared.Pad.{Pad}
use Rattle.events.specs.State.{LinkState, Moved, Rows, no_rows, one_sent, acknowledged_by, more_rows}
use Rattle.unbounded.specs.Ends.{Ends}
use Rattle.agreement.specs.Agreed.{never_full}
use Rattle.agreement.specs.Reading.{reading, kept_of}
use Rattle.agreement.proofs.Laws.Track.{Track}
use Rattle.devices.specs.declared.MatDevice.{MatDevice}
use Rattle.world.specs.World.{InAir, sent, resent, following, reply_handed}
use Rattle.world.specs.Chains.{Met, bytes_at}
use Rattle.world.specs.TwoDevices.{as_link, good_reply}
use Rattle.world.proofs.Laws.Steps.{answer_at, without-28, without-6, event-done, event-refused}
use Rattle.world.proofs.Laws.Stands.{world, Stands, Follows, still, refused-counts, counts-none, refused-air, beside-record}
use Rattle.events.specs.Rules.{sent_out, reply_at}
use Rattle.lists.specs.Runs.{buffer_left}
use Rattle.world.proofs.Laws.Fronts.{refused-send, asks-send, same-send}
use Rattle.world.proofs.Laws.Sends.{sends-done, sends-refused}
use Rattle.limits.specs.Answer.{refusal_number}
use Rattle.limits.proofs.Laws.Mapped.{table_at, table-remove}
use Rattle.limits.proofs.Laws.Promise.{sound-first, refusal-not-0}
use Rattle.pad.specs.View.{pad_state}
use Rattle.frames.specs.Layout.{is_reply}
use Rattle.agreement.proofs.Laws.Codes.{not4, first_passes}
use Rattle.devices.specs.Mats.{mat_device, sound_device}
use Rattle.devices.specs.Frames.{reply_questions, reply_in}
use Rattle.devices.proofs.Laws.Frames.{received-numbered}
use Rattle.world.proofs.Laws.Air.{in-table, all-removed}

-- rows of the supply are whole
row-whole : (supply : List ℕ) (m : ℕ) → 16 * (m + 1) ≤ length supply → length (row_at supply m) ≡ 16
row-whole supply m h = let d = length-drop (16 * m) supply in length-take-le 16 (drop (16 * m) supply) (omega arith)

sent-row : (l : Limits) (y : MatState) (supply : List ℕ) → first_no (send_questions l y supply) ≡ 0 → 16 ≤ length supply
unfolding all
sent-row l y supply e = let q = each (send_questions l y supply) refl e in leb-true 16 (length supply) q.1.0

sent-whole : (l : Limits) (y : MatState) (supply : List ℕ) → first_no (send_questions l y supply) ≡ 0 → length (sending l y supply).message.row ≡ 16
unfolding sending
sent-whole l y supply e = length-take-le 16 supply (sent-row l y supply e)

-- a kept row that is sent again is one of the supply
again-whole : (l : Limits) (supply first : List ℕ) (y : Moved) (s : Ends) → Track l supply first y s → (k : ℕ)
    → first_no (resend_questions l y.state.mat k) ≡ 0 → length (resending l y.state.mat k).message.row ≡ 16
unfolding reading all resending
again-whole l supply first y s t k e =
    let h = here in
    ap (λ (z : LinkState). length (get_or z.mat.rows k no_row).cells) t.shows.state
    ∙ ap (λ (x : Rattle.mat.specs.Window.Kept). length x.cells) (get_or-tab (s.next - s.oldest) (λ i. kept_of s (s.oldest + i)) k no_row here)
    ∙ ap length (t.carried.kept (s.oldest + k) (omega arith))
    ∙ row-whole supply (s.oldest + k) (let f = t.carried.supplied in omega arith)
  where
    here : k < s.next - s.oldest
    here =
        let q = each (resend_questions l (reading l s).mat k) refl (sym (ap (λ (z : LinkState). first_no (resend_questions l z.mat k)) t.shows.state) ∙ e) in
        let n = length-tab (s.next - s.oldest) (λ i. kept_of s (s.oldest + i)) in
        let r = ltb-true k (length (tab (s.next - s.oldest) (λ i. kept_of s (s.oldest + i)))) q.0 in
        omega arith

module _ (l : Limits) (g : sound_limits l ≡ true) (supply first : List ℕ) (m : Mat) (p : Pad) (ds rs : List InAir) (n : Rows) (b : List ℕ)
    (st : Stands l (world l m p ds rs n b)) (s : Ends) (t : Track l supply first (as_link l (world l m p ds rs n b)) s)
    (never : (e : Event) → never_full (answer_at supply (as_link l (world l m p ds rs n b)) e) ≡ true) where
  mat-sound : sound_mat l m ≡ true
  mat-sound = and_right (sound_limits l) (sound_mat l m) st.mat-sound

  pub sent-follows : (lent before after : List ℕ) (mat : MatDevice) (r : Result ℕ Refusal) → Met supply (world l m p ds rs n b) (sent lent before after mat r)
      → Follows l supply (world l m p ds rs n b) (sent lent before after mat r)
  unfolding following pick all
  sent-follows lent before after mat (Ok v) c =
      let own : first_no (whole_rows lent ++ send_questions l (mat_state l.window m) lent) ≡ 0 → first_no (send_questions l (mat_state l.window m) lent) ≡ 0 =
      λ e. (passed_first 6 (eqb (length lent % 16) 0) (send_questions l (mat_state l.window m) lent) refl e).1 in
      let f =
      sends-done l g supply m p ds rs n b st send (whole_rows lent ++ send_questions l (mat_state l.window m) lent)
      (send_questions l (mat_state l.window m) (drop (16 * n.sent) supply)) (sending l (mat_state l.window m) lent) one_sent refl
      (λ space. refl) (has_room (as_link l (world l m p ds rs n b)).state.datas) refl (never send) before after mat v c.1
      (λ e. asks-send lent (drop (16 * n.sent) supply) c.0 l (mat_state l.window m) (own e))
      (λ e. sending-sound l m g mat-sound lent (own e)) (λ e. sent-whole l (mat_state l.window m) lent (own e))
      (λ e. ap
      (λ x. record {
        state = sent_out (as_link l (world l m p ds rs n b)).state x;
        counts = one_sent;
        buffer = buffer_left (as_link l (world l m p ds rs n b));
      })
      (sym (same-send lent (drop (16 * n.sent) supply) c.0 l (mat_state l.window m) (sent-row l (mat_state l.window m) lent (own e))))) in
      record { stands = f.0; steps = f.1; alike = refl; not-4 = refl }
  sent-follows lent before after mat (Err e) c =
      let f =
      sends-refused l g supply m p ds rs n b st send (whole_rows lent ++ send_questions l (mat_state l.window m) lent)
      (send_questions l (mat_state l.window m) (drop (16 * n.sent) supply)) (sending l (mat_state l.window m) lent) one_sent refl
      (λ space. refl) (has_room (as_link l (world l m p ds rs n b)).state.datas) refl (never send) before after mat e c.1
      (λ space j z q i. refused-send l (mat_state l.window m) lent (drop (16 * n.sent) supply) j z q
      (without-6 j q (send_questions l (mat_state l.window m) lent) refl space (eqb (length lent % 16) 0) i)) in
      still l supply (world l m p ds rs n b) (sent lent before after mat (Err e))
      (λ i. record { mat = f.0 i; pad = (world l m p ds rs n b).pad; datas = ds; replies = rs; counts = refused-counts e one_sent n i; buffer = b })
      st f.1 refl f.2

  pub resent-follows : (k : ℕ) (before after : List ℕ) (mat : MatDevice) (r : Result ℕ Refusal) → Met supply (world l m p ds rs n b) (resent k before after mat r)
      → Follows l supply (world l m p ds rs n b) (resent k before after mat r)
  unfolding following pick all
  resent-follows k before after mat (Ok v) c =
      let f =
      sends-done l g supply m p ds rs n b st (resend k) (resend_questions l (mat_state l.window m) k) (resend_questions l (mat_state l.window m) k)
      (resending l (mat_state l.window m) k) no_rows refl (λ space. refl)
      (has_room (as_link l (world l m p ds rs n b)).state.datas) refl (never (resend k)) before after mat v c (λ e. e) (resending-sound l m g mat-sound k)
      (again-whole l supply first (as_link l (world l m p ds rs n b)) s t k) (λ e. refl) in
      record { stands = f.0; steps = f.1; alike = refl; not-4 = refl }
  resent-follows k before after mat (Err e) c =
      let f =
      sends-refused l g supply m p ds rs n b st (resend k) (resend_questions l (mat_state l.window m) k) (resend_questions l (mat_state l.window m) k)
      (resending l (mat_state l.window m) k) no_rows refl (λ space. refl)
      (has_room (as_link l (world l m p ds rs n b)).state.datas) refl (never (resend k)) before after mat e c
      (λ space j z q. without-28 j q (resend_questions l (mat_state l.window m) k) refl space) in
      still l supply (world l m p ds rs n b) (resent k before after mat (Err e))
      (λ i. record { mat = f.0 i; pad = (world l m p ds rs n b).pad; datas = ds; replies = rs; counts = counts-none n i; buffer = b })
      st f.1 refl f.2

  module _ (k : ℕ) (h : k < length rs) where
    reply-passes : first_no (reply_questions l (bytes_at rs k)) ≡ 0
    reply-passes = eqb-true (first_no (reply_questions l (bytes_at rs k))) 0 (all-at (good_reply l) rs k (record { body = []; life = 0 }) h st.replies)

    reply-is : reply_at (as_link l (world l m p ds rs n b)).state k ≡ reply_in (bytes_at rs k)
    reply-is = ap (λ (x : Message Reply). x.body) (table_at (on_body reply_in) rs k (record { body = []; life = 0 }) no_reply h)

    reply-answer : (j : ℕ)
        → j ≡ first_no (ask 4 (sound_device (mat_device l m)) ∷ (reply_questions l (bytes_at rs k) ++ acknowledge_questions l (mat_state l.window m) (reply_in (bytes_at rs k))))
        → (j ≡ first_no (acknowledge_questions l (mat_state l.window m) (reply_in (bytes_at rs k))))
        × (j ≡ answer_at supply (as_link l (world l m p ds rs n b)) (arrive_reply k))
    reply-answer j e =
        (own, own ∙ sym (pick_yes _ _ _ _ (in-table reply_in rs k h) (ap (λ x. first_no (acknowledge_questions l (mat_state l.window m) x)) reply-is)))
      where
        asked : List Question
        asked = acknowledge_questions l (mat_state l.window m) (reply_in (bytes_at rs k))

        own : j ≡ first_no asked
        own =
            e
            ∙ sound-first (reply_questions l (bytes_at rs k) ++ asked) (sound_device (mat_device l m)) st.mat-sound
            ∙ behind-passed (reply_questions l (bytes_at rs k)) asked (received-numbered l (bytes_at rs k) (is_reply (bytes_at rs k))) reply-passes

  pub reply-follows : (k : ℕ) (mat : MatDevice) (r : Result ℕ Refusal) → Met supply (world l m p ds rs n b) (reply_handed k mat r)
      → Follows l supply (world l m p ds rs n b) (reply_handed k mat r)
  unfolding following pick all
  reply-follows k mat (Ok v) c =
      record {
        stands =
            record {
              mat-limits = ap (λ y. y.0) c.1.left;
              pad-limits = refl;
              mat-sound = c.1.stays st.mat-sound;
              pad-sound = st.pad-sound;
              datas = st.datas;
              replies = all-removed (good_reply l) k rs st.replies;
            };
        steps =
            event-done supply (as_link l (world l m p ds rs n b)) (arrive_reply k) _ (reply-answer k c.0 0 c.1.answered.number).1
            ((λ i. record {
              state =
                  record {
                    limits = l;
                    mat =
                        (ap (λ (o : Limits). mat_state o.window mat.mat) (sym (ap (λ y. y.0) c.1.left)) ∙ ap (λ y. y.1) c.1.left
                        ∙ ap (λ x. (acknowledging l (mat_state l.window m) x).state) (sym (reply-is k c.0))) i;
                    pad = pad_state l.window p;
                    datas = (as_link l (world l m p ds rs n b)).state.datas;
                    replies = sym (table-remove (on_body reply_in) k rs) i;
                  };
              counts = more_rows n (acknowledged_by ((c.1.answered.value ∙ ap (λ x. (acknowledging l (mat_state l.window m) x).passed) (sym (reply-is k c.0))) i));
              buffer = b;
            })
            ∙ beside-record (as_link l (world l m p ds rs n b)) _ _);
        alike = refl;
        not-4 = refl;
      }
  reply-follows k mat (Err e) c =
      let a = reply-answer k c.0 (refusal_number e) c.1.answered.number in
      still l supply (world l m p ds rs n b) (reply_handed k mat (Err e))
      (λ i. record { mat = c.1.kept i; pad = (world l m p ds rs n b).pad; datas = ds; replies = refused-air e (remove k rs) rs i; counts = counts-none n i; buffer = b })
      st (event-refused supply (as_link l (world l m p ds rs n b)) (arrive_reply k) (refusal_number e) (refusal-not-0 e) a.1) refl
      (ap not4 a.0 ∙ first_passes not4 (acknowledge_questions l (mat_state l.window m) (reply_in (bytes_at rs k))) refl refl)

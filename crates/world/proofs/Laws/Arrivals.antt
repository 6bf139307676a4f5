-- Data handed to the pad are what the link's event does.
use Prim.Native.Nat.{ℕ, ◌*◌, ◌<◌}
use Rattle.pad.specs.Rules.{Arrival, arrival}
use Rattle.devices.specs.Frames.{data_questions, reply_frame, reply_in, data_in}
use Rattle.devices.specs.Pads.{pad_device, sound_device, ReceiveCall}
use mathlib.Core.Path.{◌≡◌, refl, sym, ◌∙◌, ap, ap₂}
use mathlib.Core.Bool.{Bool, true, false, not, ◌||◌, true≢false, false≢true}
use mathlib.Core.List.{List, [], ◌∷◌, ◌++◌, map}
use lib.Dec.{eqb, ltb, leb}
use lib.ListN.{length}
use borrow.Author.Tests.{eqb-true}
use Rattle.std.specs.Prelude.{Result, Ok, Err}
use Rattle.limits.specs.declared.Limits.{Limits}
use Rattle.limits.specs.declared.answer.Refusal.{Refusal}
use Rattle.limits.specs.Answer.{refusal_number}
use Rattle.limits.specs.Lists.{all}
use Rattle.limits.specs.Limits.{sound_limits}
use Rattle.limits.specs.Questions.{pick, Question, ask, first_no}
use Rattle.limits.specs.Events.{Event, arrive_data}
use Rattle.limits.specs.Tables.{Message, Data, Reply, has_room, on_body, put, remove, no_data, sound_reply}
use Rattle.limits.proofs.Laws.Choice.{pick_yes, pick_no, test}
use Rattle.limits.proofs.Laws.Good.{good}
use Rattle.limits.proofs.Laws.Lists.{all-at}
use Rattle.limits.proofs.Laws.Mapped.{table_at, table-remove, table-put}
use Rattle.limits.proofs.Laws.Messages.{message-low}
use Rattle.limits.proofs.Laws.Promise.{sound-first, refusal-not-0}
use Rattle.limits.proofs.Laws.Questions.{behind-passed}
use Rattle.limits.specs.Ring.{distance}
use Rattle.mat.specs.declared.Mat.{Mat}
use Rattle.mat.specs.View.{mat_state}
use Rattle.pad.specs.declared.Pad.{Pad}
use Rattle.pad.specs.Window.{PadState}
use Rattle.pad.specs.View.{pad_state}
use Rattle.pad.proofs.Laws.Messages.{single-sound}
use Rattle.frames.specs.Layout.{frame_into, is_data}
use Rattle.frames.specs.Rules.{space_questions}
use Rattle.events.specs.State.{LinkState, Rows, no_rows, more_rows}
use Rattle.events.specs.Rules.{arrival_at, taken}
use Rattle.agreement.specs.Agreed.{never_full}
use Rattle.agreement.proofs.Laws.Codes.{not4, first_passes}
use Rattle.devices.specs.declared.PadDevice.{PadDevice}
use Rattle.devices.proofs.Laws.Frames.{received-numbered, data-taken}
use Rattle.world.specs.World.{InAir, data_handed, following, put_in_air, frame_in_air}
use Rattle.world.specs.Chains.{for_lent, bytes_at}
use Rattle.world.specs.TwoDevices.{as_link, good_data, good_reply}
use Rattle.world.proofs.Laws.Air.{in-table, all-removed, all-put, reply-good}
use Rattle.world.proofs.Laws.Steps.{answer_at, event-done, call-refused, not-asked, without-28, never-18}
use Rattle.world.proofs.Laws.Stands.{world, Stands, Follows, still, refused-air, beside-record, counts-none}

-- an arrival of an old row
the-old : (b : Bool) (x y : Arrival) → x.old ≡ false → (pick b x y).old ≡ true → pick b x y ≡ y
unfolding pick
the-old true x y n e = absurd (false≢true (sym n ∙ e))
the-old false x y n e = refl

pub old-is : (l : Limits) (s : PadState) (x : Data) → (arrival l s x).old ≡ true
    → arrival l s x ≡ record { state = s; old = true; reply = record { first = x.number; last = x.number } }
unfolding arrival
old-is l s x e = the-old (ltb (distance (2 * l.window) s.wanted x.number) l.window) _ _ refl e

module _ (l : Limits) (g : sound_limits l ≡ true) (supply first : List ℕ) (m : Mat) (p : Pad) (ds rs : List InAir) (n : Rows) (b : List ℕ)
    (st : Stands l (world l m p ds rs n b)) (never : (e : Event) → never_full (answer_at supply (as_link l (world l m p ds rs n b)) e) ≡ true) (k : ℕ) (h : k < length ds) where
  frame-passes : first_no (data_questions l (bytes_at ds k)) ≡ 0
  frame-passes = eqb-true (first_no (data_questions l (bytes_at ds k))) 0 (all-at (good_data l) ds k (record { body = []; life = 0 }) h st.datas)

  arrival-is : arrival_at (as_link l (world l m p ds rs n b)).state k ≡ arrival l (pad_state l.window p) (data_in (bytes_at ds k))
  arrival-is = ap (λ (x : Message Data). arrival l (pad_state l.window p) x.body) (table_at (on_body data_in) ds k (record { body = []; life = 0 }) no_data h)

  -- the event asks 18, which is never answered no
  arrives : 0 ≡ answer_at supply (as_link l (world l m p ds rs n b)) (arrive_data k)
  unfolding all
  arrives =
      sym (last ∙ not-asked [] 18 room refl (λ i. never-18 _ (never (arrive_data k)) (last ∙ i)))
    where
      room : Bool
      room = not (arrival_at (as_link l (world l m p ds rs n b)).state k).old || has_room (as_link l (world l m p ds rs n b)).state.replies

      last : answer_at supply (as_link l (world l m p ds rs n b)) (arrive_data k) ≡ first_no (ask 18 room ∷ [])
      last = pick_yes _ _ _ _ (in-table data_in ds k h) refl

  module _ (before after : List ℕ) (pad : PadDevice) where
    -- behind 4 and the questions of a good frame
    abbrev asked_of : Bool → List Question
    asked_of old = pick old (space_questions 5 before) []

    arrive-number : (old : Bool) (j : ℕ) → j ≡ first_no (ask 4 (sound_device (pad_device l p)) ∷ (data_questions l (bytes_at ds k) ++ asked_of old)) → j ≡ first_no (asked_of old)
    arrive-number old j e =
        e ∙ sound-first (data_questions l (bytes_at ds k) ++ asked_of old) (sound_device (pad_device l p)) st.pad-sound
        ∙ behind-passed (data_questions l (bytes_at ds k)) (asked_of old) (received-numbered l (bytes_at ds k) (is_data (bytes_at ds k))) frame-passes

    -- so it is refused with 28 alone
    with-28 : (old : Bool) (j : ℕ) → eqb j 0 ≡ false → for_lent j ≡ false → j ≡ first_no (asked_of old) → ⊥
    unfolding pick all
    with-28 true j z q e = true≢false (sym (ap (λ i. eqb i 0) (without-28 j q [] refl (leb 5 (length before)) e)) ∙ z)
    with-28 false j z q e = true≢false (sym (ap (λ i. eqb i 0) e) ∙ z)

    not-4-of : (old : Bool) → not4 (first_no (asked_of old)) ≡ true
    unfolding pick all
    not-4-of true = first_passes not4 (space_questions 5 before) refl refl
    not-4-of false = refl

    -- where the answer is done
    module _ (v : ℕ) (c : ReceiveCall (pad_device l p) (bytes_at ds k) before pad after (Ok v)) where
      limits : pad.limits ≡ l
      limits = ap (λ y. y.0.0) c.left

      state : pad_state l.window pad.pad ≡ (arrival l (pad_state l.window p) (data_in (bytes_at ds k))).state
      state = ap (λ (o : Limits). pad_state o.window pad.pad) (sym limits) ∙ ap (λ y. y.0.1) c.left

      -- what is the same of an old row and of a row of the window; `y` is what the event does with the arrival
      handed : (rs' : List InAir) (y : LinkState) → put_in_air v after rs ≡ rs' → all (good_reply l) rs' ≡ true
          → taken (as_link l (world l m p ds rs n b)).state k (arrival l (pad_state l.window p) (data_in (bytes_at ds k))) ≡ y
          → record {
            limits = l;
            mat = mat_state l.window m;
            pad = (arrival l (pad_state l.window p) (data_in (bytes_at ds k))).state;
            datas = remove k (map (on_body data_in) ds);
            replies = map (on_body reply_in) rs';
          } ≡ y
          → Follows l supply (world l m p ds rs n b) (data_handed k before after pad (Ok v))
      unfolding following pick
      handed rs' y air good t is =
          record {
            stands =
                record {
                  mat-limits = refl;
                  pad-limits = limits;
                  mat-sound = st.mat-sound;
                  pad-sound = c.stays st.pad-sound;
                  datas = all-removed (good_data l) k ds st.datas;
                  replies = ap (all (good_reply l)) air ∙ good;
                };
            steps =
                event-done supply (as_link l (world l m p ds rs n b)) (arrive_data k) _ arrives
                ((λ i. record {
                  state =
                      record {
                        limits = l;
                        mat = mat_state l.window m;
                        pad = state i;
                        datas = sym (table-remove (on_body data_in) k ds) i;
                        replies = map (on_body reply_in) (air i);
                      };
                  counts = more_rows n no_rows;
                  buffer = b;
                })
                ∙ ap (λ z. record { state = z; counts = more_rows n no_rows; buffer = b }) (is ∙ sym t ∙ ap (taken (as_link l (world l m p ds rs n b)).state k) (sym arrival-is))
                ∙ beside-record (as_link l (world l m p ds rs n b)) (taken (as_link l (world l m p ds rs n b)).state k (arrival_at (as_link l (world l m p ds rs n b)).state k)) no_rows);
            alike = refl;
            not-4 = refl;
          }

      handed-new : (arrival l (pad_state l.window p) (data_in (bytes_at ds k))).old ≡ false → Follows l supply (world l m p ds rs n b) (data_handed k before after pad (Ok v))
      unfolding pick
      handed-new e =
          handed rs _ (ap (λ j. put_in_air j after rs) (c.answered.value ∙ pick_no _ _ _ _ e refl)) st.replies (pick_no _ _ _ _ e refl) refl

      handed-old : (arrival l (pad_state l.window p) (data_in (bytes_at ds k))).old ≡ true → Follows l supply (world l m p ds rs n b) (data_handed k before after pad (Ok v))
      unfolding pick
      handed-old e =
          handed (put (frame_in_air 5 (frame_into (reply_frame l x) before)) rs) _
          (ap₂ (λ j y. put_in_air j y rs) (c.answered.value ∙ ap (λ (z : Arrival). pick z.old 5 0) is)
          (ap (λ y. y.1) c.left ∙ ap (λ (z : Arrival). pick z.old (frame_into (reply_frame l z.reply) before) before) is))
          (all-put (good_reply l) _ rs st.replies (reply-good l g before x sound))
          (ap (taken (as_link l (world l m p ds rs n b)).state k) is)
          (λ i. record {
            limits = l;
            mat = mat_state l.window m;
            pad = ap (λ (z : Arrival). z.state) is i;
            datas = remove k (map (on_body data_in) ds);
            replies = sym (table-put (on_body reply_in) (frame_in_air 5 (frame_into (reply_frame l x) before)) rs) i;
          })
        where
          x : Reply
          x = record { first = (data_in (bytes_at ds k)).number; last = (data_in (bytes_at ds k)).number }

          is : arrival l (pad_state l.window p) (data_in (bytes_at ds k)) ≡ record { state = pad_state l.window p; old = true; reply = x }
          is = old-is l (pad_state l.window p) (data_in (bytes_at ds k)) e

          sound : sound_reply l x ≡ true
          sound = single-sound l g (data_in (bytes_at ds k)).number (message-low l _ (data_in (bytes_at ds k)).row (data-taken l (bytes_at ds k) frame-passes))

  pub handed-follows : (before after : List ℕ) (pad : PadDevice) (r : Result ℕ Refusal) → ReceiveCall (pad_device l p) (bytes_at ds k) before pad after r
      → Follows l supply (world l m p ds rs n b) (data_handed k before after pad r)
  unfolding following pick
  handed-follows before after pad (Err e) c =
      let a = arrive-number before after pad (arrival l (pad_state l.window p) (data_in (bytes_at ds k))).old (refusal_number e) c.answered.number in
      still l supply (world l m p ds rs n b) (data_handed k before after pad (Err e))
      (λ i. record { mat = (world l m p ds rs n b).mat; pad = ap (λ y. y.0) c.kept i; datas = refused-air e (remove k ds) ds i; replies = rs; counts = counts-none n i; buffer = b })
      st
      (call-refused supply (as_link l (world l m p ds rs n b)) (arrive_data k) (refusal_number e) (refusal-not-0 e)
      (λ q. absurd (with-28 before after pad (arrival l (pad_state l.window p) (data_in (bytes_at ds k))).old (refusal_number e) (refusal-not-0 e) q a)))
      refl (ap not4 a ∙ not-4-of before after pad (arrival l (pad_state l.window p) (data_in (bytes_at ds k))).old)
  handed-follows before after pad (Ok v) c =
      test (arrival l (pad_state l.window p) (data_in (bytes_at ds k))).old (handed-old before after pad v c) (handed-new before after pad v c)

-- What the air does is what the link's event does; and bytes that are no frame of this link change nothing.
use Prim.Native.Nat.{ℕ, ◌<◌}
use borrow.Author.Tests.{ne_eqb, eqb-false, eq-eqb}
use Rattle.std.specs.Prelude.{OnErr, Result, Ok, Err}
use Rattle.mat.specs.Rules.{acknowledge_questions}
use Rattle.limits.specs.Questions.{Changed, Question, ask, first_no, pick, Answer, time_questions}
use Rattle.limits.specs.declared.Limits.{Limits}
use Rattle.frames.specs.declared.Frame.{Frame}
use Rattle.frames.specs.declared.Frame.TheVariants.{Data, Reply}
use Rattle.frames.specs.Layout.{reading, is_data, is_reply}
use Rattle.frames.specs.Rules.{layout_questions, value_questions, read_questions, space_questions}
use Rattle.devices.specs.Frames.{received_questions, data_questions, reply_questions, reply_in, data_in}
use mathlib.Core.Path.{◌≡◌, refl, sym, ◌∙◌, ap}
use mathlib.Core.Bool.{Bool, true, false, not}
use mathlib.Core.List.{List, [], ◌∷◌, ◌++◌, map}
use native.Mathlib.Omega.{arith}
use lib.Dec.{eqb, leb}
use lib.ListN.{length}
use Rattle.limits.specs.declared.answer.Refusal.{Refusal}
use Rattle.limits.specs.Answer.{refusal_number, number_of}
use Rattle.limits.specs.Lists.{all}
use Rattle.limits.specs.Events.{lose_data, lose_reply, tick, misfit, event}
use Rattle.limits.specs.Tables.{on_body, age}
use Rattle.limits.proofs.Laws.Choice.{pick_yes, pick_no, test, both}
use Rattle.limits.proofs.Laws.Lists.{all_append}
use Rattle.limits.proofs.Laws.Mapped.{table-remove, table-age}
use Rattle.limits.proofs.Laws.Promise.{sound-first, refusal-not-0}
use Rattle.limits.proofs.Laws.Questions.{first-stays}
use Rattle.mat.specs.declared.Mat.{Mat}
use Rattle.mat.specs.View.{mat_state}
use Rattle.pad.specs.declared.Pad.{Pad}
use Rattle.pad.specs.Rules.{arrival}
use Rattle.pad.specs.View.{pad_state}
use Rattle.events.specs.State.{Rows, no_rows, more_rows}
use Rattle.agreement.proofs.Laws.Codes.{not4, first_passes}
use Rattle.devices.specs.declared.MatDevice.{MatDevice}
use Rattle.devices.specs.declared.PadDevice.{PadDevice}
use Rattle.world.specs.World.{InAir, data_lost, reply_lost, ticked, noise_to_mat, noise_to_pad, following}
use Rattle.world.specs.Chains.{Met}
use Rattle.world.specs.TwoDevices.{as_link, good_data, good_reply}
use Rattle.events.specs.State.{Moved}
use Rattle.limits.specs.Tables.{Message}
use Rattle.limits.specs.Tables as tables
use Rattle.world.proofs.Laws.Air.{in-table, all-removed, all-aged}
use Rattle.world.proofs.Laws.Steps.{event-done, event-refused, no-event}
use Rattle.world.proofs.Laws.Stands.{world, Stands, Follows, still, refused-air, beside-record, counts-none}
use Rattle.devices.specs.Mats as mats
use Rattle.devices.specs.Pads as pads

-- no question of a frame is 4
value-codes : (f : Frame) → all (λ (q : Question). not4 q.code) (value_questions f) ≡ true
unfolding all
value-codes (Data f) = refl
value-codes (Reply f) = refl

pub frame-not-4 : (kind : Bool) (l : Limits) (bytes : List ℕ) → not4 (first_no (received_questions kind l bytes)) ≡ true
unfolding all
frame-not-4 kind l bytes =
    first_passes not4 (received_questions kind l bytes) refl
    (all_append (λ (q : Question). not4 q.code) (read_questions bytes) _
    ∙ both _ _ (all_append (λ (q : Question). not4 q.code) (layout_questions bytes) (value_questions (reading bytes)) ∙ both _ _ refl (value-codes (reading bytes))) refl)

-- A call whose first questions behind 4 are not passed is refused with their number, and changes nothing.
refused-by : {S V X : Type 0} (qs more : List Question) (b : Bool) (r : Result X Refusal) (done : X) (shown moved : V) (sound : S → Bool) (before after : S) → b ≡ true
    → (first_no qs ≡ 0 → ⊥) → Changed (ask 4 b ∷ (qs ++ more)) r done shown moved sound before after → (number_of r ≡ first_no qs) × (after ≡ before)
refused-by {X = X} qs more b r done shown moved sound before after s ne c =
    (number, left r number c.kept)
  where
    number : number_of r ≡ first_no qs
    number = c.answered.number ∙ sound-first (qs ++ more) b s ∙ first-stays qs more (ne_eqb (first_no qs) 0 ne)

    left : (q : Result X Refusal) → number_of q ≡ first_no qs → OnErr q (after ≡ before) → after ≡ before
    left (Ok x) e k = absurd (ne (sym e))
    left (Err f) e k = k

pub mat-noise : (x x' : MatDevice) (bytes : List ℕ) (r : Result ℕ Refusal) → mats.sound_device x ≡ true → (first_no (reply_questions x.limits bytes) ≡ 0 → ⊥)
    → mats.ReceiveCall x bytes x' r → (number_of r ≡ first_no (reply_questions x.limits bytes)) × (x' ≡ x)
mat-noise x x' bytes r s ne c =
    refused-by (reply_questions x.limits bytes) (acknowledge_questions x.limits (mats.state_of x) (reply_in bytes)) (mats.sound_device x) r _ _ _ mats.sound_device x x' s ne c

pub pad-noise : (x x' : PadDevice) (bytes before after : List ℕ) (r : Result ℕ Refusal) → pads.sound_device x ≡ true → (first_no (data_questions x.limits bytes) ≡ 0 → ⊥)
    → pads.ReceiveCall x bytes before x' after r → (number_of r ≡ first_no (data_questions x.limits bytes)) × (x' ≡ x) × (after ≡ before)
pad-noise x x' bytes before after r s ne c =
    let f =
    refused-by {S = PadDevice × List ℕ} (data_questions x.limits bytes) (pick (arrival x.limits (pads.state_of x) (data_in bytes)).old (space_questions 5 before) [])
    (pads.sound_device x) r _ _ _ (λ y. pads.sound_device y.0) (x, before) (x', after) s ne c in
    (f.0, ap (λ y. y.0) f.1, ap (λ y. y.1) f.1)

-- the event of a tick, by what a device answers
tick-event : (d : ℕ) → leb 1 d ≡ true → event 8 d ≡ tick d
unfolding event pick
tick-event d e = pick_yes _ _ _ _ e refl

passed-time : (d n : ℕ) → n ≡ first_no (time_questions d) → 0 ≡ n → leb 1 d ≡ true
unfolding pick
passed-time d n e h = test (leb 1 d) (λ t. t) (λ f. let z : n ≡ 9 = e ∙ pick_no _ _ _ _ f refl in absurd (omega arith))

refused-time : (d n : ℕ) → eqb n 0 ≡ false → n ≡ first_no (time_questions d) → (event 8 d ≡ misfit) × (n ≡ 9)
unfolding event pick
refused-time d n z e =
    test (leb 1 d)
    (λ t. absurd (eqb-false n 0 z (e ∙ pick_yes _ _ _ _ t refl)))
    (λ f. (pick_no _ _ _ _ f refl, e ∙ pick_no _ _ _ _ f refl))

module _ (l : Limits) (supply : List ℕ) (m : Mat) (p : Pad) (ds rs : List InAir) (n : Rows) (b : List ℕ) (st : Stands l (world l m p ds rs n b)) where
  -- the link with other tables
  abbrev with-tables : List (Message tables.Data) → List (Message tables.Reply) → Moved
  with-tables datas replies =
      record {
        state = record { limits = l; mat = mat_state l.window m; pad = pad_state l.window p; datas = datas; replies = replies };
        counts = more_rows n no_rows;
        buffer = b;
      }

  pub data-lost-follows : (k : ℕ) → k < length ds → Follows l supply (world l m p ds rs n b) (data_lost k)
  unfolding following
  data-lost-follows k h =
      record {
        stands =
            record {
              mat-limits = refl;
              pad-limits = refl;
              mat-sound = st.mat-sound;
              pad-sound = st.pad-sound;
              datas = all-removed (good_data l) k ds st.datas;
              replies = st.replies;
            };
        steps =
            event-done supply (as_link l (world l m p ds rs n b)) (lose_data k) _
            (sym (pick_yes _ _ _ _ (in-table data_in ds k h) refl))
            (ap (λ datas. with-tables datas (map (on_body reply_in) rs)) (sym (table-remove (on_body data_in) k ds))
            ∙ beside-record (as_link l (world l m p ds rs n b)) _ no_rows);
        alike = refl;
        not-4 = refl;
      }

  pub reply-lost-follows : (k : ℕ) → k < length rs → Follows l supply (world l m p ds rs n b) (reply_lost k)
  unfolding following
  reply-lost-follows k h =
      record {
        stands =
            record {
              mat-limits = refl;
              pad-limits = refl;
              mat-sound = st.mat-sound;
              pad-sound = st.pad-sound;
              datas = st.datas;
              replies = all-removed (good_reply l) k rs st.replies;
            };
        steps =
            event-done supply (as_link l (world l m p ds rs n b)) (lose_reply k) _
            (sym (pick_yes _ _ _ _ (in-table reply_in rs k h) refl))
            (ap (with-tables (map (on_body data_in) ds)) (sym (table-remove (on_body reply_in) k rs))
            ∙ beside-record (as_link l (world l m p ds rs n b)) _ no_rows);
        alike = refl;
        not-4 = refl;
      }

  pub noise-to-mat : (bytes : List ℕ) (x : MatDevice) (r : Result ℕ Refusal) → Met supply (world l m p ds rs n b) (noise_to_mat bytes x r)
      → Follows l supply (world l m p ds rs n b) (noise_to_mat bytes x r)
  unfolding following
  noise-to-mat bytes x r c =
      let f = mat-noise (mats.mat_device l m) x bytes r st.mat-sound c.0 c.1 in
      still l supply (world l m p ds rs n b) (noise_to_mat bytes x r)
      (λ i. record { mat = f.1 i; pad = (world l m p ds rs n b).pad; datas = ds; replies = rs; counts = counts-none n i; buffer = b })
      st (no-event supply (as_link l (world l m p ds rs n b))) refl (ap not4 f.0 ∙ frame-not-4 (is_reply bytes) l bytes)

  pub noise-to-pad : (bytes before after : List ℕ) (x : PadDevice) (r : Result ℕ Refusal) → Met supply (world l m p ds rs n b) (noise_to_pad bytes before after x r)
      → Follows l supply (world l m p ds rs n b) (noise_to_pad bytes before after x r)
  unfolding following
  noise-to-pad bytes before after x r c =
      let f = pad-noise (pads.pad_device l p) x bytes before after r st.pad-sound c.0 c.1 in
      still l supply (world l m p ds rs n b) (noise_to_pad bytes before after x r)
      (λ i. record { mat = (world l m p ds rs n b).mat; pad = f.1 i; datas = ds; replies = rs; counts = counts-none n i; buffer = b })
      st (no-event supply (as_link l (world l m p ds rs n b))) refl (ap not4 f.0 ∙ frame-not-4 (is_data bytes) l bytes)

  -- d ticks: both devices answer alike
  pub ticked-follows : (d : ℕ) (x : MatDevice) (r : Answer) (y : PadDevice) (q : Answer) → Met supply (world l m p ds rs n b) (ticked d x r y q)
      → Follows l supply (world l m p ds rs n b) (ticked d x r y q)
  unfolding following pick
  ticked-follows d x (Ok u) y (Ok w) c =
      record {
        stands =
            record {
              mat-limits = ap (λ z. z.0) c.0.left;
              pad-limits = ap (λ z. z.0) c.1.left;
              mat-sound = c.0.stays st.mat-sound;
              pad-sound = c.1.stays st.pad-sound;
              datas = all-aged (λ bytes. eqb (first_no (data_questions l bytes)) 0) d ds st.datas;
              replies = all-aged (λ bytes. eqb (first_no (reply_questions l bytes)) 0) d rs st.replies;
            };
        steps =
            rw (tick-event d (passed-time d _ (sound-first (time_questions d) (mats.sound_device (mats.mat_device l m)) st.mat-sound) c.0.answered.number))
            (event-done supply (as_link l (world l m p ds rs n b)) (tick d) _ refl
            ((λ i. record {
              state =
                  record {
                    limits = l;
                    mat = (ap (λ (o : Limits). mat_state o.window x.mat) (sym (ap (λ z. z.0) c.0.left)) ∙ ap (λ z. z.1) c.0.left) i;
                    pad = (ap (λ (o : Limits). pad_state o.window y.pad) (sym (ap (λ z. z.0) c.1.left)) ∙ ap (λ z. z.1) c.1.left) i;
                    datas = sym (table-age data_in d ds) i;
                    replies = sym (table-age reply_in d rs) i;
                  };
              counts = sym (counts-none n) i;
              buffer = b;
            })
            ∙ beside-record (as_link l (world l m p ds rs n b)) _ no_rows));
        alike = refl;
        not-4 = refl;
      }
  ticked-follows d x (Ok u) y (Err f) c =
      absurd
      (eqb-false (refusal_number f) 0 (refusal-not-0 f)
      ((c.1.answered.number ∙ sound-first (time_questions d) (pads.sound_device (pads.pad_device l p)) st.pad-sound)
      ∙ sym (c.0.answered.number ∙ sound-first (time_questions d) (mats.sound_device (mats.mat_device l m)) st.mat-sound)))
  ticked-follows d x (Err e) y (Ok w) c =
      absurd
      (eqb-false (refusal_number e) 0 (refusal-not-0 e)
      ((c.0.answered.number ∙ sound-first (time_questions d) (mats.sound_device (mats.mat_device l m)) st.mat-sound)
      ∙ sym (c.1.answered.number ∙ sound-first (time_questions d) (pads.sound_device (pads.pad_device l p)) st.pad-sound)))
  ticked-follows d x (Err e) y (Err f) c =
      let h = c.0.answered.number ∙ sound-first (time_questions d) (mats.sound_device (mats.mat_device l m)) st.mat-sound in
      let k = c.1.answered.number ∙ sound-first (time_questions d) (pads.sound_device (pads.pad_device l p)) st.pad-sound in
      let z = refused-time d (refusal_number e) (refusal-not-0 e) h in
      still l supply (world l m p ds rs n b) (ticked d x (Err e) y (Err f))
      (λ i. record { mat = c.0.kept i; pad = c.1.kept i; datas = refused-air e (age d ds) ds i; replies = refused-air e (age d rs) rs i; counts = n; buffer = b })
      st (rw z.0 (event-refused supply (as_link l (world l m p ds rs n b)) misfit (refusal_number e) (refusal-not-0 e) z.1))
      (eq-eqb _ _ (h ∙ sym k)) (ap (λ j. not (eqb j 4)) z.1)

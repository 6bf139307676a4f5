-- The frames that a device writes pass their questions, and the frames that it takes in.
use mathlib.Core.Path.{◌≡◌, refl, sym, ◌∙◌, ap}
use mathlib.Core.Bool.{Bool, true, false, not, true≢false}
use mathlib.Core.List.{List, [], ◌∷◌}
use Prim.Native.Nat.{ℕ, ◌*◌, ◌≤◌, ◌<◌}
use native.Mathlib.Omega.{arith}
use lib.Dec.{eqb}
use borrow.Author.Tests.{eq-eqb, ne_eqb, eqb-true, leb-true}
use Rattle.limits.specs.declared.Limits.{Limits}
use Rattle.limits.specs.Limits.{sound_limits, window_fits}
use Rattle.limits.specs.Lists.{all}
use Rattle.limits.specs.Questions.{Question, ask, first_no}
use Rattle.limits.specs.Tables as tables
use Rattle.limits.proofs.Laws.Choice.{pick_yes, pick_no, test, both}
use Rattle.limits.proofs.Laws.Good.{good, in_between}
use Rattle.limits.proofs.Laws.Lists.{all_append}
use Rattle.limits.proofs.Laws.Messages.{message-low, message-legal, reply-facts, data-sound, reply-sound}
use Rattle.limits.proofs.Laws.Questions.{numbered, behind-passed, front-passed, more_stays, each}
use Rattle.buffers.specs.Bytes.{byte}
use Rattle.frames.specs.declared.DataFrame.{DataFrame}
use Rattle.frames.specs.declared.ReplyFrame.{ReplyFrame}
use Rattle.frames.specs.declared.Frame.{Frame}
use Rattle.frames.specs.declared.Frame.TheVariants.{Data, Reply}
use Rattle.frames.specs.Layout.{is_data, is_reply, data_of, reply_of, reading}
use Rattle.frames.specs.Rules.{frame_questions, data_questions, reply_questions, value_questions, layout_questions, read_questions}
use Rattle.frames.proofs.Laws.Reading.{layout-numbered, data-kind, reply-kind, accepted-kind}
use Rattle.frames.proofs.Laws.Values.{value-numbered, reply-numbered, both_below, data-passes, reply-passes, data-fits, data-legal, reply-fits}
use Rattle.frames.proofs.Theorems.{some-kind}
use Rattle.devices.specs.Frames.{received_questions}

-- written: a sound message with a full life
module _ (l : Limits) (g : sound_limits l ≡ true) where
  full : (a b life : ℕ) → a < 2 * l.window → b < 2 * l.window → 1 ≤ life → life ≤ 250 → 0 ≡ first_no (frame_questions l.window (a ∷ b ∷ []) life)
  unfolding window_fits
  full a b life ha hb low high =
      let o = good l g in
      sym (pick_yes _ _ _ _ (in_between 1 32 l.window (omega arith) (omega arith)) (pick_yes _ _ _ _ (both_below (2 * l.window) a b ha hb) (pick_yes _ _ _ _ (in_between 1 250 life low high) refl)))

  pub data-asked : (x : tables.Data) → tables.sound_data l x ≡ true → first_no (data_questions (record { life = l.datalife; window = l.window; «data» = x })) ≡ 0
  data-asked x s =
      let o = good l g in let h = message-low l x.number x.row s in
      sym (data-passes (record { life = l.datalife; window = l.window; «data» = x }) 0 (full x.number x.number l.datalife h h (omega arith) (omega arith)) refl (message-legal l x.number x.row s))

  pub reply-asked : (x : tables.Reply) → tables.sound_reply l x ≡ true → first_no (reply_questions (record { life = l.replylife; window = l.window; reply = x })) ≡ 0
  reply-asked x s =
      let o = good l g in let f = reply-facts l x s in
      sym (reply-passes (record { life = l.replylife; window = l.window; reply = x }) 0 (full x.first x.last l.replylife f.first f.last (omega arith) (omega arith)) refl f.span)

-- which kind of frame is read
abbrev kind_of : Frame → Bool
kind_of (Data f) = true
kind_of (Reply f) = false

abbrev data_or : DataFrame → Frame → DataFrame
data_or other (Data f) = f
data_or other (Reply f) = other

abbrev reply_or : ReplyFrame → Frame → ReplyFrame
reply_or other (Data f) = other
reply_or other (Reply f) = f

module _ (l : Limits) (bytes : List ℕ) where
  -- 22 and 24 behind the reader's questions
  abbrev behind : Bool → List Question
  behind kind = ask 22 kind ∷ ask 24 (eqb (byte bytes 2) l.window) ∷ []

  read-numbered : numbered (read_questions bytes) ≡ true
  read-numbered =
      all_append (λ (q : Question). not (eqb q.code 0)) (layout_questions bytes) (value_questions (reading bytes))
      ∙ both _ _ (layout-numbered bytes) (value-numbered (reading bytes))

  pub received-numbered : (kind : Bool) → numbered (received_questions kind l bytes) ≡ true
  unfolding all
  received-numbered kind = all_append (λ (q : Question). not (eqb q.code 0)) (read_questions bytes) (behind kind) ∙ both _ _ read-numbered refl

  pub read-refused : (kind : Bool) (n : ℕ) → n ≡ first_no (read_questions bytes) → eqb n 0 ≡ false → n ≡ first_no (received_questions kind l bytes)
  read-refused kind n e no_zero = more_stays (read_questions bytes) n e (behind kind) no_zero

  module _ (kind : Bool) (e : 0 ≡ first_no (read_questions bytes)) where
    then-asked : first_no (received_questions kind l bytes) ≡ first_no (behind kind)
    then-asked = behind-passed (read_questions bytes) (behind kind) read-numbered (sym e)

    pub other-kind : kind ≡ false → 22 ≡ first_no (received_questions kind l bytes)
    other-kind k = sym (then-asked ∙ pick_no _ _ _ _ k refl)

    pub other-window : kind ≡ true → (byte bytes 2 ≡ l.window → ⊥) → 24 ≡ first_no (received_questions kind l bytes)
    other-window k ne = sym (then-asked ∙ pick_yes _ _ _ _ k (pick_no _ _ _ _ (ne_eqb _ _ ne) refl))

    pub received : kind ≡ true → byte bytes 2 ≡ l.window → 0 ≡ first_no (received_questions kind l bytes)
    received k w = sym (then-asked ∙ pick_yes _ _ _ _ k (pick_yes _ _ _ _ (eq-eqb _ _ w) refl))

  -- the frame that was read, by its kind
  pub read-data : (f : DataFrame) → Data f ≡ reading bytes → (is_data bytes ≡ true) × (f ≡ data_of bytes)
  read-data f e =
      test (is_data bytes)
      (λ d. (d, ap (data_or f) (e ∙ pick_yes _ _ _ _ d refl)))
      (λ d. absurd (true≢false (ap kind_of (e ∙ pick_no _ _ _ _ d refl))))

  pub read-reply : (f : ReplyFrame) → Reply f ≡ reading bytes → (is_data bytes ≡ false) × (f ≡ reply_of bytes)
  read-reply f e =
      test (is_data bytes)
      (λ d. absurd (true≢false (sym (ap kind_of (e ∙ pick_yes _ _ _ _ d refl)))))
      (λ d. (d, ap (reply_or f) (e ∙ pick_no _ _ _ _ d refl)))

  -- the other kind, where one is known
  pub no-reply : is_data bytes ≡ true → is_reply bytes ≡ false
  no-reply d = let p = eqb-true (byte bytes 0) 1 d in ne_eqb (byte bytes 0) 2 (λ q. omega arith)

  pub then-reply : 0 ≡ first_no (read_questions bytes) → is_data bytes ≡ false → is_reply bytes ≡ true
  then-reply e d = some-kind bytes (sym e) d

  -- the message that was taken in
  pub data-taken : first_no (received_questions (is_data bytes) l bytes) ≡ 0 → tables.sound_data l (data_of bytes).«data» ≡ true
  unfolding all
  data-taken e =
      let r = front-passed (read_questions bytes) (behind (is_data bytes)) e in
      let q = each (behind (is_data bytes)) refl (sym (behind-passed (read_questions bytes) (behind (is_data bytes)) read-numbered r) ∙ e) in
      let w = eqb-true (byte bytes 2) l.window q.1.0 in
      let v = (accepted-kind bytes (Data (data_of bytes)) (data-kind bytes (eqb-true (byte bytes 0) 1 q.0)) r).1 in
      let f = data-fits (data_of bytes) v in
      data-sound l (data_of bytes).«data» (omega arith) (data-legal (data_of bytes) v)

  pub reply-taken : first_no (received_questions (is_reply bytes) l bytes) ≡ 0 → tables.sound_reply l (reply_of bytes).reply ≡ true
  unfolding all
  reply-taken e =
      let r = front-passed (read_questions bytes) (behind (is_reply bytes)) e in
      let q = each (behind (is_reply bytes)) refl (sym (behind-passed (read_questions bytes) (behind (is_reply bytes)) read-numbered r) ∙ e) in
      let w = eqb-true (byte bytes 2) l.window q.1.0 in
      let v = (accepted-kind bytes (Reply (reply_of bytes)) (reply-kind bytes (eqb-true (byte bytes 0) 2 q.0)) r).1 in
      let f = reply-fits (reply_of bytes) v in
      let s = each (reply_questions (reply_of bytes)) (reply-numbered (reply_of bytes)) v in
      reply-sound l (reply_of bytes).reply (omega arith) (omega arith) (leb-true _ _ (rw w at s.1.1.1.0))

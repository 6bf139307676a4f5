-- What is known of the values of a frame that pass their questions.
use Prim.Native.Nat.{ℕ, ◌*◌, ◌≤◌, ◌<◌}
use mathlib.Core.Path.{◌≡◌, refl, sym, ◌∙◌, ap}
use mathlib.Core.Bool.{Bool, true, false, ◌&&◌}
use mathlib.Core.List.{List, [], ◌∷◌, ◌++◌}
use lib.Dec.{eqb, ltb, leb}
use borrow.Author.Tests.{ltb-true, lt-ltb, le-ltb, le-leb, lt-leb}
use Rattle.limits.specs.Lists.{all}
use Rattle.limits.specs.Questions.{Question, ask, first_no}
use Rattle.limits.specs.Cells.{legal_row}
use Rattle.limits.specs.Limits.{between, window_fits}
use Rattle.limits.specs.Tables.{span}
use Rattle.limits.proofs.Laws.Choice.{and_left, and_right, both, and-no-left, and-no-right, test}
use Rattle.limits.proofs.Laws.Lists.{all_append}
use Rattle.limits.proofs.Laws.Good.{between-low, between-high}
use Rattle.frames.specs.declared.DataFrame.{DataFrame}
use Rattle.frames.specs.declared.ReplyFrame.{ReplyFrame}
use Rattle.frames.specs.declared.Frame.{Frame}
use Rattle.frames.specs.declared.Frame.TheVariants.{Data, Reply}
use Rattle.frames.specs.Rules.{frame_questions, data_questions, reply_questions, value_questions}
use Rattle.limits.proofs.Laws.Questions.{numbered, passed, all-passed, more_stays, more-passes, more-fails}

-- two numbers below n
module _ (n a b : ℕ) where
  pub both_below : a < n → b < n → all (λ k. ltb k n) (a ∷ b ∷ []) ≡ true
  unfolding all
  both_below h k = both (ltb a n) (ltb b n && true) (lt-ltb a n h) (both (ltb b n) true (lt-ltb b n k) refl)

  pub first_above : n ≤ a → all (λ k. ltb k n) (a ∷ b ∷ []) ≡ false
  unfolding all
  first_above h = and-no-left (ltb a n) (ltb b n && true) (le-ltb a n h)

  pub last-above : n ≤ b → all (λ k. ltb k n) (a ∷ b ∷ []) ≡ false
  unfolding all
  last-above h = and-no-right (ltb a n) (ltb b n && true) (and-no-left (ltb b n) true (le-ltb b n h))

  pub below_both : all (λ k. ltb k n) (a ∷ b ∷ []) ≡ true → (a < n) × (b < n)
  unfolding all
  below_both e = (
    ltb-true a n (and_left (ltb a n) (ltb b n && true) e),
    ltb-true b n (and_left (ltb b n) true (and_right (ltb a n) (ltb b n && true) e)),
  )

-- a number asked of twice is one number
pub twice : (p : ℕ → Bool) (n : ℕ) → all p (n ∷ n ∷ []) ≡ all p (n ∷ [])
unfolding all
twice p n = test (p n) (λ e. rw e) (λ e. rw e)

pub alone : (w n life : ℕ) → first_no (frame_questions w (n ∷ n ∷ []) life) ≡ first_no (frame_questions w (n ∷ []) life)
alone w n life = ap (λ b. first_no (ask 24 (window_fits w) ∷ ask 25 b ∷ ask 26 (between 1 250 life) ∷ [])) (twice (λ k. ltb k (2 * w)) n)

pub frame-numbered : (w : ℕ) (numbers : List ℕ) (life : ℕ) → numbered (frame_questions w numbers life) ≡ true
unfolding all
frame-numbered w numbers life = refl

pub data-numbered : (f : DataFrame) → numbered (data_questions f) ≡ true
unfolding all
data-numbered f = refl

pub reply-numbered : (f : ReplyFrame) → numbered (reply_questions f) ≡ true
unfolding all
reply-numbered f = refl

pub value-numbered : (f : Frame) → numbered (value_questions f) ≡ true
value-numbered (Data f) = data-numbered f
value-numbered (Reply f) = reply-numbered f

-- 24, 25 and 26 passed by a frame with the numbers a and b
pub record FrameFits (w a b life : ℕ) : Type 0 where
  pub window-low : 1 ≤ w
  pub window-high : w ≤ 32
  pub first : a < 2 * w
  pub last : b < 2 * w
  pub life-low : 1 ≤ life
  pub life-high : life ≤ 250

pub fits-window : (w : ℕ) → window_fits w ≡ true → (1 ≤ w) × (w ≤ 32)
unfolding window_fits
fits-window w e = (between-low 1 32 w e, between-high 1 32 w e)

passed-fits : (w a b life : ℕ) → passed (frame_questions w (a ∷ b ∷ []) life) ≡ true → FrameFits w a b life
unfolding all
passed-fits w a b life e =
    let p25 = all (λ k. ltb k (2 * w)) (a ∷ b ∷ []) in
    let p26 = between 1 250 life in
    let later = and_right (window_fits w) (p25 && (p26 && true)) e in
    let window = fits-window w (and_left (window_fits w) (p25 && (p26 && true)) e) in
    let numbers = below_both (2 * w) a b (and_left p25 (p26 && true) later) in
    let lives = and_left p26 true (and_right p25 (p26 && true) later) in
    record {
      window-low = window.0;
      window-high = window.1;
      first = numbers.0;
      last = numbers.1;
      life-low = between-low 1 250 life lives;
      life-high = between-high 1 250 life lives;
    }

pub fits : (w a b life : ℕ) → first_no (frame_questions w (a ∷ b ∷ []) life) ≡ 0 → FrameFits w a b life
fits w a b life e = passed-fits w a b life (all-passed (frame_questions w (a ∷ b ∷ []) life) (frame-numbered w (a ∷ b ∷ []) life) e)

-- the questions of the values, in two parts
parts : (qs rest : List Question) → passed (qs ++ rest) ≡ true → (passed qs ≡ true) × (passed rest ≡ true)
parts qs rest e =
    (and_left (passed qs) (passed rest) joined, and_right (passed qs) (passed rest) joined)
  where
    joined : (passed qs && passed rest) ≡ true
    joined = sym (all_append (λ (q : Question). q.passes) qs rest) ∙ e

pub data-fits : (f : DataFrame) → first_no (data_questions f) ≡ 0 → FrameFits f.window f.data.number f.data.number f.life
data-fits f e =
    passed-fits f.window f.data.number f.data.number f.life
    (ap (λ b. passed (ask 24 (window_fits f.window) ∷ ask 25 b ∷ ask 26 (between 1 250 f.life) ∷ [])) (twice (λ k. ltb k (2 * f.window)) f.data.number)
    ∙ (parts (frame_questions f.window (f.data.number ∷ []) f.life) (ask 12 (legal_row f.data.row) ∷ []) (all-passed (data_questions f) (data-numbered f) e)).0)

pub data-legal : (f : DataFrame) → first_no (data_questions f) ≡ 0 → legal_row f.data.row ≡ true
unfolding all
data-legal f e =
    and_left (legal_row f.data.row) true
    (parts (frame_questions f.window (f.data.number ∷ []) f.life) (ask 12 (legal_row f.data.row) ∷ []) (all-passed (data_questions f) (data-numbered f) e)).1

pub reply-fits : (f : ReplyFrame) → first_no (reply_questions f) ≡ 0 → FrameFits f.window f.reply.first f.reply.last f.life
reply-fits f e =
    passed-fits f.window f.reply.first f.reply.last f.life
    (parts (frame_questions f.window (f.reply.first ∷ f.reply.last ∷ []) f.life)
    (ask 27 (leb (span f.window f.reply) f.window) ∷ []) (all-passed (reply_questions f) (reply-numbered f) e)).0

-- the answer to 24, 25 and 26, and the last question of each kind behind it
module _ (f : DataFrame) (found : ℕ) (first : found ≡ first_no (frame_questions f.window (f.data.number ∷ f.data.number ∷ []) f.life)) where
  asked : found ≡ first_no (frame_questions f.window (f.data.number ∷ []) f.life)
  asked = first ∙ alone f.window f.data.number f.life

  pub data-stays : eqb found 0 ≡ false → found ≡ first_no (data_questions f)
  data-stays e = more_stays (frame_questions f.window (f.data.number ∷ []) f.life) found asked (ask 12 (legal_row f.data.row) ∷ []) e

  pub data-passes : found ≡ 0 → legal_row f.data.row ≡ true → 0 ≡ first_no (data_questions f)
  data-passes e h =
      more-passes (frame_questions f.window (f.data.number ∷ []) f.life) found asked 12 (legal_row f.data.row) (frame-numbered f.window (f.data.number ∷ []) f.life) e h

  pub data-fails : found ≡ 0 → legal_row f.data.row ≡ false → 12 ≡ first_no (data_questions f)
  data-fails e h =
      more-fails (frame_questions f.window (f.data.number ∷ []) f.life) found asked 12 (legal_row f.data.row) (frame-numbered f.window (f.data.number ∷ []) f.life) e h

module _ (f : ReplyFrame) (found : ℕ) (first : found ≡ first_no (frame_questions f.window (f.reply.first ∷ f.reply.last ∷ []) f.life)) where
  abbrev span_of : ℕ
  span_of = span f.window f.reply

  pub reply-stays : eqb found 0 ≡ false → found ≡ first_no (reply_questions f)
  reply-stays e =
      more_stays (frame_questions f.window (f.reply.first ∷ f.reply.last ∷ []) f.life) found first (ask 27 (leb span_of f.window) ∷ []) e

  pub reply-passes : found ≡ 0 → span_of ≤ f.window → 0 ≡ first_no (reply_questions f)
  reply-passes e h =
      more-passes (frame_questions f.window (f.reply.first ∷ f.reply.last ∷ []) f.life) found first 27 (leb span_of f.window)
      (frame-numbered f.window (f.reply.first ∷ f.reply.last ∷ []) f.life) e (le-leb span_of f.window h)

  pub reply-fails : found ≡ 0 → f.window < span_of → 27 ≡ first_no (reply_questions f)
  reply-fails e h =
      more-fails (frame_questions f.window (f.reply.first ∷ f.reply.last ∷ []) f.life) found first 27 (leb span_of f.window)
      (frame-numbered f.window (f.reply.first ∷ f.reply.last ∷ []) f.life) e (lt-leb span_of f.window h)

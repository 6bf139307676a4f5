-- Laws on bytes stored one by one at the front of a buffer, and on what a writer answers.
use Prim.Native.Nat.{ℕ, ◌+◌, ◌≤◌, ◌<◌}
use mathlib.Core.Path.{◌≡◌, refl, ap}
use mathlib.Core.Bool.{false}
use mathlib.Core.List.{List, [], ◌∷◌, ◌++◌}
use native.Mathlib.Omega.{arith}
use lib.Dec.{eqb, leb}
use lib.ListN.{length, set, drop}
use borrow.Author.Tests.{le-leb, lt-leb}
use Rattle.limits.specs.Questions.{ask, first_no}
use Rattle.limits.proofs.Laws.Questions.{more_stays, more-passes, more-fails}
use Rattle.buffers.specs.Buffers.{wrote}
use Rattle.frames.specs.declared.Frame.{Frame}
use Rattle.frames.specs.Layout.{size_of}
use Rattle.frames.specs.Rules.{value_questions, write_questions}
use Rattle.frames.proofs.Laws.Values.{value-numbered}

-- four bytes in front of a row's cells
pub data-put : (buffer cells : List ℕ) (a b c d : ℕ) → 4 ≤ length buffer → length cells ≡ 32
    → wrote 4 cells (set (set (set (set buffer 0 a) 1 b) 2 c) 3 d) ≡ (a ∷ b ∷ c ∷ d ∷ cells) ++ drop 36 buffer
unfolding wrote
data-put [] cells a b c d h l = absurd (omega arith)
data-put (x ∷ []) cells a b c d h l = absurd (omega arith)
data-put (x ∷ y ∷ []) cells a b c d h l = absurd (omega arith)
data-put (x ∷ y ∷ z ∷ []) cells a b c d h l = absurd (omega arith)
data-put (x ∷ y ∷ z ∷ u ∷ rest) cells a b c d h l = ap (λ n. a ∷ b ∷ c ∷ d ∷ (cells ++ drop (4 + n) (a ∷ b ∷ c ∷ d ∷ rest))) l

pub reply-put : (buffer : List ℕ) (a b c d e : ℕ) → 5 ≤ length buffer
    → set (set (set (set (set buffer 0 a) 1 b) 2 c) 3 d) 4 e ≡ (a ∷ b ∷ c ∷ d ∷ e ∷ []) ++ drop 5 buffer
reply-put [] a b c d e h = absurd (omega arith)
reply-put (x ∷ []) a b c d e h = absurd (omega arith)
reply-put (x ∷ y ∷ []) a b c d e h = absurd (omega arith)
reply-put (x ∷ y ∷ z ∷ []) a b c d e h = absurd (omega arith)
reply-put (x ∷ y ∷ z ∷ u ∷ []) a b c d e h = absurd (omega arith)
reply-put (x ∷ y ∷ z ∷ u ∷ v ∷ rest) a b c d e h = refl

-- The answer of the values, and 28 behind it.
module _ (f : Frame) (buffer : List ℕ) where
  pub write-stays : (n : ℕ) → n ≡ first_no (value_questions f) → eqb n 0 ≡ false → n ≡ first_no (write_questions f buffer)
  write-stays n e no_zero = more_stays (value_questions f) n e (ask 28 (leb (size_of f) (length buffer)) ∷ []) no_zero

  pub write-fails : 0 ≡ first_no (value_questions f) → length buffer < size_of f → 28 ≡ first_no (write_questions f buffer)
  write-fails e h = more-fails (value_questions f) 0 e 28 (leb (size_of f) (length buffer)) (value-numbered f) refl (lt-leb _ _ h)

  pub write-passes : 0 ≡ first_no (value_questions f) → size_of f ≤ length buffer → 0 ≡ first_no (write_questions f buffer)
  write-passes e h = more-passes (value_questions f) 0 e 28 (leb (size_of f) (length buffer)) (value-numbered f) refl (le-leb _ _ h)

-- What is free in a mat.
use Prim.Native.Nat.{ℕ, ◌+◌, ◌-◌, ◌*◌, ◌≤◌, ◌<◌}
use mathlib.Core.Path.{◌≡◌, sym, ◌∙◌, ap, ap₂}
use mathlib.Core.Bool.{true, false, not, ◌&&◌}
use native.Mathlib.Nat.{mod-lt}
use native.Mathlib.Omega.{arith}
use lib.Dec.{leb, ltb}
use lib.ListN.{get_or}
use borrow.Author.Tests.{not-true}
use Rattle.limits.specs.declared.Limits.{Limits}
use Rattle.limits.specs.Cells.{legal_row}
use Rattle.limits.specs.Lists.{tab, all}
use Rattle.limits.specs.Ring.{distance, place}
use Rattle.limits.proofs.Laws.Choice.{two, three, split}
use Rattle.limits.proofs.Laws.Lists.{all-tab-at, tab-ext}
use Rattle.mat.specs.declared.Mat.{Mat}
use Rattle.mat.specs.Window.{Kept, MatState}
use Rattle.mat.specs.View.{outstanding_of, mark_at, cells_at, mat_state, sound_numbers, sound_marks, sound_mat}
use Rattle.free.specs.Free.{SameMat}
use Rattle.free.proofs.Laws.Places.{ahead, ahead-below, ahead-is, tab-at, tab-same, places-at, places_same}

-- the marks of rows not outstanding
off : (w : ℕ) (m : Mat) → sound_marks w m ≡ true → (k : ℕ) → outstanding_of w m ≤ k → k < w → mark_at w m k ≡ false
off w m e k low high =
    ap (mark_at w m) {x = k} {y = outstanding_of w m + (k - outstanding_of w m)} (omega arith)
    ∙ not-true _
    (all-tab-at not (w - outstanding_of w m) (λ i. mark_at w m (outstanding_of w m + i)) (two (not (mark_at w m 0)) _ e).1 (k - outstanding_of w m) (omega arith))

sound-marks : (l : Limits) (m : Mat) → sound_mat l m ≡ true → sound_marks l.window m ≡ true
unfolding sound_mat
sound-marks l m e = (three (sound_numbers l.window m) (sound_marks l.window m) _ e).1

pub marks-off : (l : Limits) (m : Mat) → sound_mat l m ≡ true
    → (k : ℕ) → outstanding_of l.window m ≤ k → k < l.window → mark_at l.window m k ≡ false
marks-off l m e = off l.window m (sound-marks l m e)

-- mats with the same view
module _ (w : ℕ) (a b : Mat) (e : mat_state w a ≡ mat_state w b) where
  oldest-same : a.oldest ≡ b.oldest
  unfolding mat_state
  oldest-same = ap (λ (s : MatState). s.oldest) e

  next-same : a.next ≡ b.next
  unfolding mat_state
  next-same = ap (λ (s : MatState). s.next) e

  out-same : outstanding_of w a ≡ outstanding_of w b
  out-same = ap₂ (distance (2 * w)) oldest-same next-same

  kept_same : (k : ℕ) → k < outstanding_of w a
      → ◌≡◌ {A = Kept} (record { acknowledged = mark_at w a k; cells = cells_at w a k }) (record { acknowledged = mark_at w b k; cells = cells_at w b k })
  unfolding mat_state
  kept_same = tab-at _ _ (outstanding_of w a) (outstanding_of w b) out-same (ap (λ (s : MatState). s.rows) e)

  timers-same : (p : ℕ) → p < w → get_or a.timers p 0 ≡ get_or b.timers p 0
  unfolding mat_state
  timers-same =
      places-at (λ p. get_or a.timers p 0) (λ p. get_or b.timers p 0) w a.next b.next next-same (ap (λ (s : MatState). s.timers) e)

  mark-same : sound_marks w a ≡ true → sound_marks w b ≡ true → (k : ℕ) → k < w → mark_at w a k ≡ mark_at w b k
  mark-same x y k h =
      split (outstanding_of w a) k
      (λ o. off w a x k o h ∙ sym (off w b y k (let q = out-same in omega arith) h))
      (λ o. ap (λ (r : Kept). r.acknowledged) (kept_same k o))

  marks-same : sound_marks w a ≡ true → sound_marks w b ≡ true → (p : ℕ) → p < w → get_or a.marks p false ≡ get_or b.marks p false
  marks-same x y p h =
      ap (λ z. get_or a.marks z false) (sym (ahead-is w a.oldest p h))
      ∙ mark-same x y (ahead w a.oldest p) (ahead-below w a.oldest p h)
      ∙ ap (λ z. get_or b.marks z false) (ap (λ z. place w (z + ahead w a.oldest p)) (sym oldest-same) ∙ ahead-is w a.oldest p h)

  same_of : sound_marks w a ≡ true → sound_marks w b ≡ true → SameMat w a b
  same_of x y =
      record {
        oldest = oldest-same;
        next = next-same;
        marks = λ p h. marks-same x y p (omega arith);
        timers = timers-same;
        outstanding_rows = λ k h. ap (λ (r : Kept). r.cells) (kept_same k h);
      }

pub only-free : (l : Limits) (a b : Mat) → sound_mat l a ≡ true → sound_mat l b ≡ true → mat_state l.window a ≡ mat_state l.window b
    → SameMat l.window a b
only-free l a b x y e = same_of l.window a b e (sound-marks l a x) (sound-marks l b y)

-- mats that differ in nothing but the free parts
module _ (w : ℕ) (a b : Mat) (some : 1 ≤ w) (s : SameMat w a b) where
  out-equal : outstanding_of w a ≡ outstanding_of w b
  out-equal = ap₂ (distance (2 * w)) s.oldest s.next

  mark-equal : (k : ℕ) → mark_at w a k ≡ mark_at w b k
  mark-equal k =
      s.marks (place w (a.oldest + k)) (mod-lt (a.oldest + k) some) ∙ ap (λ z. get_or b.marks (place w (z + k)) false) s.oldest

  pub not-shown : mat_state w a ≡ mat_state w b
  unfolding mat_state
  not-shown =
      λ i. record {
        oldest = s.oldest i;
        next = s.next i;
        rows = tab-same (λ k. record { acknowledged = mark_at w a k; cells = cells_at w a k }) (λ k. record { acknowledged = mark_at w b k; cells = cells_at w b k })
            (outstanding_of w a) (outstanding_of w b) out-equal
            (λ k h. ap₂ (λ x y. record { acknowledged = x; cells = y }) (mark-equal k) (s.outstanding_rows k h)) i;
        timers = places_same (λ p. get_or a.timers p 0) (λ p. get_or b.timers p 0) w a.next b.next s.next s.timers i;
      }

  marks-asked : sound_marks w a ≡ sound_marks w b
  marks-asked =
      ap₂ (λ x y. not x && all not y) (mark-equal 0)
      (tab-same _ _ (w - outstanding_of w a) (w - outstanding_of w b) (ap (w -◌) out-equal)
      (λ i h. mark-equal (outstanding_of w a + i) ∙ ap (λ n. mark_at w b (n + i)) out-equal))

  numbers-asked : sound_numbers w a ≡ sound_numbers w b
  numbers-asked = ap₂ (λ x y. ltb x (2 * w) && (ltb y (2 * w) && leb (distance (2 * w) x y) w)) s.oldest s.next

  timers-asked : (most : ℕ) → all (λ t. leb t most) (tab w (λ i. get_or a.timers i 0)) ≡ all (λ t. leb t most) (tab w (λ i. get_or b.timers i 0))
  timers-asked most = ap (all (λ t. leb t most)) (tab-ext w _ _ s.timers)

  cells-asked : all legal_row (tab (outstanding_of w a) (cells_at w a)) ≡ all legal_row (tab (outstanding_of w b) (cells_at w b))
  cells-asked = ap (all legal_row) (tab-same (cells_at w a) (cells_at w b) (outstanding_of w a) (outstanding_of w b) out-equal s.outstanding_rows)

pub not-asked : (l : Limits) (a b : Mat) → 1 ≤ l.window → SameMat l.window a b → sound_mat l a ≡ sound_mat l b
unfolding sound_mat
not-asked l a b h s =
    ap₂ ◌&&◌ (numbers-asked l.window a b h s)
    (ap₂ ◌&&◌ (marks-asked l.window a b h s) (ap₂ ◌&&◌ (timers-asked l.window a b h s l.resendwait) (cells-asked l.window a b h s)))

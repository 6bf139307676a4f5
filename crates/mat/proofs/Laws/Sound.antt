-- What question 4 of a mat says, fact by fact.
use Prim.Native.Nat.{ℕ, ◌+◌, ◌-◌, ◌*◌, ◌%◌, ◌≤◌, ◌<◌}
use mathlib.Core.Path.{◌≡◌, ◌∙◌, ap}
use mathlib.Core.Bool.{Bool, true, false, not, ◌&&◌}
use native.Mathlib.Omega.{arith}
use native.Mathlib.Nat.{mod-add-mod, mod-lt}
use lib.Dec.{leb, ltb, eqb}
use lib.ListN.{get_or, length, set}
use lib.Seq.{get_or-set_same, get_or-set_other}
use mathlib.Core.List.{List}
use borrow.Author.Tests.{ltb-true, leb-true, lt-ltb, le-leb, not-true, eqb-true, eqb-false}
use Rattle.limits.specs.declared.Limits.{Limits}
use Rattle.limits.specs.Lists.{tab, all}
use Rattle.limits.specs.Cells.{row_at, legal_row}
use Rattle.limits.specs.Limits.{sound_limits}
use Rattle.limits.proofs.Laws.Choice.{and_left, and_right, both, test}
use Rattle.limits.proofs.Laws.Lists.{all-tab, all-tab-at, tab-ext}
use Rattle.limits.proofs.Laws.Ring.{place-by-distance}
use Rattle.limits.proofs.Laws.Good.{Good, good}
use Rattle.mat.specs.declared.Mat.{Mat}
use Rattle.mat.specs.View.{SoundAt, NumbersAt, outstanding_of, mark_at, cells_at, sound_numbers, sound_marks, sound_mat}

pub record Numbers (w : ℕ) (m : Mat) : Type 0 where
  pub oldest : m.oldest < 2 * w
  pub next : m.next < 2 * w
  pub out : outstanding_of w m ≤ w

pub numbers : (w : ℕ) (m : Mat) → sound_numbers w m ≡ true → Numbers w m
numbers w m e =
    record {
      oldest = ltb-true _ _ (and_left (ltb m.oldest (2 * w)) _ e);
      next = ltb-true _ _ (and_left (ltb m.next (2 * w)) (leb (outstanding_of w m) w) rest);
      out = leb-true _ _ (and_right (ltb m.next (2 * w)) (leb (outstanding_of w m) w) rest);
    }
  where
    rest : (ltb m.next (2 * w) && leb (outstanding_of w m) w) ≡ true
    rest = and_right (ltb m.oldest (2 * w)) _ e

pub numbered : (l : Limits) (m : Mat) → NumbersAt l m → Numbers l.window m
numbered l m n = record { oldest = n.1; next = n.2; out = n.3 }

pub record Facts (l : Limits) (m : Mat) : Type 0 where
  pub limits : Good l
  pub numbers : Numbers l.window m
  pub front : mark_at l.window m 0 ≡ false
  pub others : (k : ℕ) → outstanding_of l.window m ≤ k → k < l.window → mark_at l.window m k ≡ false
  pub timers : (i : ℕ) → i < l.window → get_or m.timers i 0 ≤ l.resendwait
  pub cells : (k : ℕ) → k < outstanding_of l.window m → legal_row (cells_at l.window m k) ≡ true

module _ (l : Limits) (m : Mat) where
  timers_right : Bool
  timers_right = all (λ t. leb t l.resendwait) (tab l.window (λ i. get_or m.timers i 0))

  cells_right : Bool
  cells_right = all legal_row (tab (outstanding_of l.window m) (cells_at l.window m))

  others_right : Bool
  others_right = all not (tab (l.window - outstanding_of l.window m) (λ i. mark_at l.window m (outstanding_of l.window m + i)))

  pub facts : sound_limits l ≡ true → sound_mat l m ≡ true → Facts l m
  unfolding sound_mat timers_right cells_right others_right
  facts g e =
      let n = numbers l.window m (and_left (sound_numbers l.window m) _ e) in
      record {
        limits = good l g;
        numbers = n;
        front = not-true _ (and_left (not (mark_at l.window m 0)) others_right marks);
        others = λ k a b.
            ap (λ j. mark_at l.window m j) {x = k} {y = outstanding_of l.window m + (k - outstanding_of l.window m)} (omega arith)
            ∙ not-true _ (all-tab-at not _ _ (and_right (not (mark_at l.window m 0)) others_right marks) (k - outstanding_of l.window m) (omega arith));
        timers = λ i h. leb-true _ _ (all-tab-at (λ t. leb t l.resendwait) _ _ (and_left timers_right cells_right rest) i h);
        cells = λ k h. all-tab-at legal_row _ _ (and_right timers_right cells_right rest) k h;
      }
    where
      more : (sound_marks l.window m && (timers_right && cells_right)) ≡ true
      more = and_right (sound_numbers l.window m) _ e

      marks : (not (mark_at l.window m 0) && others_right) ≡ true
      marks = and_left (sound_marks l.window m) (timers_right && cells_right) more

      rest : (timers_right && cells_right) ≡ true
      rest = and_right (sound_marks l.window m) (timers_right && cells_right) more

  -- what passed question 4 has numbers that pass it
  pub numbers-at : sound_limits l ≡ true → sound_mat l m ≡ true → NumbersAt l m
  numbers-at g e = let n = (facts g e).numbers in (g, n.oldest, n.next, n.out)

  -- and meets what each inner call asks of limits and the mat
  pub asked : SoundAt l m → NumbersAt l m
  asked s = numbers-at s.0 s.1

  pub sound-of : Facts l m → sound_mat l m ≡ true
  unfolding sound_mat
  sound-of f =
      both _ _ (both _ _ (lt-ltb _ _ f.numbers.oldest) (both _ _ (lt-ltb _ _ f.numbers.next) (le-leb _ _ f.numbers.out)))
      (both _ _ (both _ _ (ap not f.front) (all-tab not _ _ (λ i h. ap not (f.others _ (omega arith) (omega arith)))))
      (both _ _ (all-tab _ _ _ (λ i h. le-leb _ _ (f.timers i h))) (all-tab legal_row _ _ (λ k h. f.cells k h))))

-- a timer set to the wait, or to anything below it, leaves every timer at most the wait
pub set-most : (xs : List ℕ) (w p v most : ℕ) → w ≤ length xs → v ≤ most → ((i : ℕ) → i < w → get_or xs i 0 ≤ most) → (i : ℕ) → i < w → get_or (set xs p v) i 0 ≤ most
set-most xs w p v most l h f i j =
    test (eqb i p)
    (λ e. let q = eqb-true i p e in
    let s : get_or (set xs p v) i 0 ≡ v = ap (λ k. get_or (set xs p v) k 0) q ∙ get_or-set_same xs p v 0 (omega arith) in omega arith)
    (λ e. let s = get_or-set_other xs p i v 0 (eqb-false i p e) in let b = f i j in omega arith)

-- the marks and rows that the decision looks at, by their places
module _ (w : ℕ) (m : Mat) where
  pub front-mark : (at : ℕ) → at ≡ m.oldest % w → get_or m.marks at false ≡ mark_at w m 0
  front-mark at e = ap (λ p. get_or m.marks p false) (e ∙ ap (◌% w) {x = m.oldest} {y = m.oldest + 0} (omega arith))

  pub other-marks : m.oldest < 2 * w → m.next < 2 * w → (from count : ℕ) → from ≡ m.next % w → count ≡ w - outstanding_of w m
      → all not (tab count (λ i. get_or m.marks ((from + i) % w) false)) ≡ all not (tab (w - outstanding_of w m) (λ i. mark_at w m (outstanding_of w m + i)))
  other-marks h k from count e q =
      ap (λ n. all not (tab n (λ i. get_or m.marks ((from + i) % w) false))) q
      ∙ ap (all not) (tab-ext (w - outstanding_of w m) _ _
      (λ i j. ap (λ p. get_or m.marks p false)
      (ap (λ a. (a + i) % w) e ∙ mod-add-mod m.next w i ∙ place-by-distance w m.oldest m.next i h k)))

  pub legal-cells : (from count : ℕ) → from ≡ m.oldest % w → count ≡ outstanding_of w m
      → all legal_row (tab count (λ i. row_at m.cells ((from + i) % w))) ≡ all legal_row (tab (outstanding_of w m) (cells_at w m))
  legal-cells from count e q =
      ap (λ n. all legal_row (tab n (λ i. row_at m.cells ((from + i) % w)))) q
      ∙ ap (all legal_row) (tab-ext (outstanding_of w m) _ _ (λ i j. ap (row_at m.cells) (ap (λ a. (a + i) % w) e ∙ mod-add-mod m.oldest w i)))

  -- where no mark is set, the marks are sound
  pub unmarked-sound : 1 ≤ w → w ≤ 32 → ((i : ℕ) → i < 32 → get_or m.marks i false ≡ false) → sound_marks w m ≡ true
  unmarked-sound low high none =
      both _ _ (ap not (off 0)) (all-tab not _ _ (λ i h. ap not (off (outstanding_of w m + i))))
    where
      off : (k : ℕ) → mark_at w m k ≡ false
      off k = none _ (let b = mod-lt (m.oldest + k) {m = w} low in omega arith)

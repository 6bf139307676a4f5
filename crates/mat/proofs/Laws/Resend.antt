-- A kept row sent again: the new window, and that the mat stays sound.
use Prim.Native.Nat.{ℕ, ◌+◌, ◌-◌, ◌*◌, ◌%◌, ◌≤◌, ◌<◌}
use mathlib.Core.Path.{◌≡◌, sym, ◌∙◌, ap, ap₂}
use mathlib.Core.Bool.{Bool, true, false, not}
use mathlib.Core.List.{List}
use native.Mathlib.Omega.{arith}
use native.Mathlib.Nat.{add-mod_right}
use lib.Dec.{ltb}
use borrow.Author.Tests.{lt-ltb, le-ltb}
use lib.ListN.{get_or, length, set}
use Rattle.limits.specs.declared.Limits.{Limits}
use Rattle.limits.specs.Cells.{row_at}
use Rattle.limits.specs.Ring.{step, place}
use Rattle.limits.proofs.Laws.Lists.{tab-ext, set-tab, get_or-tab, length-tab}
use Rattle.limits.proofs.Laws.Ring.{place-of-step, place-by-distance}
use Rattle.rows.proofs.Laws.Places.{set-place}
use Rattle.mat.specs.declared.Mat.{Mat}
use Rattle.mat.specs.Window.{Kept, no_row, outstanding, row_of, timer_place}
use Rattle.mat.specs.Rules.{resending}
use Rattle.mat.specs.View.{mat_of, outstanding_of, mark_at, cells_at, mat_state, sound_mat}
use Rattle.mat.proofs.Laws.Sound.{Numbers, Facts, sound-of, set-most}

pub out-shown : (w : ℕ) (m : Mat) → outstanding (mat_state w m) ≡ outstanding_of w m
unfolding mat_state
out-shown w m = length-tab (outstanding_of w m) _

pub row-shown : (w : ℕ) (m : Mat) (k : ℕ) → k < outstanding_of w m → row_of (mat_state w m) k ≡ record { acknowledged = mark_at w m k; cells = cells_at w m k }
unfolding mat_state
row-shown w m k h = get_or-tab (outstanding_of w m) _ k no_row h

module _ (w : ℕ) (m : Mat) (k : ℕ) (n : Numbers w m) (h : k < outstanding_of w m) where
  -- the place of number oldest + k, told from next
  pub timer-place : (m.next + (w - outstanding_of w m + k)) % w ≡ (m.oldest + k) % w
  timer-place =
      place-by-distance w m.oldest m.next (w - outstanding_of w m + k) n.oldest n.next
      ∙ ap (◌% w) {x = m.oldest + (outstanding_of w m + (w - outstanding_of w m + k))} {y = m.oldest + k + w} (let o = n.out in omega arith)
      ∙ add-mod_right (m.oldest + k) w

  pub timer-shown : get_or (mat_state w m).timers (timer_place w (mat_state w m) k) 0 ≡ get_or m.timers ((m.oldest + k) % w) 0
  unfolding mat_state
  timer-shown =
      ap (λ o. get_or (mat_state w m).timers (w - o + k) 0) (out-shown w m)
      ∙ get_or-tab w _ (w - outstanding_of w m + k) 0 (let o = n.out in omega arith)
      ∙ ap (λ p. get_or m.timers p 0) timer-place

-- the mark and the timer that the code reads at the place of number oldest + k
module _ (w : ℕ) (m : Mat) (k number at : ℕ) (n : Numbers w m) (h : k < outstanding_of w m)
    (q : number ≡ step (2 * w) m.oldest k) (p : at ≡ place w number) where
  pub at_place : at ≡ (m.oldest + k) % w
  at_place =
      p ∙ ap (◌% w) (q ∙ omega arith) ∙ place-of-step w m.oldest k 0 ∙ ap (◌% w) {x = m.oldest + (k + 0)} {y = m.oldest + k} (omega arith)

  pub mark-read : (b : Bool) → get_or m.marks at false ≡ b → not (row_of (mat_state w m) k).acknowledged ≡ not b
  mark-read b e = ap not (ap (λ (r : Kept). r.acknowledged) (row-shown w m k h) ∙ ap (λ x. get_or m.marks x false) (sym at_place) ∙ e)

  pub timer-read : get_or (mat_state w m).timers (timer_place w (mat_state w m) k) 0 ≡ get_or m.timers at 0
  timer-read = timer-shown w m k n h ∙ ap (λ x. get_or m.timers x 0) (sym at_place)

-- the timer at place `at` set
abbrev pub timing : Mat → ℕ → ℕ → Mat
timing m at wait = record { oldest = m.oldest; next = m.next; marks = m.marks; timers = set m.timers at wait; cells = m.cells }

module _ (l : Limits) (m : Mat) (k number at : ℕ) (f : Facts l m) (h : k < outstanding_of l.window m) (timers : length m.timers ≡ 32)
    (q : number ≡ step (2 * l.window) m.oldest k) (p : at ≡ place l.window number) where
  pub at-is : at ≡ (m.oldest + k) % l.window
  at-is = at_place l.window m k number at f.numbers h q p

  timers-set : (mat_state l.window (timing m at l.resendwait)).timers
      ≡ set (mat_state l.window m).timers (timer_place l.window (mat_state l.window m) k) l.resendwait
  unfolding mat_state
  timers-set =
      tab-ext l.window _ _
      (λ i j. ap (λ x. get_or (set m.timers x l.resendwait) ((m.next + i) % l.window) 0) (at-is ∙ sym (timer-place l.window m k f.numbers h))
      ∙ set-place l.window m.next (l.window - outstanding_of l.window m + k) i (let o = f.numbers in omega arith) j m.timers l.resendwait 0
      (let g = f.limits in omega arith))
      ∙ sym (set-tab l.window _ (l.window - outstanding_of l.window m + k) l.resendwait)
      ∙ ap (λ o. set (mat_state l.window m).timers (l.window - o + k) l.resendwait) (sym (out-shown l.window m))

  pub timing-shown : record { state = mat_state l.window (timing m at l.resendwait); message = record { number = number; row = row_at m.cells at } }
      ≡ resending l (mat_state l.window m) k
  unfolding mat_state resending
  timing-shown =
      ap₂ (λ ts x. record { state = record { oldest = m.oldest; next = m.next; rows = (mat_state l.window m).rows; timers = ts }; message = x })
      timers-set
      (ap₂ (λ x r. record { number = x; row = r }) q
      (ap (row_at m.cells) at-is ∙ ap (λ (r : Kept). r.cells) (sym (row-shown l.window m k h))))

  pub timing-sound : sound_mat l (timing m at l.resendwait) ≡ true
  timing-sound =
      sound-of l (timing m at l.resendwait)
      (record {
        limits = f.limits;
        numbers = record { oldest = f.numbers.oldest; next = f.numbers.next; out = f.numbers.out };
        front = f.front;
        others = f.others;
        timers = set-most m.timers l.window at l.resendwait l.resendwait (let g = f.limits in omega arith) (omega arith) f.timers;
        cells = f.cells;
      })

  -- the mat and the row that the code makes
  module _ (timed row : List ℕ) (t : timed ≡ set m.timers at l.resendwait) (r : row ≡ row_at m.cells at) where
    pub timed-sound : sound_mat l (mat_of m.oldest m.next m.marks timed m.cells) ≡ true
    timed-sound = rw t timing-sound

    pub timed-shown : record { state = mat_state l.window (mat_of m.oldest m.next m.marks timed m.cells); message = record { number = number; row = row } }
        ≡ resending l (mat_state l.window m) k
    timed-shown =
        ap₂ (λ ts x. record { state = mat_state l.window (mat_of m.oldest m.next m.marks ts m.cells); message = record { number = number; row = x } }) t r
        ∙ timing-shown

-- the tests of how many rows are outstanding, on the distance that the code takes
pub room-yes : (w : ℕ) (m : Mat) (d : ℕ) → d ≡ outstanding_of w m → d < w → ltb (outstanding (mat_state w m)) w ≡ true
room-yes w m d e h = lt-ltb (outstanding (mat_state w m)) w (let o = out-shown w m in omega arith)

pub room-no : (w : ℕ) (m : Mat) (d : ℕ) → d ≡ outstanding_of w m → w ≤ d → ltb (outstanding (mat_state w m)) w ≡ false
room-no w m d e h = le-ltb (outstanding (mat_state w m)) w (let o = out-shown w m in omega arith)

pub row-yes : (w : ℕ) (m : Mat) (d k : ℕ) → d ≡ outstanding_of w m → k < d → ltb k (outstanding (mat_state w m)) ≡ true
row-yes w m d k e h = lt-ltb k (outstanding (mat_state w m)) (let o = out-shown w m in omega arith)

pub row-no : (w : ℕ) (m : Mat) (d k : ℕ) → d ≡ outstanding_of w m → d ≤ k → ltb k (outstanding (mat_state w m)) ≡ false
row-no w m d k e h = le-ltb k (outstanding (mat_state w m)) (let o = out-shown w m in omega arith)

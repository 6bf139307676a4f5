-- A span marked and the marked front passed: the new window, and that the mat stays sound.
use Prim.Native.Nat.{ℕ, ◌+◌, ◌-◌, ◌*◌, ◌%◌, ◌≤◌, ◌<◌}
use mathlib.Core.Path.{◌≡◌, refl, sym, ◌∙◌, ap, ap₂}
use mathlib.Core.Bool.{Bool, true, false, ◌||◌}
use mathlib.Core.List.{List}
use native.Mathlib.Omega.{arith}
use native.Mathlib.Nat.{add-mod_right, mod-add-mod}
use lib.ListN.{get_or, length, drop}
use Rattle.limits.specs.declared.Limits.{Limits}
use Rattle.limits.specs.Lists.{tab, leading}
use Rattle.limits.specs.Questions.{pick}
use Rattle.limits.specs.Cells.{row_at, legal_row}
use Rattle.limits.specs.Ring.{step}
use Rattle.limits.proofs.Laws.Choice.{split, pick_yes, pick_no}
use Rattle.limits.proofs.Laws.Lists.{tab-ext, drop-tab, length-tab, leading-agree, leading_end, leading-most}
use Rattle.limits.proofs.Laws.Ring.{distance-from, step_fits, place-of-step}
use Rattle.rows.specs.Arrays.{from_to, span_set}
use Rattle.rows.proofs.Laws.Changed.{inside, above}
use Rattle.rows.proofs.Laws.Places.{span-place, length-span}
use Rattle.mat.specs.declared.Mat.{Mat}
use Rattle.mat.specs.Window.{Kept, row_of}
use Rattle.mat.specs.Rules.{marked, passing, Acknowledging}
use Rattle.mat.specs.View.{mat_of, outstanding_of, mark_at, cells_at, mat_state, sound_mat}
use Rattle.mat.proofs.Laws.Sound.{Numbers, Facts, sound-of}
use Rattle.mat.proofs.Laws.Resend.{out-shown, row-shown}

-- the marks after the span of `count` numbers from number oldest + start on was set
abbrev pub marking : ℕ → Mat → ℕ → ℕ → List Bool
marking w m start count = span_set w ((m.oldest + start) % w) count true m.marks

-- and after the marks of `passed` numbers from oldest on were taken away, with oldest behind them
abbrev pub clearing : ℕ → Mat → List Bool → ℕ → Mat
clearing w m marks passed =
    record {
      oldest = step (2 * w) m.oldest passed;
      next = m.next;
      marks = span_set w ((m.oldest + 0) % w) passed false marks;
      timers = m.timers;
      cells = m.cells;
    }

-- the mark of number oldest + k once the span is set
abbrev pub new_mark : ℕ → Mat → ℕ → ℕ → ℕ → Bool
new_mark w m start count k = mark_at w m k || from_to start (start + count) k

or-pick : (b x : Bool) → pick b true x ≡ (x || b)
unfolding pick
or-pick true true = refl
or-pick true false = refl
or-pick false true = refl
or-pick false false = refl

or-none : (x b : Bool) → x ≡ false → b ≡ false → (x || b) ≡ false
or-none x b e q = rw (e, q)

module _ (w : ℕ) (m : Mat) (start count : ℕ) (low : 1 ≤ w) (high : w ≤ 32) (n : Numbers w m) (some : 1 ≤ count)
    (within : start + count ≤ outstanding_of w m) (long : length m.marks ≡ 32) where
  pub mark_set : (k : ℕ) → k < w → get_or (marking w m start count) ((m.oldest + k) % w) false ≡ new_mark w m start count k
  mark_set k h =
      let o = n.out in
      span-place w m.oldest start k (omega arith) h count true m.marks (omega arith) (omega arith) ∙ or-pick (from_to start (start + count) k) (mark_at w m k)

  -- the rows of the rule are those marks beside the cells
  pub rows-marked : marked start count (mat_state w m)
      ≡ tab (outstanding_of w m) (λ k. record { acknowledged = new_mark w m start count k; cells = cells_at w m k })
  unfolding marked
  rows-marked =
      ap (λ o. tab o (λ k. record { acknowledged = (row_of (mat_state w m) k).acknowledged || from_to start (start + count) k; cells = (row_of (mat_state w m) k).cells }))
      (out-shown w m)
      ∙ tab-ext (outstanding_of w m) _ _
      (λ k h. ap (λ (r : Kept). record { acknowledged = r.acknowledged || from_to start (start + count) k; cells = r.cells }) (row-shown w m k h))

  -- the marked front, counted on the array
  pub run_is : leading (λ (k : Kept). k.acknowledged) (marked start count (mat_state w m))
      ≡ leading (λ (b : Bool). b) (tab (outstanding_of w m) (λ i. get_or (marking w m start count) ((m.oldest + i) % w) false))
  run_is =
      ap (leading (λ (k : Kept). k.acknowledged)) rows-marked
      ∙ leading-agree (λ (k : Kept). k.acknowledged) (λ (b : Bool). b) (outstanding_of w m) _ _
      (λ i h. sym (mark_set i (let o = n.out in omega arith)))

  -- the same, as the code counts it: from the place of oldest on
  pub run-counted : (passed out from span : ℕ) (set : List Bool) → passed ≡ leading (λ (b : Bool). b) (tab out (λ i. get_or set ((from + i) % w) false))
      → out ≡ outstanding_of w m → from ≡ m.oldest % w → span ≡ (m.oldest + start) % w → set ≡ span_set w span count true m.marks
      → passed ≡ leading (λ (k : Kept). k.acknowledged) (marked start count (mat_state w m))
  run-counted passed out from span set e o q a s =
      e
      ∙ ap (λ n. leading (λ (b : Bool). b) (tab n (λ i. get_or set ((from + i) % w) false))) o
      ∙ leading-agree (λ (b : Bool). b) (λ (b : Bool). b) (outstanding_of w m) _ _
      (λ i h. ap₂ (λ xs p. get_or xs p false) (s ∙ ap (λ x. span_set w x count true m.marks) a) (ap (λ x. (x + i) % w) q ∙ mod-add-mod m.oldest w i))
      ∙ sym run_is

-- at most all that were looked at were counted
pub run-most : (passed out : ℕ) (f : ℕ → Bool) → passed ≡ leading (λ (b : Bool). b) (tab out f) → passed ≤ out
run-most passed out f e = let h = leading-most (λ (b : Bool). b) (tab out f) in let k = length-tab out f in omega arith

-- a mark after the front was passed
module _ (w : ℕ) (m : Mat) (marks : List Bool) (passed : ℕ) (low : 1 ≤ w) (fits : passed ≤ w) (long : w ≤ length marks) where
  place-on : (k : ℕ) → (step (2 * w) m.oldest passed + k) % w ≡ (m.oldest + (passed + k)) % w
  place-on k = place-of-step w m.oldest passed k

  pub mark-kept : (k : ℕ) → passed + k < w → mark_at w (clearing w m marks passed) k ≡ get_or marks ((m.oldest + (passed + k)) % w) false
  mark-kept k h =
      ap (λ p. get_or (span_set w ((m.oldest + 0) % w) passed false marks) p false) (place-on k)
      ∙ span-place w m.oldest 0 (passed + k) low h passed false marks long (omega arith)
      ∙ pick_no _ _ _ _ (above 0 (0 + passed) (passed + k) (omega arith)) refl

  pub mark-cleared : (k : ℕ) → k < w → w ≤ passed + k → mark_at w (clearing w m marks passed) k ≡ false
  mark-cleared k h o =
      ap (λ p. get_or (span_set w ((m.oldest + 0) % w) passed false marks) p false)
      (place-on k ∙ ap (◌% w) {x = m.oldest + (passed + k)} {y = m.oldest + (passed + k - w) + w} (omega arith) ∙ add-mod_right (m.oldest + (passed + k - w)) w)
      ∙ span-place w m.oldest 0 (passed + k - w) low (omega arith) passed false marks long (omega arith)
      ∙ pick_yes _ _ _ _ (inside 0 (0 + passed) (passed + k - w) (omega arith) (omega arith)) refl

abbrev pub acknowledged : ℕ → Mat → ℕ → ℕ → ℕ → Mat
acknowledged w m start count passed = clearing w m (marking w m start count) passed

abbrev is_marked : Kept → Bool
is_marked k = k.acknowledged

module _ (l : Limits) (m : Mat) (start count : ℕ) (f : Facts l m) (some : 1 ≤ count) (within : start + count ≤ outstanding_of l.window m)
    (long : length m.marks ≡ 32) (passed : ℕ) (is : passed ≡ leading is_marked (marked start count (mat_state l.window m))) where
  the-rows : marked start count (mat_state l.window m)
      ≡ tab (outstanding_of l.window m) (λ k. record { acknowledged = new_mark l.window m start count k; cells = cells_at l.window m k })
  the-rows = rows-marked l.window m start count f.limits.window-low f.limits.window-high f.numbers some within long

  pub passed-most : passed ≤ outstanding_of l.window m
  passed-most =
      let most = leading-most is_marked (marked start count (mat_state l.window m)) in
      let len = ap length the-rows ∙ length-tab (outstanding_of l.window m) _ in omega arith

  -- behind the front the marks are as they were set, and those of the rows passed are off
  mark-after : (k : ℕ) → passed + k < l.window → mark_at l.window (acknowledged l.window m start count passed) k ≡ new_mark l.window m start count (passed + k)
  mark-after k h =
      mark-kept l.window m (marking l.window m start count) passed f.limits.window-low (omega arith)
      (let s = length-span l.window ((m.oldest + start) % l.window) count true m.marks in let g = f.limits in omega arith) k h
      ∙ mark_set l.window m start count f.limits.window-low f.limits.window-high f.numbers some within long (passed + k) h

  mark-gone : (k : ℕ) → k < l.window → l.window ≤ passed + k → mark_at l.window (acknowledged l.window m start count passed) k ≡ false
  mark-gone k h o =
      mark-cleared l.window m (marking l.window m start count) passed f.limits.window-low (let p = passed-most in let n = f.numbers in omega arith)
      (let s = length-span l.window ((m.oldest + start) % l.window) count true m.marks in let g = f.limits in omega arith) k h o

  -- rows that are not outstanding stay unmarked
  new_others : (k : ℕ) → outstanding_of l.window m ≤ k → k < l.window → new_mark l.window m start count k ≡ false
  new_others k a b = or-none _ _ (f.others k a b) (above start (start + count) k (omega arith))

  -- the row behind the marked front is unmarked
  new-front : passed < l.window → new_mark l.window m start count passed ≡ false
  new-front h =
      split (outstanding_of l.window m) passed
      (λ o. new_others passed o h)
      (λ o. let e : passed ≡ leading is_marked (tab (outstanding_of l.window m) (λ k. record { acknowledged = new_mark l.window m start count k; cells = cells_at l.window m k })) =
      is ∙ ap (leading is_marked) the-rows in
      ap (new_mark l.window m start count) e
      ∙ leading_end is_marked (outstanding_of l.window m) (λ k. record { acknowledged = new_mark l.window m start count k; cells = cells_at l.window m k }) (rw (← e) o))

  out-less : outstanding_of l.window (acknowledged l.window m start count passed) ≡ outstanding_of l.window m - passed
  out-less = distance-from (2 * l.window) m.oldest m.next passed f.numbers.oldest f.numbers.next passed-most

  cells-after : (k : ℕ) → cells_at l.window (acknowledged l.window m start count passed) k ≡ cells_at l.window m (passed + k)
  cells-after k = ap (row_at m.cells) (place-of-step l.window m.oldest passed k)

  made : ℕ → List Kept → Acknowledging
  made p rs =
      record {
        state = record { oldest = step (2 * l.window) m.oldest p; next = m.next; rows = rs; timers = (mat_state l.window m).timers };
        passed = p;
      }

  rows-after : (mat_state l.window (acknowledged l.window m start count passed)).rows ≡ drop passed (marked start count (mat_state l.window m))
  unfolding mat_state
  rows-after =
      ap (λ o. tab o (λ k. record {
        acknowledged = mark_at l.window (acknowledged l.window m start count passed) k;
        cells = cells_at l.window (acknowledged l.window m start count passed) k;
      })) out-less
      ∙ tab-ext (outstanding_of l.window m - passed) _ _
      (λ k h. ap₂ (λ b cs. record { acknowledged = b; cells = cs }) (mark-after k (let n = f.numbers in omega arith)) (cells-after k))
      ∙ sym (drop-tab passed (outstanding_of l.window m) _)
      ∙ ap (drop passed) (sym the-rows)

  pub acknowledged-shown : record { state = mat_state l.window (acknowledged l.window m start count passed); passed = passed }
      ≡ passing l (mat_state l.window m) start count
  unfolding mat_state passing made
  acknowledged-shown =
      ap (made passed) rows-after ∙ ap (λ p. made p (drop p (marked start count (mat_state l.window m)))) is

  pub acknowledged-sound : sound_mat l (acknowledged l.window m start count passed) ≡ true
  acknowledged-sound =
      let p = passed-most in let n = f.numbers in let o = out-less in
      sound-of l (acknowledged l.window m start count passed)
      (record {
        limits = f.limits;
        numbers =
            record { oldest = step_fits (2 * l.window) m.oldest passed (let g = f.limits in omega arith); next = f.numbers.next; out = omega arith };
        front =
            split l.window passed
            (λ a. mark-gone 0 (let g = f.limits in omega arith) (omega arith))
            (λ a. mark-after 0 (omega arith) ∙ ap (new_mark l.window m start count) {x = passed + 0} {y = passed} (omega arith) ∙ new-front a);
        others = λ k a b.
            split l.window (passed + k)
            (λ c. mark-gone k b c)
            (λ c. mark-after k c ∙ new_others (passed + k) (omega arith) c);
        timers = f.timers;
        cells = λ k h. ap legal_row (cells-after k) ∙ f.cells (passed + k) (omega arith);
      })

  -- the mat that the code makes, field by field
  module _ (span front oldest : ℕ) (set cleared : List Bool) (a : span ≡ (m.oldest + start) % l.window) (b : front ≡ (m.oldest + 0) % l.window)
      (c : set ≡ span_set l.window span count true m.marks) (d : cleared ≡ span_set l.window front passed false set)
      (e : oldest ≡ step (2 * l.window) m.oldest passed) where
    as-acknowledged : mat_of oldest m.next cleared m.timers m.cells
        ≡ acknowledged l.window m start count passed
    as-acknowledged = rw (d, c, a, b, e)

    pub marked-sound : sound_mat l (mat_of oldest m.next cleared m.timers m.cells) ≡ true
    marked-sound = ap (sound_mat l) as-acknowledged ∙ acknowledged-sound

    pub marked-shown : record { state = mat_state l.window (mat_of oldest m.next cleared m.timers m.cells); passed = passed }
        ≡ passing l (mat_state l.window m) start count
    marked-shown = ap (λ x. record { state = mat_state l.window x; passed = passed }) as-acknowledged ∙ acknowledged-shown

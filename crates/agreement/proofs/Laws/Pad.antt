-- The pad read from the unbounded ends: its slots, its run, and what an arriving row, a reply and a tick do to it.
use Prim.Native.Nat.{ℕ, ◌+◌, ◌-◌, ◌*◌, ◌%◌, ◌≤◌, ◌<◌}
use mathlib.Core.Path.{◌≡◌, refl, sym, ◌∙◌, ap}
use mathlib.Core.Bool.{Bool, true, false, ◌&&◌}
use mathlib.Core.List.{List, ◌++◌, map}
use native.Mathlib.Omega.{arith}
use lib.Dec.{eqb, ltb}
use borrow.Author.Tests.{eqb-true, eqb-false, eq-eqb, ne_eqb, lt-ltb, le-ltb}
use lib.ListN.{take, drop, set, replicate}
use Rattle.limits.specs.declared.Limits.{Limits}
use Rattle.limits.specs.Lists.{tab, leading, joined}
use Rattle.limits.specs.Questions.{pick}
use Rattle.limits.specs.Ring.{distance}
use Rattle.limits.specs.Tables.{Data, no_reply}
use Rattle.limits.proofs.Laws.Choice.{test, split, and_left, pick_yes, pick_no}
use Rattle.limits.proofs.Laws.Lists.{length-tab, tab-ext, take-tab, set-tab, map-tab, leading_at, leading_end, leading-most, leading-agree}
use Rattle.pad.specs.Window.{empty, full, ready, contents}
use Rattle.pad.specs.Rules as pad
use Rattle.pad.proofs.Laws.Shifted.{shifted}
use Rattle.unbounded.specs.Ends as ends
use Rattle.unbounded.specs.Ends.{Ends, at}
use Rattle.unbounded.specs.Rules.{holding, later}
use Rattle.agreement.specs.Reading.{slot_of, pad_of}
use Rattle.agreement.proofs.Laws.Modulo.{distance-modulo, distance-modulo-back}

-- a slot by its mark b, its timer t and its row r
module _ (t : ℕ) (r : List ℕ) where
  mark-ready : (b : Bool) → ready (pick b (full t r) empty) ≡ (b && ltb 0 t)
  unfolding ready pick
  mark-ready true = refl
  mark-ready false = refl

  mark-contents : (b : Bool) → b ≡ true → contents (pick b (full t r) empty) ≡ r
  mark-contents b e = ap contents (pick_yes b (full t r) empty (full t r) e refl)

  mark-falls : (d : ℕ) (b : Bool) → pad.slot_falls d (pick b (full t r) empty) ≡ pick b (full (t - d) r) empty
  unfolding pick
  mark-falls d true = refl
  mark-falls d false = refl

pub slot-ready : (s : Ends) (m : ℕ) → ready (slot_of s m) ≡ ends.ready s m
slot-ready s m = mark-ready (s.reply_timer m) (s.held_row m) (s.held m)

pub slot-contents : (s : Ends) (m : ℕ) → ends.ready s m ≡ true → contents (slot_of s m) ≡ s.held_row m
slot-contents s m e = mark-contents (s.reply_timer m) (s.held_row m) (s.held m) (and_left (s.held m) (ltb 0 (s.reply_timer m)) e)

pub slot-none : (s : Ends) (m : ℕ) → s.held m ≡ false → slot_of s m ≡ empty
slot-none s m e = pick_no (s.held m) (full (s.reply_timer m) (s.held_row m)) empty empty e refl

-- time passes
pub ticked-read : (w d : ℕ) (s : Ends) → pad.ticked d (pad_of w s) ≡ pad_of w (later d s)
unfolding pad.ticked
ticked-read w d s =
    ap (λ xs. record { wanted = s.wanted % (2 * w); slots = xs })
    (map-tab (pad.slot_falls d) w (λ i. slot_of s (s.wanted + i))
    ∙ tab-ext w _ (λ i. slot_of (later d s) (s.wanted + i))
    (λ i h. mark-falls (s.reply_timer (s.wanted + i)) (s.held_row (s.wanted + i)) d (s.held (s.wanted + i))))

-- some element at the front passes just where the first does
leading-some : {A : Type 0} (p : A → Bool) (n : ℕ) (f : ℕ → A) → 1 ≤ n → ltb 0 (leading p (tab n f)) ≡ p (f 0)
leading-some p n f h =
    split 1 (leading p (tab n f))
    (λ k. lt-ltb 0 (leading p (tab n f)) k ∙ sym (leading_at p n f 0 k))
    (λ k. le-ltb 0 (leading p (tab n f)) (omega arith)
    ∙ sym (ap (λ j. p (f j)) {x = 0} {y = leading p (tab n f)} (omega arith) ∙ leading_end p n f (omega arith)))

-- the run of ready rows
module _ (w : ℕ) (s : Ends) where
  pub run-read : pad.run (pad_of w s) ≡ ends.run w s
  run-read = leading-agree ready (ends.ready s) w (λ i. slot_of s (s.wanted + i)) (λ i. s.wanted + i) (λ i h. slot-ready s (s.wanted + i))

  pub run-low : ends.run w s ≤ w
  run-low =
      let m = leading-most (ends.ready s) (tab w (λ i. s.wanted + i)) in let l = length-tab w (λ i. s.wanted + i) in omega arith

  -- there is a run just where the row wanted is ready
  pub run-some : 1 ≤ w → ltb 0 (ends.run w s) ≡ ends.ready s s.wanted
  run-some h =
      leading-some (ends.ready s) w (λ i. s.wanted + i) h ∙ ap (ends.ready s) {x = s.wanted + 0} {y = s.wanted} (omega arith)

  pub run_at : (i : ℕ) → i < ends.run w s → ends.ready s (s.wanted + i) ≡ true
  run_at i h = leading_at (ends.ready s) w (λ j. s.wanted + j) i h

  -- the rows of the run
  pub rows-read : joined (map contents (take (ends.run w s) (pad_of w s).slots)) ≡ joined (tab (ends.run w s) (λ i. s.held_row (s.wanted + i)))
  rows-read =
      ap joined
      (ap (map contents) (take-tab (ends.run w s) w (λ i. slot_of s (s.wanted + i)) run-low)
      ∙ map-tab contents (ends.run w s) (λ i. slot_of s (s.wanted + i))
      ∙ tab-ext (ends.run w s) _ (λ i. s.held_row (s.wanted + i)) (λ i h. slot-contents s (s.wanted + i) (run_at i h)))

  -- n rows pass, where nothing is held beyond the window
  pub passed-read : (n : ℕ) → n ≤ w → ((m : ℕ) → s.wanted + w ≤ m → s.held m ≡ false)
      → drop n (pad_of w s).slots ++ replicate n empty ≡ tab w (λ i. slot_of s (s.wanted + n + i))
  passed-read n h beyond =
      shifted w n (λ i. slot_of s (s.wanted + i)) empty h
      ∙ tab-ext w _ (λ i. slot_of s (s.wanted + n + i))
      (λ i k. split (w - n) i
      (λ o. pick_no _ _ _ _ (le-ltb i (w - n) o) (sym (slot-none s (s.wanted + n + i) (beyond (s.wanted + n + i) (omega arith)))))
      (λ o. pick_yes _ _ _ _ (lt-ltb i (w - n) o) (ap (slot_of s) {x = s.wanted + (n + i)} {y = s.wanted + n + i} (omega arith))))

-- a row of the window arrives
module _ (l : Limits) (s : Ends) (x : Data) where
  -- any number in the window is the one that arrived, or is as it was
  holding-slot : (m : ℕ) → slot_of (holding l s x) m ≡ pick (eqb m x.number) (full l.replywait x.row) (slot_of s m)
  unfolding at pick
  holding-slot m = by (eqb m x.number)
    where
      by : (b : Bool)
          → pick (pick b true (s.held m)) (full (pick b l.replywait (s.reply_timer m)) (pick b x.row (s.held_row m))) empty
          ≡ pick b (full l.replywait x.row) (slot_of s m)
      by true = refl
      by false = refl

  same_number : (i : ℕ) → s.wanted ≤ x.number → eqb i (x.number - s.wanted) ≡ eqb (s.wanted + i) x.number
  same_number i h =
      test (eqb (s.wanted + i) x.number)
      (λ e. let q = eqb-true (s.wanted + i) x.number e in eq-eqb i (x.number - s.wanted) (omega arith) ∙ sym e)
      (λ e. let q = eqb-false (s.wanted + i) x.number e in ne_eqb i (x.number - s.wanted) (λ z. q (omega arith)) ∙ sym e)

  holding-read : (k : ℕ) → k ≡ x.number - s.wanted → s.wanted ≤ x.number
      → record { wanted = s.wanted % (2 * l.window); slots = set (pad_of l.window s).slots k (full l.replywait x.row) }
      ≡ pad_of l.window (holding l s x)
  holding-read k e h =
      ap (λ xs. record { wanted = s.wanted % (2 * l.window); slots = xs })
      (set-tab l.window (λ i. slot_of s (s.wanted + i)) k (full l.replywait x.row)
      ∙ tab-ext l.window _ (λ i. slot_of (holding l s x) (s.wanted + i))
      (λ i j. ap (λ b. pick b (full l.replywait x.row) (slot_of s (s.wanted + i))) (ap (eqb i) e ∙ same_number i h)
      ∙ sym (holding-slot (s.wanted + i))))

  abbrev pub number_read : Data
  number_read = record { number = x.number % (2 * l.window); row = x.row }

  abbrev pub old_row : pad.Arrival
  old_row = record { state = pad_of l.window s; old = true; reply = record { first = number_read.number; last = number_read.number } }

  abbrev pub new_row : pad.Arrival
  new_row = record { state = pad_of l.window (holding l s x); old = false; reply = no_reply.body }

  -- an arriving number is an old one modulo 2w just where it is an old one
  pub arrival-read : x.number < s.wanted + l.window → s.wanted ≤ x.number + l.window
      → pad.arrival l (pad_of l.window s) number_read ≡ pick (ltb x.number s.wanted) old_row new_row
  unfolding pad.arrival
  arrival-read high low =
      split s.wanted x.number
      (λ h. let e = distance-modulo (2 * l.window) s.wanted x.number h (omega arith) in
      pick_yes _ _ _ _ (lt-ltb (distance (2 * l.window) (s.wanted % (2 * l.window)) (x.number % (2 * l.window))) l.window (omega arith))
      (ap (λ p. record { state = p; old = false; reply = no_reply.body }) (holding-read _ e h))
      ∙ sym (pick_no _ _ _ _ (le-ltb x.number s.wanted h) refl))
      (λ h. let e = distance-modulo-back (2 * l.window) s.wanted x.number h (omega arith) in
      pick_no _ _ _ _ (le-ltb (distance (2 * l.window) (s.wanted % (2 * l.window)) (x.number % (2 * l.window))) l.window (omega arith))
      (sym (pick_yes _ _ _ _ (lt-ltb x.number s.wanted h) refl)))

-- A row stored at its place is the window's row of that distance.
use Prim.Native.Nat.{ℕ, ◌+◌, ◌*◌, ◌%◌, ◌<◌}
use mathlib.Core.Path.{◌≡◌, refl, sym, ◌∙◌, ap}
use mathlib.Core.Bool.{true, false}
use mathlib.Core.List.{List}
use native.Mathlib.Omega.{arith}
use native.Mathlib.Nat.{mod-lt}
use lib.Dec.{eqb}
use borrow.Author.Tests.{eqb-true, eqb-false, eq-eqb, ne_eqb}
use lib.ListN.{length, get_or, set}
use lib.Seq.{get_or-set_same, get_or-set_other}
use Rattle.limits.specs.declared.Limits.{Limits}
use Rattle.limits.specs.Cells.{legal_row}
use Rattle.limits.specs.Questions.{pick}
use Rattle.limits.specs.Ring.{distance, place}
use Rattle.limits.proofs.Laws.Choice.{test, pick_yes, pick_no, pick-cases}
use Rattle.limits.proofs.Laws.Good.{Good, good}
use Rattle.limits.proofs.Laws.Lists.{tab-ext, set-tab}
use Rattle.limits.proofs.Laws.Ring.{place-inj, place-at-distance}
use Rattle.rows.specs.Arrays.{written}
use Rattle.rows.proofs.Laws.Cells.{written_same, written-other}
use Rattle.pad.specs.declared.Pad.{Pad}
use Rattle.pad.specs.Window.{full}
use Rattle.pad.specs.Rules.{holding}
use Rattle.pad.specs.View.{slot_at, pad_state, sound_slot, sound_pad, Shows}
use Rattle.pad.proofs.Laws.Slots.{Sized, slot-full, slot_same}
use Rattle.pad.proofs.Laws.Sound.{Facts, sound-of}
use Rattle.limits.specs.Limits.{sound_limits}

-- the place of a number lies in the arrays
pub place-fits : (l : Limits) (number at : ℕ) → sound_limits l ≡ true → at ≡ place l.window number → at < 32
place-fits l number at h e = let g = good l h in let b = mod-lt number {m = l.window} (omega arith) in omega arith

abbrev pub stored : Pad → ℕ → ℕ → List ℕ → Pad
stored p at t row =
    record { wanted = p.wanted; held = set p.held at true; timers = set p.timers at t; cells = written (16 * at) row p.cells }

module _ (p : Pad) (at t : ℕ) (row : List ℕ) (s : Sized p) (h : at < 32) (n : length row ≡ 16) where
  stored_here : slot_at (stored p at t row) at ≡ full t row
  stored_here =
      slot-full (stored p at t row) at t row
      (get_or-set_same p.held at true false (omega arith))
      (get_or-set_same p.timers at t 0 (omega arith))
      (written_same at row p.cells s.cells h n)

  stored_other : (q : ℕ) → q < 32 → (q ≡ at → ⊥) → slot_at (stored p at t row) q ≡ slot_at p q
  stored_other q k ne =
      slot_same (stored p at t row) p q
      (get_or-set_other p.held at q true false ne)
      (get_or-set_other p.timers at q t 0 ne)
      (written-other at q row p.cells s.cells k ne)

  stored_at : (q : ℕ) → q < 32 → slot_at (stored p at t row) q ≡ pick (eqb q at) (full t row) (slot_at p q)
  stored_at q k =
      test (eqb q at)
      (λ e. ap (slot_at (stored p at t row)) (eqb-true q at e) ∙ stored_here ∙ sym (pick_yes _ _ _ _ e refl))
      (λ e. stored_other q k (eqb-false q at e) ∙ sym (pick_no _ _ _ _ e refl))

-- two numbers of the window have the same place only where they are the same
same_place : (w o k d : ℕ) → k < w → d < w → eqb ((o + k) % w) ((o + d) % w) ≡ eqb k d
same_place w o k d h j =
    test (eqb k d)
    (λ e. eq-eqb _ _ (ap (λ i. (o + i) % w) (eqb-true k d e)) ∙ sym e)
    (λ e. ne_eqb _ _ (λ z. eqb-false k d e (place-inj w o k d h j z)) ∙ sym e)

module _ (l : Limits) (p : Pad) (number at : ℕ) (row : List ℕ) (g : Good l) (f : Facts l p) (s : Sized p) (k : number < 2 * l.window)
    (n : length row ≡ 16) (e : at ≡ place l.window number) where
  at_low : at < l.window
  at_low = rw e (mod-lt number (omega arith))

  stored-slot : (i : ℕ) → i < l.window → slot_at (stored p at l.replywait row) i ≡ pick (eqb i at) (full l.replywait row) (slot_at p i)
  stored-slot i h = let a = at_low in stored_at p at l.replywait row s (omega arith) n i (omega arith)

  stored-state : distance (2 * l.window) p.wanted number < l.window
      → pad_state l.window (stored p at l.replywait row) ≡ holding l (pad_state l.window p) (record { number = number; row = row })
  unfolding pad_state
  stored-state h =
      ap (λ xs. record { wanted = p.wanted; slots = xs })
      (tab-ext l.window _ _
      (λ i j. stored-slot ((p.wanted + i) % l.window) (mod-lt (p.wanted + i) (omega arith))
      ∙ ap (λ b. pick b (full l.replywait row) (slot_at p ((p.wanted + i) % l.window)))
      (ap (eqb ((p.wanted + i) % l.window)) (e ∙ place-at-distance l.window p.wanted number f.low k)
      ∙ same_place l.window p.wanted i _ j h))
      ∙ sym (set-tab l.window _ _ _))

  stored-sound : legal_row row ≡ true → sound_pad l (stored p at l.replywait row) ≡ true
  stored-sound legal =
      sound-of l (stored p at l.replywait row)
      (record {
        low = f.low;
        timers = λ i h. test (eqb i at)
            (λ q. let z = ap (λ j. get_or (set p.timers at l.replywait) j 0) (eqb-true i at q)
            ∙ get_or-set_same p.timers at l.replywait 0 (let a = at_low in omega arith) in omega arith)
            (λ q. rw (get_or-set_other p.timers at i l.replywait 0 (eqb-false i at q)) (f.timers i h));
        rows = λ i h. ap sound_slot (stored-slot i h)
            ∙ pick-cases (λ x. sound_slot x ≡ true) (eqb i at) (full l.replywait row) (slot_at p i) (λ _. legal) (λ _. f.rows i h);
      })

  -- what holding the row gives
  pub row-held : (after : Pad) → after ≡ stored p at l.replywait row → legal_row row ≡ true → distance (2 * l.window) p.wanted number < l.window
      → Shows l after (holding l (pad_state l.window p) (record { number = number; row = row }))
  row-held after is legal h = (rw is (stored-sound legal), ap (pad_state l.window) is ∙ stored-state h)

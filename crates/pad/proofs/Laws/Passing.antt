-- Wanted passes the run: the rows behind it stand at the front, and the places of the run are empty.
use Prim.Native.Nat.{ℕ, ◌+◌, ◌-◌, ◌*◌, ◌%◌, ◌≤◌, ◌<◌}
use mathlib.Core.Path.{◌≡◌, refl, sym, ◌∙◌, ap}
use mathlib.Core.Bool.{Bool, true, false}
use mathlib.Core.List.{List, ◌++◌}
use native.Mathlib.Omega.{arith}
use native.Mathlib.Nat.{mod-lt, add-mod_right}
use lib.Dec.{ltb}
use borrow.Author.Tests.{lt-ltb, le-ltb}
use lib.ListN.{length, get_or, drop, replicate, get_or-eq_default}
use Rattle.limits.specs.declared.Limits.{Limits}
use Rattle.limits.specs.Cells.{row_at}
use Rattle.limits.specs.Lists.{tab, joined}
use Rattle.limits.specs.Questions.{pick}
use Rattle.limits.specs.Ring.{distance, step, place}
use Rattle.limits.proofs.Laws.Choice.{split, test, pick_yes, pick_no, pick-cases, both, and-no-right}
use Rattle.limits.proofs.Laws.Good.{Good}
use Rattle.limits.proofs.Laws.Lists.{tab-ext}
use Rattle.limits.proofs.Laws.Ring.{place-of-step, place-distance, distance-on}
use Rattle.rows.specs.Arrays.{changed, span_set}
use Rattle.rows.proofs.Laws.Changed.{length-changed, changed-at, changed-other}
use Rattle.pad.specs.declared.Pad.{Pad}
use Rattle.pad.specs.Window.{empty}
use Rattle.pad.specs.Rules.{run, replying}
use Rattle.pad.specs.View.{slot_at, pad_state, sound_slot, sound_pad}
use Rattle.pad.proofs.Laws.Slots.{slot-empty, slot_same}
use Rattle.pad.proofs.Laws.Run.{run-rows}
use Rattle.pad.proofs.Laws.Sound.{Facts, facts, sound-of}
use Rattle.pad.proofs.Laws.Shifted.{shifted}

-- of a list of any length: past its end stands false
unset : (at : ℕ → Bool) (xs : List Bool) (i : ℕ) → at i ≡ true → get_or (changed false at (λ _. false) xs) i false ≡ false
unset at xs i e =
    split (length xs) i
    (λ k. get_or-eq_default (changed false at (λ _. false) xs) false (let n = length-changed false at (λ _. false) xs in omega arith))
    (λ k. changed-at false at _ xs i k e)

abbrev pub passed : Limits → Pad → ℕ → ℕ → Pad
passed l p from n =
    record { wanted = step (2 * l.window) p.wanted n; held = span_set l.window from n false p.held; timers = p.timers; cells = p.cells }

module _ (l : Limits) (p : Pad) (from n : ℕ) (g : Good l) (e : from ≡ place l.window p.wanted) (h : n ≤ l.window) where
  -- the place of a number of the run is empty, any other as it was
  cleared : (i : ℕ) → i < l.window → slot_at (passed l p from n) i ≡ pick (ltb (distance l.window from i) n) empty (slot_at p i)
  unfolding span_set
  cleared i k =
      test (ltb (distance l.window from i) n)
      (λ q. slot-empty (passed l p from n) i (unset _ p.held i (both _ _ (lt-ltb i _ k) q)) ∙ sym (pick_yes _ _ _ _ q refl))
      (λ q. slot_same (passed l p from n) p i (changed-other false _ _ p.held i (and-no-right (ltb i l.window) _ q)) refl refl ∙ sym (pick_no _ _ _ _ q refl))

  from_on : (k : ℕ) → k < l.window → distance l.window from ((p.wanted + k) % l.window) ≡ k
  from_on k j =
      ap (λ a. distance l.window a ((p.wanted + k) % l.window)) (e ∙ ap (◌% l.window) {x = p.wanted} {y = p.wanted + 0} (omega arith))
      ∙ place-distance l.window p.wanted 0 k (omega arith) j
      ∙ distance-on l.window 0 k (omega arith) j
      ∙ omega arith

  slot-passed : (k : ℕ) → k < l.window
      → slot_at (passed l p from n) ((p.wanted + k) % l.window) ≡ pick (ltb k n) empty (slot_at p ((p.wanted + k) % l.window))
  slot-passed k j =
      cleared ((p.wanted + k) % l.window) (mod-lt (p.wanted + k) (omega arith))
      ∙ ap (λ d. pick (ltb d n) empty (slot_at p ((p.wanted + k) % l.window))) (from_on k j)

  passed-state : pad_state l.window (passed l p from n)
      ≡ record { wanted = step (2 * l.window) p.wanted n; slots = drop n (pad_state l.window p).slots ++ replicate n empty }
  unfolding pad_state
  passed-state =
      ap (λ xs. record { wanted = step (2 * l.window) p.wanted n; slots = xs })
      (tab-ext l.window _ _
      (λ i k. ap (slot_at (passed l p from n)) (place-of-step l.window p.wanted n i)
      ∙ split l.window (n + i)
      (λ o. ap (slot_at (passed l p from n)) (round (n + i) o)
      ∙ slot-passed (n + i - l.window) (omega arith)
      ∙ pick_yes _ _ _ _ (lt-ltb (n + i - l.window) n (omega arith)) refl
      ∙ sym (pick_no _ _ _ _ (le-ltb i (l.window - n) (omega arith)) refl))
      (λ o. slot-passed (n + i) o
      ∙ pick_no _ _ _ _ (le-ltb (n + i) n (omega arith)) refl
      ∙ sym (pick_yes _ _ _ _ (lt-ltb i (l.window - n) (omega arith)) refl)))
      ∙ sym (shifted l.window n (λ i. slot_at p ((p.wanted + i) % l.window)) empty h))
    where
      round : (k : ℕ) → l.window ≤ k → (p.wanted + k) % l.window ≡ (p.wanted + (k - l.window)) % l.window
      round k o =
          ap (◌% l.window) {x = p.wanted + k} {y = p.wanted + (k - l.window) + l.window} (omega arith)
          ∙ add-mod_right (p.wanted + (k - l.window)) l.window

  passed-sound : Facts l p → sound_pad l (passed l p from n) ≡ true
  unfolding step
  passed-sound f =
      sound-of l (passed l p from n)
      (record {
        low = mod-lt (p.wanted + n) (omega arith);
        timers = f.timers;
        rows = λ i k. ap sound_slot (cleared i k)
            ∙ pick-cases (λ x. sound_slot x ≡ true) (ltb (distance l.window from i) n) empty (slot_at p i) (λ _. refl) (λ _. f.rows i k);
      })

  -- what recording the run gives, where n is the run
  pub run-recorded : (after : Pad) → after ≡ passed l p from n → (last : ℕ) (buffer written : List ℕ) → last ≡ step (2 * l.window) p.wanted (n - 1)
      → written ≡ joined (tab n (λ i. row_at p.cells ((from + i) % l.window))) ++ drop (16 * n) buffer
      → sound_pad l p ≡ true → n ≡ run (pad_state l.window p)
      → (sound_pad l after ≡ true)
      × (record { state = pad_state l.window after; count = n; reply = record { first = p.wanted; last = last }; buffer = written }
      ≡ replying l (pad_state l.window p) buffer)
  unfolding replying pad_state
  run-recorded after is last buffer written e-last e-buffer sound q = (
    rw is (passed-sound (facts l p sound)),
    λ i. record {
      state = (ap (pad_state l.window) is ∙ passed-state ∙ ap (λ k. record { wanted = step (2 * l.window) p.wanted k; slots = drop k (pad_state l.window p).slots ++ replicate k empty }) q) i;
      count = q i;
      reply = record { first = p.wanted; last = (e-last ∙ ap (λ k. step (2 * l.window) p.wanted (k - 1)) q) i };
      buffer = (e-buffer
          ∙ ap (λ k. joined (tab k (λ i. row_at p.cells ((from + i) % l.window))) ++ drop (16 * k) buffer) q
          ∙ ap (◌++ drop (16 * run (pad_state l.window p)) buffer) (run-rows l.window p g.window-low from e)) i;
    },
  )

-- Timers that fall are the window's timers falling.
use Prim.Native.Nat.{ℕ, ◌+◌, ◌-◌, ◌%◌, ◌<◌}
use mathlib.Core.Path.{◌≡◌, refl, sym, ◌∙◌, ap}
use mathlib.Core.Bool.{true}
use mathlib.Core.List.{List}
use native.Mathlib.Omega.{arith}
use native.Mathlib.Nat.{mod-lt}
use lib.ListN.{length, get_or, get_or-eq_default}
use Rattle.limits.specs.declared.Limits.{Limits}
use Rattle.limits.specs.Limits.{sound_limits}
use Rattle.limits.proofs.Laws.Good.{Good, good}
use Rattle.limits.proofs.Laws.Choice.{split}
use Rattle.limits.proofs.Laws.Lists.{tab-ext, map-tab}
use Rattle.rows.specs.Arrays.{from_to, fallen}
use Rattle.pad.specs.declared.Pad.{Pad}
use Rattle.pad.specs.Rules.{slot_falls, ticked}
use Rattle.pad.specs.View.{pad_of, slot_at, pad_state, sound_slot, sound_pad, Shows}
use Rattle.pad.proofs.Laws.Slots.{slot-full, slot-empty, slot_cases, falls-sound}
use Rattle.pad.proofs.Laws.Sound.{Facts, facts, sound-of}
use Rattle.rows.proofs.Laws.Changed.{length-changed, changed-at, inside}

-- of a list of any length: past its end stands 0, which falls no further
fell : (w d : ℕ) (xs : List ℕ) (i : ℕ) → i < w → get_or (fallen w d xs) i 0 ≡ get_or xs i 0 - d
unfolding fallen
fell w d xs i h =
    split (length xs) i
    (λ k. let z = get_or-eq_default xs 0 k in
    get_or-eq_default (fallen w d xs) 0 (let n = length-changed 0 (from_to 0 w) (λ j. get_or xs j 0 - d) xs in omega arith) ∙ omega arith)
    (λ k. changed-at 0 _ _ xs i k (inside 0 w i (omega arith) h))

abbrev aged : Pad → ℕ → ℕ → Pad
aged p w d = record { wanted = p.wanted; held = p.held; timers = fallen w d p.timers; cells = p.cells }

module _ (l : Limits) (p : Pad) (d : ℕ) (g : Good l) where
  aged-slot : (i : ℕ) → i < l.window → slot_at (aged p l.window d) i ≡ slot_falls d (slot_at p i)
  aged-slot i h =
      slot_cases p i
      (λ e q. slot-full (aged p l.window d) i _ _ e (fell l.window d p.timers i h) refl ∙ ap (slot_falls d) (sym q))
      (λ e q. slot-empty (aged p l.window d) i e ∙ ap (slot_falls d) (sym q))

  aged-state : pad_state l.window (aged p l.window d) ≡ ticked d (pad_state l.window p)
  unfolding pad_state ticked
  aged-state =
      ap (λ xs. record { wanted = p.wanted; slots = xs })
      (tab-ext l.window _ _ (λ i h. aged-slot ((p.wanted + i) % l.window) (mod-lt (p.wanted + i) (omega arith)))
      ∙ sym (map-tab (slot_falls d) l.window _))

  aged-sound : Facts l p → sound_pad l (aged p l.window d) ≡ true
  aged-sound f =
      sound-of l (aged p l.window d)
      (record {
        low = f.low;
        timers = λ i h. let e = fell l.window d p.timers i h in let t = f.timers i h in omega arith;
        rows = λ i h. ap sound_slot (aged-slot i h) ∙ falls-sound d (slot_at p i) ∙ f.rows i h;
      })

-- what a tick gives, where `timers` is what the timers became
pub timers-fell : (l : Limits) (d : ℕ) (p : Pad) (timers : List ℕ) → sound_limits l ≡ true
    → timers ≡ fallen l.window d p.timers → sound_pad l p ≡ true
    → Shows l (pad_of p.wanted p.held timers p.cells) (ticked d (pad_state l.window p))
timers-fell l d p timers h is s =
    let g = good l h in let e : pad_of p.wanted p.held timers p.cells ≡ aged p l.window d = rw is in
    (rw e (aged-sound l p d g (facts l p s)), ap (pad_state l.window) e ∙ aged-state l p d g)

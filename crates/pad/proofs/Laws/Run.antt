-- Laws on the run of rows at wanted.
use Prim.Native.Nat.{ℕ, ◌+◌, ◌*◌, ◌%◌, ◌≤◌, ◌<◌}
use mathlib.Core.Path.{◌≡◌, sym, ◌∙◌, ap}
use mathlib.Core.Bool.{Bool, true, false, ◌&&◌}
use mathlib.Core.List.{map}
use native.Mathlib.Omega.{arith}
use native.Mathlib.Nat.{mod-add-mod}
use lib.Dec.{ltb}
use lib.ListN.{get_or, take}
use Rattle.limits.specs.Cells.{row_at}
use Rattle.limits.specs.Lists.{tab, leading, joined}
use Rattle.limits.specs.Ring.{place}
use Rattle.limits.proofs.Laws.Lists.{length-tab, tab-ext, take-tab, map-tab, leading_at, leading-most, leading-agree}
use Rattle.pad.specs.declared.Pad.{Pad}
use Rattle.pad.specs.Window.{ready, contents}
use Rattle.pad.specs.Rules.{run}
use Rattle.pad.specs.View.{slot_at, pad_state, sound_pad, SoundAt}
use Rattle.pad.proofs.Laws.Slots.{slot-ready, ready-contents}
use Rattle.limits.specs.declared.Limits.{Limits}
use Rattle.limits.specs.Limits.{sound_limits}
use Rattle.limits.proofs.Laws.Good.{Good, good}
use Rattle.pad.proofs.Laws.Sound.{Facts, facts}

module _ (w : ℕ) (p : Pad) (h : 1 ≤ w) where
  run-most : run (pad_state w p) ≤ w
  unfolding pad_state
  run-most = let m = leading-most ready (tab w (λ i. slot_at p ((p.wanted + i) % w))) in let l = length-tab w (λ i. slot_at p ((p.wanted + i) % w)) in omega arith

  pub run_is : (from r : ℕ) → from ≡ place w p.wanted
      → r ≡ leading (λ (b : Bool). b) (tab w (λ i. get_or p.held ((from + i) % w) false && ltb 0 (get_or p.timers ((from + i) % w) 0)))
      → r ≡ run (pad_state w p)
  unfolding pad_state
  run_is from r e q =
      q
      ∙ leading-agree (λ b. b) ready w _ (λ i. slot_at p ((p.wanted + i) % w))
      (λ i k. ap (λ at. get_or p.held at false && ltb 0 (get_or p.timers at 0)) (ap (λ a. (a + i) % w) e ∙ mod-add-mod p.wanted w i)
      ∙ sym (slot-ready p ((p.wanted + i) % w)))

  -- the rows of the run
  pub run-rows : (from : ℕ) → from ≡ place w p.wanted
      → joined (tab (run (pad_state w p)) (λ i. row_at p.cells ((from + i) % w))) ≡ joined (map contents (take (run (pad_state w p)) (pad_state w p).slots))
  unfolding pad_state
  run-rows from e =
      ap joined
      (tab-ext (run (pad_state w p)) _ _
      (λ i k. ap (row_at p.cells) (ap (λ a. (a + i) % w) e ∙ mod-add-mod p.wanted w i)
      ∙ sym (ready-contents p ((p.wanted + i) % w) (leading_at ready w (λ i. slot_at p ((p.wanted + i) % w)) i k)))
      ∙ sym (map-tab contents (run (pad_state w p)) (λ i. slot_at p ((p.wanted + i) % w)))
      ∙ ap (map contents) (sym (take-tab (run (pad_state w p)) w (λ i. slot_at p ((p.wanted + i) % w)) run-most)))

-- what a sound pad is known to satisfy, with the run
pub record Known (l : Limits) (p : Pad) : Type 0 where
  pub good : Good l
  pub facts : Facts l p
  pub run-low : run (pad_state l.window p) ≤ l.window

pub known : (l : Limits) (p : Pad) → sound_limits l ≡ true → sound_pad l p ≡ true → Known l p
known l p h k =
    let g = good l h in
    record { good = g; facts = facts l p k; run-low = run-most l.window p g.window-low }

-- What passed question 4 meets what each inner call asks of limits and the pad.
pub asked : (l : Limits) (p : Pad) → SoundAt l p
    → (sound_limits l ≡ true) × (p.wanted < 2 * l.window) × (run (pad_state l.window p) ≤ l.window)
asked l p s = let k = known l p s.0 s.1 in (s.0, k.facts.low, k.run-low)

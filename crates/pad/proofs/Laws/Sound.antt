-- What a sound pad is known to satisfy.
use Prim.Native.Nat.{ℕ, ◌*◌, ◌≤◌, ◌<◌}
use mathlib.Core.Path.{◌≡◌}
use mathlib.Core.Bool.{Bool, true, ◌&&◌}
use lib.Dec.{leb, ltb}
use lib.ListN.{get_or}
use borrow.Author.Tests.{leb-true, le-leb, ltb-true, lt-ltb}
use Rattle.limits.specs.declared.Limits.{Limits}
use Rattle.limits.specs.Lists.{tab, all}
use Rattle.limits.proofs.Laws.Choice.{and_left, and_right, both}
use Rattle.limits.proofs.Laws.Lists.{all-tab, all-tab-at}
use Rattle.pad.specs.declared.Pad.{Pad}
use Rattle.pad.specs.View.{slot_at, sound_slot, sound_pad}

pub record Facts (l : Limits) (p : Pad) : Type 0 where
  pub low : p.wanted < 2 * l.window
  pub timers : (i : ℕ) → i < l.window → get_or p.timers i 0 ≤ l.replywait
  pub rows : (i : ℕ) → i < l.window → sound_slot (slot_at p i) ≡ true

module _ (l : Limits) (p : Pad) where
  abbrev timers-low : Bool
  timers-low = all (λ t. leb t l.replywait) (tab l.window (λ i. get_or p.timers i 0))

  pub facts : sound_pad l p ≡ true → Facts l p
  unfolding sound_pad
  facts e =
      record {
        low = ltb-true _ _ (and_left (ltb p.wanted (2 * l.window)) _ e);
        timers = λ i h. leb-true _ _ (all-tab-at _ l.window _ (and_left timers-low _ rest) i h);
        rows = all-tab-at sound_slot l.window (slot_at p) (and_right timers-low _ rest);
      }
    where
      rest : (timers-low && all sound_slot (tab l.window (slot_at p))) ≡ true
      rest = and_right (ltb p.wanted (2 * l.window)) _ e

  pub sound-of : Facts l p → sound_pad l p ≡ true
  unfolding sound_pad
  sound-of f =
      both _ _ (lt-ltb _ _ f.low)
      (both timers-low _ (all-tab _ l.window _ (λ i h. le-leb _ _ (f.timers i h))) (all-tab sound_slot l.window (slot_at p) f.rows))

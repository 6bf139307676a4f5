-- A fresh pad is sound and holds no row.
use Prim.Native.Nat.{ℕ, ◌+◌, ◌%◌, ◌≤◌, ◌<◌}
use mathlib.Core.Path.{◌≡◌, ap}
use mathlib.Core.Bool.{true, false}
use native.Mathlib.Omega.{arith}
use native.Mathlib.Nat.{mod-lt}
use lib.ListN.{get_or, get_or-replicate}
use Rattle.limits.specs.declared.Limits.{Limits}
use Rattle.limits.specs.Limits.{sound_limits}
use Rattle.limits.specs.Lists.{tab}
use Rattle.limits.proofs.Laws.Good.{good}
use Rattle.limits.proofs.Laws.Lists.{tab-ext}
use Rattle.pad.specs.Window.{empty}
use Rattle.pad.specs.View.{slot_at, pad_state, fresh_pad, sound_slot, sound_pad}
use Rattle.pad.proofs.Laws.Slots.{slot-empty}
use Rattle.pad.proofs.Laws.Sound.{sound-of}

fresh-slot : (at : ℕ) → at < 32 → slot_at fresh_pad at ≡ empty
fresh-slot at h = slot-empty fresh_pad at (get_or-replicate 32 at false false h)

pub fresh-state : (w : ℕ) → 1 ≤ w → w ≤ 32 → pad_state w fresh_pad ≡ record { wanted = 0; slots = tab w (λ i. empty) }
unfolding pad_state
fresh-state w some most =
    ap (λ xs. record { wanted = 0; slots = xs })
    (tab-ext w _ _ (λ i k. fresh-slot ((0 + i) % w) (let b = mod-lt (0 + i) {m = w} (omega arith) in omega arith)))

module _ (l : Limits) (h : sound_limits l ≡ true) where
  pub fresh-sound : sound_pad l fresh_pad ≡ true
  fresh-sound =
      let g = good l h in
      sound-of l fresh_pad
      (record {
        low = omega arith;
        timers = λ i k. let e : get_or fresh_pad.timers i 0 ≡ 0 = get_or-replicate 32 i 0 0 (omega arith) in omega arith;
        rows = λ i k. ap sound_slot (fresh-slot i (omega arith));
      })

-- The replies that a sound pad gives are sound.
use Prim.Native.Nat.{ℕ, ◌+◌, ◌-◌, ◌*◌, ◌≤◌, ◌<◌}
use mathlib.Core.Path.{◌≡◌}
use mathlib.Core.Bool.{true}
use mathlib.Core.List.{List}
use native.Mathlib.Omega.{arith}
use Rattle.limits.specs.declared.Limits.{Limits}
use Rattle.limits.specs.Lists.{tab}
use Rattle.limits.specs.Ring.{step, place}
use Rattle.limits.specs.Limits.{sound_limits}
use Rattle.limits.specs.Tables.{span, sound_reply}
use Rattle.limits.proofs.Laws.Good.{good}
use Rattle.limits.proofs.Laws.Lists.{length-tab, leading-most}
use Rattle.limits.proofs.Laws.Messages.{reply-sound}
use Rattle.limits.proofs.Laws.Ring.{step_fits, distance-on, distance-step}
use Rattle.pad.specs.declared.Pad.{Pad}
use Rattle.pad.specs.Window.{ready}
use Rattle.pad.specs.Rules.{run, replying}
use Rattle.pad.specs.View.{slot_at, pad_state, sound_pad}
use Rattle.pad.proofs.Laws.Sound.{facts}

module _ (l : Limits) (g : sound_limits l ≡ true) where
  -- an old row's own number
  pub single-sound : (number : ℕ) → number < 2 * l.window → sound_reply l (record { first = number; last = number }) ≡ true
  single-sound number h =
      let o = good l g in
      let d = distance-on (2 * l.window) number number (omega arith) h in
      reply-sound l (record { first = number; last = number }) h h (omega arith)

  module _ (p : Pad) (s : sound_pad l p ≡ true) where
    pub run-most : run (pad_state l.window p) ≤ l.window
    unfolding pad_state
    run-most =
        let m = leading-most ready (tab l.window (λ i. slot_at p (place l.window (p.wanted + i)))) in
        let n = length-tab l.window (λ i. slot_at p (place l.window (p.wanted + i))) in
        omega arith

    span-is : (n : ℕ) → 1 ≤ n → n ≤ l.window → span l.window (record { first = p.wanted; last = step (2 * l.window) p.wanted (n - 1) }) ≡ n
    unfolding step
    span-is n low high = let f = facts l p s in let d = distance-step (2 * l.window) p.wanted (n - 1) (omega arith) (omega arith) in omega arith

    pub replying-sound : (buffer : List ℕ) → 0 < run (pad_state l.window p) → sound_reply l (replying l (pad_state l.window p) buffer).reply ≡ true
    unfolding replying pad_state
    replying-sound buffer h =
        let f = facts l p s in let o = good l g in let m = run-most in let d = span-is (run (pad_state l.window p)) h m in
        reply-sound l _ f.low (step_fits (2 * l.window) p.wanted _ (omega arith)) (omega arith)

use Rattle.limits.proofs.Laws.Ring.{gap_below}
use Rattle.limits.proofs.Laws.Good.{good}
use Rattle.limits.proofs.Laws.Choice.{and-goes-on, and-stops}
use Rattle.limits.specs.Tables.{sound_reply}
use borrow.Author.Tests.{lt-ltb, le-ltb}
use lib.Dec.{leb}
use mathlib.Core.Path.{◌∙◌, ap}
use Prim.Native.Nat.{◌+◌}
use native.Mathlib.Omega.{arith}
use Rattle.rows.proofs.messages.reply_sound.Goals as goal

pub overflow_mul-w : goal.overflow_mul-w
overflow_mul-w c = omega (arith, good _ c.requires)

pub overflow_mul-w-then-first-w : goal.overflow_mul-w-then-first-w
overflow_mul-w-then-first-w c = omega (arith, good _ c.requires)

pub overflow_mul-w-then-last-w : goal.overflow_mul-w-then-last-w
overflow_mul-w-then-last-w c = omega (arith, good _ c.requires)

pub gap-requires : goal.gap-requires
gap-requires c = omega (arith, good _ c.requires)

pub overflow_add-result : goal.overflow_add-result
overflow_add-result c = let g = good _ c.requires in let h = gap_below _ _ _ _ c.gap.ensures (omega arith) (omega arith) in omega arith

pub returns-then-last-w : goal.returns-then-last-w
unfolding sound_reply
returns-then-last-w c = ap (λ d. leb (d + 1) c.args.l.window) c.gap.ensures
    ∙ and-goes-on _ _ (lt-ltb _ _ c.if-last-w.true) ∙ and-goes-on _ _ (lt-ltb _ _ c.if-first-w.true)

pub returns-else-last-w : goal.returns-else-last-w
unfolding sound_reply
returns-else-last-w c = and-stops _ _ (le-ltb _ _ c.if-last-w.false) ∙ and-goes-on _ _ (lt-ltb _ _ c.if-first-w.true)

pub returns-else-first-w : goal.returns-else-first-w
unfolding sound_reply
returns-else-first-w c = and-stops _ _ (le-ltb _ _ c.if-first-w.false)

use native.Mathlib.Omega.{arith}
use mathlib.Core.Path.{sym}
use Rattle.limits.proofs.Laws.Ring.{step-below, step-round}
use Rattle.limits.proofs.ring.forward.Goals as goal

pub returns-then-to-n : goal.returns-then-to-n
returns-then-to-n c = sym (step-below _ _ _ c.if-to-n.true)

pub returns-else-to-n : goal.returns-else-to-n
returns-else-to-n c = sym (step-round _ _ _ c.if-to-n.false (omega arith))

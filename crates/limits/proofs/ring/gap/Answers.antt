use mathlib.Core.Path.{sym}
use Rattle.limits.proofs.Laws.Ring.{distance-on, distance-round}
use Rattle.std.proofs.Common.{rules}
use Rattle.limits.proofs.ring.gap.Goals as goal

pub returns-then-from-to : goal.returns-then-from-to
returns-then-from-to c = sym (distance-on _ _ _ c.if-from-to.true (search rules))

pub returns-else-from-to : goal.returns-else-from-to
returns-else-from-to c = sym (distance-round _ _ _ c.if-from-to.false (search rules))

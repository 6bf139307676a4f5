use mathlib.Core.Path.{sym}
use Rattle.limits.proofs.Laws.Ring.{place-low, place-high}
use Rattle.std.proofs.Common.{rules}
use Rattle.limits.proofs.ring.slot.Goals as goal

pub returns-then-number-w : goal.returns-then-number-w
returns-then-number-w c = sym (place-low _ _ c.if-number-w.true)

pub returns-else-number-w : goal.returns-else-number-w
returns-else-number-w c = sym (place-high _ _ c.if-number-w.false (search rules))

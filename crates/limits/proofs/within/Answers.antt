use Rattle.limits.proofs.Laws.Choice.{and-goes-on, and-stops}
use borrow.Author.Tests.{le-leb, lt-leb}
use Rattle.limits.proofs.within.Goals as goal

pub returns-then-low-x : goal.returns-then-low-x
returns-then-low-x c = and-goes-on _ _ (le-leb _ _ c.if-low-x.true)

pub returns-else-low-x : goal.returns-else-low-x
returns-else-low-x c = and-stops _ _ (lt-leb _ _ c.if-low-x.false)

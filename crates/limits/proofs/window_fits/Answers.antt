use Rattle.limits.proofs.Laws.Choice.{and-goes-on, and-stops}
use Rattle.limits.specs.Limits.{window_fits}
use borrow.Author.Tests.{le-leb, lt-leb}
use Rattle.limits.proofs.window_fits.Goals as goal

pub returns-then-w-ge1 : goal.returns-then-w-ge1
unfolding window_fits
returns-then-w-ge1 c = and-goes-on _ _ (le-leb _ _ c.if-w-ge1.true)

pub returns-else-w-ge1 : goal.returns-else-w-ge1
unfolding window_fits
returns-else-w-ge1 c = and-stops _ _ (lt-leb _ _ c.if-w-ge1.false)

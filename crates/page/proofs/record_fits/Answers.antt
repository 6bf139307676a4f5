use borrow.Author.Tests.{eq-eqb, ne_eqb}
use Rattle.limits.proofs.Laws.Choice.{and-goes-on, and-stops}
use Rattle.page.specs.Page.{record_fits}
use Rattle.page.proofs.record_fits.Goals as goal

pub returns-then-record-eq0 : goal.returns-then-record-eq0
unfolding record_fits
returns-then-record-eq0 c = and-goes-on _ _ (eq-eqb _ _ c.if-record-eq0.true)

pub returns-else-record-eq0 : goal.returns-else-record-eq0
unfolding record_fits
returns-else-record-eq0 c = and-stops _ _ (ne_eqb _ _ c.if-record-eq0.false)

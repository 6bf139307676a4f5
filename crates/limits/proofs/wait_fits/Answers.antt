use borrow.Author.Tests.{eq-eqb, ne_eqb}
use mathlib.Core.Path.{◌∙◌, ap}
use Rattle.limits.proofs.Laws.Choice.{or-goes-on, or-stops}
use Rattle.limits.specs.Limits.{wait_fits, between}
use Rattle.limits.proofs.wait_fits.Goals as goal

pub returns-then-l-eq0 : goal.returns-then-l-eq0
unfolding wait_fits
returns-then-l-eq0 c = or-stops _ _ (eq-eqb _ _ c.if-l-eq0.true)

pub returns-else-l-eq0 : goal.returns-else-l-eq0
unfolding wait_fits
returns-else-l-eq0 c = c.within.ensures ∙ ap (λ x. between x 1000 c.args.l.resendwait) c.least_wait.ensures ∙ or-goes-on _ _ (ne_eqb _ _ c.if-l-eq0.false)

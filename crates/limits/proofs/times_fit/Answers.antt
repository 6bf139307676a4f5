use mathlib.Core.Path.{◌∙◌, sym}
use Rattle.limits.proofs.Laws.Choice.{and-goes-on, and-stops}
use Rattle.limits.specs.Limits.{times_fit}
use Rattle.limits.proofs.times_fit.Goals as goal

pub returns-then-within-2 : goal.returns-then-within-2
unfolding times_fit
returns-then-within-2 c = c.within-then-within-2.ensures
    ∙ and-goes-on _ _ (sym c.within-then-within.ensures ∙ c.if-within-2.true)
    ∙ and-goes-on _ _ (sym c.within.ensures ∙ c.if-within.true)

pub returns-else-within-2 : goal.returns-else-within-2
unfolding times_fit
returns-else-within-2 c = c.within-then-within.ensures
    ∙ and-stops _ _ (sym c.within-then-within.ensures ∙ c.if-within-2.false)
    ∙ and-goes-on _ _ (sym c.within.ensures ∙ c.if-within.true)

pub returns-else-within : goal.returns-else-within
unfolding times_fit
returns-else-within c = c.within.ensures ∙ and-stops _ _ (sym c.within.ensures ∙ c.if-within.false)

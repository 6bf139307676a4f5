use mathlib.Core.Path.{◌∙◌, sym}
use Rattle.limits.specs.Questions.{pick}
use Rattle.limits.proofs.asked.Goals as goal

pub returns-then-not-window_fits : goal.returns-then-not-window_fits
unfolding pick
returns-then-not-window_fits c = rw (sym c.window_fits.ensures ∙ c.if-not-window_fits.true)

pub returns-then-not-times_fit : goal.returns-then-not-times_fit
unfolding pick
returns-then-not-times_fit c = rw (sym c.window_fits.ensures ∙ c.if-not-window_fits.false, sym c.times_fit.ensures ∙ c.if-not-times_fit.true)

pub returns-then-not-wait_fits : goal.returns-then-not-wait_fits
unfolding pick
returns-then-not-wait_fits c = rw (sym c.window_fits.ensures ∙ c.if-not-window_fits.false, sym c.times_fit.ensures ∙ c.if-not-times_fit.false, sym c.wait_fits.ensures ∙ c.if-not-wait_fits.true)

pub returns : goal.returns
unfolding pick
returns c = rw (sym c.window_fits.ensures ∙ c.if-not-window_fits.false, sym c.times_fit.ensures ∙ c.if-not-times_fit.false, sym c.wait_fits.ensures ∙ c.if-not-wait_fits.false)

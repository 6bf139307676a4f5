use Rattle.runs.proofs.Laws.Calls.{fits_all, fits-short, fits-partial, fits-odd}
use Rattle.runs.proofs.lent_fits.Goals as goal

pub returns-then-events-ne0 : goal.returns-then-events-ne0
returns-then-events-ne0 c = fits-odd c.args.events c.args.supply c.args.answers c.if-events-ne0.true

pub returns-then-supply-ne0 : goal.returns-then-supply-ne0
returns-then-supply-ne0 c = fits-partial _ _ _ c.if-events-ne0.false c.if-supply-ne0.true

pub returns-then-answers-events : goal.returns-then-answers-events
returns-then-answers-events c = fits-short _ _ _ c.if-events-ne0.false c.if-supply-ne0.false c.if-answers-events.true

pub returns : goal.returns
returns c = fits_all _ _ _ c.if-events-ne0.false c.if-supply-ne0.false c.if-answers-events.false

use mathlib.Core.Path.{sym}
use lib.ListN.{length}
use Rattle.events.specs.Lent.{lent_link}
use Rattle.runs.proofs.Laws.Calls.{run-unsound, run-asked, run-done, run-needs}
use Rattle.runs.proofs.run.Goals as goal

pub returns-then-not-is_sound-clause-ran : goal.returns-then-not-is_sound-clause-ran
returns-then-not-is_sound-clause-ran c = run-unsound (lent_link c.args.link.now) _ _ _ _ (sym c.if-not-is_sound.ensures)

pub returns-in_err-lent_fits-clause-ran : goal.returns-in_err-lent_fits-clause-ran
returns-in_err-lent_fits-clause-ran c = run-asked (lent_link c.args.link.now) _ _ _ _ (sym c.if-not-is_sound.ensures) c.from_residual.result _ c.from_residual.ensures.1 c.in_err-lent_fits.ensures

pub run_events-requires : goal.run_events-requires
run_events-requires c = let q = run-needs (length c.args.events.now) (length c.args.supply.now) (length c.args.answers.now) c.in_ok-lent_fits.ensures in (sym c.if-not-is_sound.ensures, q.0, q.1)

pub returns-clause-ran : goal.returns-clause-ran
returns-clause-ran c = let u = c.run_events in
    run-done (lent_link c.args.link.now) _ _ _ _ (sym c.if-not-is_sound.ensures) _ _ _ _ c.in_ok-lent_fits.ensures u.ensures.sound u.ensures.ran u.ensures.still

use native.Mathlib.Omega.{arith}
use mathlib.Core.Path.{sym}
use Rattle.events.specs.Lent.{lent_link}
use Rattle.events.proofs.Laws.Ends.{zeros}
use Rattle.runs.proofs.Laws.Calls.{step-unsound, step_partial, step-done, step-refused}
use Rattle.runs.proofs.step.Goals as goal

pub returns-then-not-is_sound-clause-stepped : goal.returns-then-not-is_sound-clause-stepped
returns-then-not-is_sound-clause-stepped c = step-unsound (lent_link c.args.link.now) _ _ _ _ (sym c.if-not-is_sound.ensures)

pub returns-then-supply-ne0-clause-stepped : goal.returns-then-supply-ne0-clause-stepped
returns-then-supply-ne0-clause-stepped c = step_partial (lent_link c.args.link.now) c.args.kind c.args.argument _ _ (sym c.if-not-is_sound.ensures) c.if-supply-ne0.true

pub event-requires : goal.event-requires
event-requires c = let z = c.default-counts.ensures in (
  sym c.if-not-is_sound.ensures,
  (omega arith, omega arith, omega arith, (omega arith, omega arith, omega arith, omega arith), (omega arith, omega arith, omega arith, omega arith)),
)

pub returns-in_err-event-clause-stepped : goal.returns-in_err-event-clause-stepped
returns-in_err-event-clause-stepped c =
    step-refused (lent_link c.args.link.now) c.args.kind c.args.argument _ _ (sym c.if-not-is_sound.ensures) c.if-supply-ne0.false _ _ _ _ (zeros _ c.default-counts.ensures)
    _ _ c.from_residual.ensures.1 c.in_err-event.ensures.counted

pub returns-clause-stepped : goal.returns-clause-stepped
returns-clause-stepped c =
    step-done (lent_link c.args.link.now) c.args.kind c.args.argument _ _ (sym c.if-not-is_sound.ensures) c.if-supply-ne0.false _ _ _ _ (zeros _ c.default-counts.ensures)
    c.in_ok-event.ensures.counted

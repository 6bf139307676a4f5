use Rattle.limits.proofs.Laws.Good.{good}
use Rattle.pad.proofs.Laws.Run.{run_is}
use Rattle.pad.proofs.Laws.Refused.{run-passes, run_none}
use Rattle.pad.specs.View.{pad_of, pad_state}
use native.Mathlib.Omega.{arith}
use Rattle.pad.proofs.lentpad.run_length.Goals as goal

pub returns-then-count-eq0 : goal.returns-then-count-eq0
returns-then-count-eq0 c = let b = c in λ cells.
    let p = pad_of b.args.wanted b.args.held.now b.args.timers.now cells in
    let e = run_is _ p (good _ b.requires.0).window-low _ _ c.slot.ensures c.ready_run-count.ensures in
    record { number = run_none (pad_state b.args.l.window p) (omega (arith, e, c.if-count-eq0.true)); value = tt }

pub returns : goal.returns
returns c = let b = c in λ cells.
    let p = pad_of b.args.wanted b.args.held.now b.args.timers.now cells in
    let e = run_is _ p (good _ b.requires.0).window-low _ _ c.slot.ensures c.ready_run-count.ensures in
    record { number = run-passes (pad_state b.args.l.window p) (omega (arith, e, c.if-count-eq0.false)); value = e }

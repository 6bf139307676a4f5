use native.Mathlib.Omega.{arith}
use mathlib.Core.Path.{ap}
use mathlib.Core.Logic.{inl, inr}
use lib.ListN.{length, length-append}
use Rattle.std.proofs.Common.{rules}
use Rattle.lines.proofs.Laws.Lines.{line-room, lines-turn, lines-done}
use Rattle.lines.proofs.text.event_lines.Goals as goal

pub loop-event-preserved : goal.loop-event-preserved
loop-event-preserved c =
    let step = c.in-Some.ensures.steps in
    let events = simp length-append at (ap length step.0.1.0) in
    let answers = ap length step.1 in
    let room = line-room _ _ _ _ _ _ _ c.event_line-next.ensures in
    let left = c.loop-event.invariant.5 in
    (omega arith, search rules, omega arith, omega arith, omega arith, lines-turn _ _ _ _ _ _ _ left c.in-Some.event.now _ _ _ _ _ step.0.1.0 (omega arith) step.1 c.event_line-next.ensures)

pub returns : goal.returns
returns c =
    lines-done _ _ _ _ _ _ _ c.loop-event.invariant.5
    (elim c.in-None.ensures.steps [ inl s ↦ (let h = s.1 in omega arith) | inr s ↦ (let h = s.1 in omega arith) ])

use Rattle.lines.proofs.Laws.Input.{readable-rest, readable-stops}
use Rattle.lines.proofs.input.readable.Goals as goal

pub returns-then-event_start-input : goal.returns-then-event_start-input
returns-then-event_start-input c = readable-rest _ _ c.event_start.ensures c.if-event_start-input.true

pub returns-else-event_start-input : goal.returns-else-event_start-input
returns-else-event_start-input c = readable-stops _ _ c.event_start.ensures c.if-event_start-input.false

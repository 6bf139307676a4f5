use native.Mathlib.Omega.{arith}
use Rattle.lines.proofs.Laws.Text.{event-wrote, field_room}
use Rattle.lines.proofs.text.event_line.Goals as goal

pub field-third-requires : goal.field-third-requires
field-third-requires c = let m = field_room _ _ _ _ _ _ c.field-second.ensures in omega arith

pub field-requires : goal.field-requires
field-requires c = let m = field_room _ _ _ _ _ _ c.field-second.ensures in let n = field_room _ _ _ _ _ _ c.field-third.ensures in omega arith

pub returns : goal.returns
returns c = event-wrote _ _ _ _ _ _ _ _ _ _ _ c.field-second.ensures c.field-third.ensures c.field.ensures

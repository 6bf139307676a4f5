use native.Mathlib.Omega.{arith}
use Rattle.buffers.proofs.Laws.Buffers.{both-wrote}
use Rattle.report.proofs.Laws.Text.{lines-room}
use Rattle.report.proofs.lines_of.Goals as goal

pub counts_line-requires : goal.counts_line-requires
counts_line-requires c = let m = lines-room _ _ _ _ _ c.event_lines-next.ensures in omega arith

pub returns : goal.returns
returns c = both-wrote _ _ _ _ _ _ _ _ c.event_lines-next.ensures c.counts_line.ensures

use native.Mathlib.Omega.{arith}
use Rattle.page.proofs.Laws.Line.{line_wrote}
use Rattle.page.proofs.line.line.Goals as goal

pub returns : goal.returns
returns c = line_wrote _ _ _ _ _ _ (omega arith) c.number.ensures c.print_row.ensures (omega arith)

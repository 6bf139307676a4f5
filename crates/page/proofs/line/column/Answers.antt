use native.Mathlib.Omega.{arith}
use Rattle.page.proofs.Laws.Line.{column-space, column-digit}
use Rattle.page.proofs.line.column.Goals as goal

pub returns-then-n-unit : goal.returns-then-n-unit
returns-then-n-unit c = column-space _ _ c.if-n-unit.true

pub returns-else-n-unit : goal.returns-else-n-unit
returns-else-n-unit c = column-digit _ _ (omega arith)

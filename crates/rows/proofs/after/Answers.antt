use Rattle.rows.proofs.Laws.Places.{behind, behind-last}
use native.Mathlib.Omega.{arith}
use Rattle.rows.proofs.after.Goals as goal

pub returns-then-at-w : goal.returns-then-at-w
returns-then-at-w c = behind _ _ c.if-at-w.true

pub returns-else-at-w : goal.returns-else-at-w
returns-else-at-w c = behind-last _ _ (omega arith)

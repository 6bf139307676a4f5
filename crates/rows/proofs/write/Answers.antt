use Rattle.rows.proofs.Laws.Cells.{pasted-row}
use Rattle.std.proofs.Common.{rules}
use Rattle.rows.proofs.write.Goals as goal

pub returns : goal.returns
returns c = pasted-row _ _ _ _ (search rules) c.copy.ensures

use Rattle.limits.specs.Cells.{legal_row}
use lib.ListN.{length}
use lib.Seq.{take_all}
use mathlib.Core.Path.{◌≡◌, ◌∙◌, ap}
use native.Mathlib.Omega.{arith}
use Rattle.std.proofs.Common.{rules}
use Rattle.rows.proofs.legal_row.Goals as goal

pub returns : goal.returns
returns c = let l : length c.args.row ≡ 16 = search rules in c.legal_cells.ensures ∙ ap legal_row (take_all 16 _ (omega arith))

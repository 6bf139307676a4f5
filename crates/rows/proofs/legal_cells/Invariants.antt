use mathlib.Core.Path.{◌≡◌}
use lib.Dec.{leb}
use lib.ListN.{get_or}
use Rattle.limits.specs.Cells.{legal_cell}
use Rattle.limits.specs.declared.cells.TheConstants.{LEGAL}
use Rattle.limits.specs.Lists.{tab, all}
use Rattle.rows.proofs.legal_cells.Given as goal

abbrev pub invariant-loop-cell : goal.invariant-loop-cell
invariant-loop-cell l = leb l.most LEGAL ≡ all legal_cell (tab l.cell-index (λ k. get_or l.cell-items k 0))

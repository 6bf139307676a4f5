use Prim.Native.Nat.{◌-◌, ◌/◌}
use mathlib.Core.Path.{◌≡◌}
use mathlib.Core.Bool.{◌&&◌}
use lib.Dec.{leb}
use lib.ListN.{length}
use Rattle.limits.specs.Cells.{legal_cell}
use Rattle.limits.specs.Lists.{all}
use Rattle.limits.specs.declared.cells.TheConstants.{LEGAL}
use Rattle.buffers.specs.Bytes.{cells_at}
use Rattle.horsefile.proofs.contents.legal_bodies.Given as goal

abbrev pub invariant-loop-cell : goal.invariant-loop-cell
invariant-loop-cell l =
    (all legal_cell (cells_at l.file l.at ((length l.file - l.at) / 2))
    ≡ (leb l.most LEGAL && all legal_cell (cells_at l.cell-iterator.rest.now 0 (length l.cell-iterator.rest.now / 2))))
    × (l.cell-iterator.size ≡ 2)

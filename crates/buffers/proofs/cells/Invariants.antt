use Rattle.std.proofs.Common.{◌≡◌, ◌*◌}
use lib.Seq.{paste}
use Rattle.buffers.specs.Bytes.{cell_bytes}
use Rattle.buffers.proofs.cells.Given as goal

abbrev pub invariant-loop-i : goal.invariant-loop-i
invariant-loop-i l = l.buffer ≡ paste l.initial.buffer l.at (cell_bytes l.cells) (2 * l.i)

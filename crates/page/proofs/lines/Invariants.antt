use Rattle.std.proofs.Common.{◌≡◌}
use Rattle.buffers.specs.Buffers.{wrote}
use Rattle.page.specs.Page.{lines_from}
use Rattle.page.proofs.lines.Given as goal

abbrev pub invariant-loop-i : goal.invariant-loop-i
invariant-loop-i l = l.out ≡ wrote 0 (lines_from l.«record» l.first l.i) l.initial.out

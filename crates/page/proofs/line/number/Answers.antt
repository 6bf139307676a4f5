use native.Mathlib.Omega.{arith}
use mathlib.Core.Path.{◌∙◌}
use Rattle.page.proofs.Laws.Line.{part_wrote}
use Rattle.page.proofs.line.number.Goals as goal

pub returns : goal.returns
returns c =
    part_wrote c.args.at _ _ _ _
    (c.copy_from_slice.ensures.after ∙ rw (c.column.ensures, c.column-2.ensures, c.column-3.ensures, c.column-4.ensures))
    (omega arith)

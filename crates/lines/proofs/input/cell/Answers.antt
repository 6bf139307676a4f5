use Rattle.std.proofs.Common.{rules}
use Rattle.lines.specs.Input.{cell_at}
use Rattle.lines.proofs.input.cell.Goals as goal

pub returns : goal.returns
unfolding cell_at
returns c = search rules

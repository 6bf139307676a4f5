use native.Mathlib.Omega.{arith}
use mathlib.Core.Path.{refl}
use Rattle.limits.proofs.Laws.Cells.{level-is}
use Rattle.limits.proofs.cells.level.Goals as goal

pub returns : goal.returns
returns c = level-is _ _ (omega arith) refl

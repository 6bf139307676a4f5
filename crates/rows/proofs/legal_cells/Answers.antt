use mathlib.Core.Path.{refl, ◌∙◌, ap}
use native.Mathlib.Omega.{arith}
use lib.Dec.{leb}
use Rattle.limits.specs.Cells.{legal_cell}
use Rattle.limits.specs.declared.cells.TheConstants.{LEGAL}
use Rattle.limits.specs.Lists.{all}
use Rattle.limits.proofs.Laws.Cells.{level-turn}
use Rattle.limits.proofs.Laws.Lists.{flag-start, flag-end, tab-self}
use Rattle.rows.proofs.legal_cells.Goals as goal

pub loop-cell-init : goal.loop-cell-init
loop-cell-init c = flag-start _ _

pub loop-cell-preserved : goal.loop-cell-preserved
loop-cell-preserved c = ap (λ k. leb k LEGAL) c.max-most.ensures ∙ level-turn _ _ _ _ _ c.loop-cell.invariant c.level.ensures

pub returns : goal.returns
returns c = flag-end _ _ _ _ _ c.loop-cell.invariant (omega arith) ∙ ap (all legal_cell) (tab-self _ _ 0 refl)

use native.Mathlib.Omega.{arith}
use mathlib.Core.Path.{refl}
use Rattle.limits.specs.Lists.{tab, joined}
use Rattle.buffers.proofs.Laws.Buffers.{none-wrote}
use Rattle.rows.proofs.Laws.Cells.{row-lent}
use Rattle.page.proofs.Laws.Page.{row-ready, lines-turn}
use Rattle.page.proofs.lines.Goals as goal

pub loop-i-init : goal.loop-i-init
unfolding tab joined
loop-i-init c = (none-wrote _ _).buffer

pub line-requires : goal.line-requires
line-requires c =
    let r = row-ready c.args.«record».now c.args.first c.args.n c.loop-i.i (omega arith) c.requires.2 (omega arith) in (r.0, omega arith, r.1)

pub loop-i-preserved : goal.loop-i-preserved
loop-i-preserved c = lines-turn _ _ _ _ _ _ c.loop-i.i _ c.loop-i.invariant refl (omega arith) (row-lent c.args.«record».now _) c.line.ensures

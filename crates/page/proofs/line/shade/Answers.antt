use native.Mathlib.Omega.{arith}
use mathlib.Core.Path.{refl}
use Rattle.limits.specs.Lists.{tab, how_many}
use Rattle.page.proofs.Shades.{count-turn, count-most, count-done}
use Rattle.page.proofs.line.shade.Goals as goal

pub loop-first-init : goal.loop-first-init
unfolding tab how_many
loop-first-init c = refl

pub overflow_add-shade : goal.overflow_add-shade
overflow_add-shade c =
    let f = count-most c.args.cell _ _ _ _ c.loop-first.invariant c.from-shade.ensures (omega arith) in omega arith

pub loop-first-preserved : goal.loop-first-preserved
loop-first-preserved c = count-turn c.args.cell _ _ _ c.loop-first.invariant c.from-shade.ensures

pub returns : goal.returns
returns c = count-done c.args.cell _ _ c.loop-first.invariant (omega arith) (omega arith)

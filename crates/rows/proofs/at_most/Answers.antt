use lib.Dec.{leb}
use lib.ListN.{length-take}
use lib.Seq.{get_or-take}
use mathlib.Core.Bool.{◌&&◌}
use mathlib.Core.Path.{ap}
use native.Mathlib.Omega.{arith}
use Rattle.limits.proofs.Laws.Lists.{flag-start, flag-turn, flag-end}
use Rattle.rows.proofs.at_most.Goals as goal

pub loop-x-init : goal.loop-x-init
loop-x-init c = flag-start _ _

pub loop-x-preserved : goal.loop-x-preserved
loop-x-preserved c =
    let a = c.args in
    let n = length-take a.n a.xs.now in
    flag-turn _ _ _ _ _ c.loop-x.invariant (ap (λ x. c.loop-x.good && leb x a.most) (get_or-take a.n a.xs.now c.loop-x.x-index 0 (omega arith)))

pub returns : goal.returns
returns c = let n = length-take c.args.n c.args.xs.now in flag-end _ _ _ _ _ c.loop-x.invariant (omega arith)

use Prim.Native.Nat.{◌-◌}
use lib.ListN.{drop, length-take, length-drop}
use lib.Seq.{get_or-take, get_or-drop}
use mathlib.Core.Bool.{false, not, ◌&&◌}
use mathlib.Core.Path.{◌∙◌, ap}
use native.Mathlib.Omega.{arith}
use Rattle.limits.proofs.Laws.Lists.{flag-start, flag-turn, flag-end}
use Rattle.rows.proofs.none_set.Goals as goal

pub loop-mark-init : goal.loop-mark-init
loop-mark-init c = flag-start _ _

pub loop-mark-preserved : goal.loop-mark-preserved
loop-mark-preserved c =
    let a = c.args in
    let n = length-take (a.to - a.from) (drop a.from a.marks.now) in
    flag-turn _ _ _ _ _ c.loop-mark.invariant
    (ap (λ b. c.loop-mark.good && not b)
    (get_or-take (a.to - a.from) (drop a.from a.marks.now) c.loop-mark.mark-index false (omega arith) ∙ get_or-drop a.from a.marks.now c.loop-mark.mark-index false))

pub returns : goal.returns
returns c =
    let a = c.args in
    let n = length-take (a.to - a.from) (drop a.from a.marks.now) in
    let m = length-drop a.from a.marks.now in
    flag-end _ _ _ _ _ c.loop-mark.invariant (omega arith)

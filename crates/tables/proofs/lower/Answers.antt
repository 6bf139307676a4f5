use mathlib.Core.Path.{◌≡◌, refl}
use native.Mathlib.Omega.{arith}
use Rattle.tables.proofs.Laws.Words.{ends_by, lowering-turn, lowering-end}
use Rattle.tables.proofs.lower.Goals as goal

pub returns-then-life-d : goal.returns-then-life-d
returns-then-life-d c = let l = c.loop-i in lowering-end _ _ _ _ _ _ l.i (omega arith) (omega arith) l.invariant (λ _. c.if-life-d.true)

pub loop-i-preserved : goal.loop-i-preserved
loop-i-preserved c =
    let a = c.args in
    let l = c.loop-i in
    let e = ends_by a.width l.i a.count (omega arith) in
    lowering-turn _ _ _ _ _ _ _ c.requires.0 (omega arith) (omega arith) l.invariant c.if-life-d.false refl

pub returns : goal.returns
returns c = lowering-end _ _ _ _ _ _ c.args.count (omega arith) (omega arith) (let e : c.loop-i.i ≡ c.args.count = omega arith in rw e at c.loop-i.invariant) (λ h. absurd (omega arith))

use mathlib.Core.Path.{◌≡◌}
use native.Mathlib.Omega.{arith}
use Rattle.rows.proofs.Laws.Places.{first-place, next_place, next-below, span-start, span-turn-at}
use Rattle.rows.proofs.set_span.Goals as goal

pub loop-init : goal.loop-init
loop-init c = (first-place _ _ c.requires.1, c.requires.1, span-start _ _ _ _)

pub loop-preserved : goal.loop-preserved
loop-preserved c =
    let l = c.loop in (
      next_place _ _ _ _ _ l.invariant.0 c.after-at.ensures,
      next-below _ _ _ l.invariant.1 c.after-at.ensures,
      span-turn-at _ _ _ _ _ _ _ c.requires.1 (omega arith) l.invariant.0 l.invariant.2,
    )

pub returns : goal.returns
returns c = let e : c.loop.counter ≡ c.args.count = omega arith in rw e at c.loop.invariant.2

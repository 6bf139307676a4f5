use native.Mathlib.Omega.{arith}
use Rattle.rows.specs.Arrays.{fallen}
use Rattle.rows.proofs.Laws.Changed.{put-front}
use Rattle.rows.proofs.fall.Goals as goal

pub returns : goal.returns
unfolding fallen
returns c = put-front 0 _ _ c.args.n c.loop-x.x-items (omega arith) c.loop-x.invariant.0 (λ i h. c.loop-x.invariant.1 i (omega arith))

use Rattle.std.proofs.Common.{length}
use Rattle.framecheck.proofs.all.Given as goal

abbrev pub decreases-loop-size : goal.decreases-loop-size
decreases-loop-size g l = length l.rest

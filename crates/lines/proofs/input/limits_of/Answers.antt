use Rattle.std.proofs.Common.{rules}
use Rattle.lines.specs.Input.{limits_of}
use Rattle.lines.proofs.input.limits_of.Goals as goal

pub returns : goal.returns
unfolding limits_of
returns c = search rules

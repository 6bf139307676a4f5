use Rattle.std.proofs.Common.{rules}
use Rattle.limits.specs.Questions.{pick}
use Rattle.clinks.specs.Asked.{capped}
use Rattle.clinks.proofs.capped.Goals as goal

pub returns : goal.returns
unfolding capped pick
returns c = search rules

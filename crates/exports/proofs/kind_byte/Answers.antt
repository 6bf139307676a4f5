use Rattle.std.proofs.Common.{rules}
use Rattle.limits.specs.Questions.{pick}
use Rattle.exports.specs.Calls.{kind_of}
use Rattle.exports.proofs.kind_byte.Goals as goal

pub returns-then-argument-le255 : goal.returns-then-argument-le255
unfolding kind_of pick
returns-then-argument-le255 c = search rules

pub returns-else-argument-le255 : goal.returns-else-argument-le255
unfolding kind_of pick
returns-else-argument-le255 c = search rules

use mathlib.Core.Path.{ap}
use Rattle.limits.specs.Tables.{Message, Reply}
use Rattle.air.specs.Laws.{reply-read}
use Rattle.air.proofs.messages.ReplyCarried.read.Goals as goal

pub returns : goal.returns
returns c = ap (λ (m : Message Reply). m.body) (reply-read c.args.words.now c.args.at _ _ c.from-first.ensures c.from-last.ensures)

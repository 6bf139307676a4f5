use mathlib.Core.Path.{ap}
use Rattle.limits.specs.Tables.{Message, Data}
use Rattle.air.specs.Laws.{data-read}
use Rattle.air.proofs.messages.DataCarried.read.Goals as goal

pub returns : goal.returns
returns c = ap (λ (m : Message Data). m.body) (data-read c.args.words.now c.args.at _ _ c.requires c.from-number.ensures c.read-row.ensures)

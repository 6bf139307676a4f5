use Rattle.air.specs.Forms.{data_form}
use Rattle.air.specs.Laws.{data-written}
use Rattle.air.proofs.Laws.Forms.{put-read}
use Rattle.std.proofs.Common.{rules}
use Rattle.air.proofs.messages.DataCarried.write.Goals as goal

pub returns : goal.returns
returns c = put-read data_form c.args.count c.args.words.now _ c.copy.new.xs _ (data-written _ _ _ _ (search rules) c.copy.ensures) c.put.ensures

use mathlib.Core.List.{◌∷◌, []}
use Rattle.air.specs.Forms.{reply_form}
use Rattle.air.specs.Laws.{reply-written}
use Rattle.air.proofs.Laws.Forms.{put-read}
use Rattle.air.proofs.messages.ReplyCarried.write.Goals as goal

pub returns : goal.returns
returns c = put-read reply_form c.args.count c.args.words.now _ (c.args.life ∷ c.args.self.first ∷ c.args.self.last ∷ []) _ (reply-written _ _ _) c.put.ensures

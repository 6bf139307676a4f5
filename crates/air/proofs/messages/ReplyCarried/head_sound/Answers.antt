use mathlib.Core.Path.{sym, ◌∙◌}
use Rattle.limits.proofs.Laws.Choice.{and-goes-on, and-stops}
use Rattle.air.specs.Laws.{reply-asked}
use Rattle.air.proofs.messages.ReplyCarried.head_sound.Goals as goal

pub returns-then-within : goal.returns-then-within
returns-then-within c = c.reply_sound.ensures ∙ and-goes-on _ _ (sym c.within.ensures ∙ c.if-within.true) ∙ reply-asked c.args.words.now c.args.at _ _ _ c.from-first.ensures c.from-last.ensures

pub returns-else-within : goal.returns-else-within
returns-else-within c = c.within.ensures ∙ and-stops _ _ (sym c.within.ensures ∙ c.if-within.false) ∙ reply-asked c.args.words.now c.args.at _ _ _ c.from-first.ensures c.from-last.ensures

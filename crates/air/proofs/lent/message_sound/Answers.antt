use mathlib.Core.Path.{sym, ◌∙◌}
use Rattle.limits.specs.Limits.{between}
use Rattle.limits.proofs.Laws.Choice.{and-goes-on, and-no-left}
use Rattle.air.specs.Rules.{sound_message}
use Rattle.air.proofs.lent.message_sound.Goals as goal

pub returns-then-within : goal.returns-then-within
unfolding sound_message
returns-then-within g c =
    c.is_sound.ensures ∙ and-goes-on (between 1 (g.M.Carried.form.longest c.args.l) c.args.message.life) _ (rw c.longest.ensures at (sym c.within.ensures ∙ c.if-within.true))

pub returns-else-within : goal.returns-else-within
unfolding sound_message
returns-else-within g c =
    c.if-within.false ∙ sym (and-no-left (between 1 (g.M.Carried.form.longest c.args.l) c.args.message.life) _ (rw c.longest.ensures at (sym c.within.ensures ∙ c.if-within.false)))

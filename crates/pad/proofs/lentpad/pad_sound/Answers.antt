use Rattle.pad.specs.View.{pad_of, sound_pad}
use Rattle.pad.proofs.Laws.Slots.{held_sound}
use Rattle.limits.proofs.Laws.Choice.{and-goes-on, and-stops}
use borrow.Author.Tests.{lt-ltb, le-ltb}
use mathlib.Core.Path.{sym, ◌∙◌}
use Rattle.pad.proofs.lentpad.pad_sound.Goals as goal

pub returns-then-at_most : goal.returns-then-at_most
unfolding sound_pad
returns-then-at_most c =
    held_sound (pad_of c.args.wanted c.args.held.now c.args.timers.now c.args.cells.now) c.args.l.window _ c.cells_sound.ensures
    ∙ and-goes-on _ _ (sym c.at_most.ensures ∙ c.if-at_most.true)
    ∙ and-goes-on _ _ (lt-ltb _ _ c.if-wanted-w.true)

pub returns-else-at_most : goal.returns-else-at_most
unfolding sound_pad
returns-else-at_most c =
    c.at_most.ensures
    ∙ and-stops _ _ (sym c.at_most.ensures ∙ c.if-at_most.false)
    ∙ and-goes-on _ _ (lt-ltb _ _ c.if-wanted-w.true)

pub returns-else-wanted-w : goal.returns-else-wanted-w
unfolding sound_pad
returns-else-wanted-w c = and-stops _ _ (le-ltb _ _ c.if-wanted-w.false)

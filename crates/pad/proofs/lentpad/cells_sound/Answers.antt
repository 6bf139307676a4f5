use Rattle.pad.proofs.Laws.Slots.{unheld-legal}
use Rattle.rows.proofs.Laws.Places.{none-at}
use Rattle.pad.proofs.lentpad.cells_sound.Goals as goal

pub returns-then-none_set : goal.returns-then-none_set
returns-then-none_set c = (λ _. unheld-legal c.args.w _ c.args.cells.now c.requires (none-at c.args.held.now 32 _ c.none_set.ensures c.if-none_set.true), λ _. c.if-none_set.true)

pub returns-else-none_set : goal.returns-else-none_set
returns-else-none_set c = c.held_sound.ensures

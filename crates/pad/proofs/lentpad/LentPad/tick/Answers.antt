use Rattle.pad.proofs.Laws.Ticking.{timers-fell}
use Rattle.pad.specs.View.{lent_pad}
use Rattle.pad.proofs.lentpad.LentPad.tick.Goals as goal

pub returns-clause-moves : goal.returns-clause-moves
returns-clause-moves c = λ s. timers-fell c.args.l _ (lent_pad c.args.self.now) _ c.requires c.fall.ensures s

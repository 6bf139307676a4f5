use native.Mathlib.Omega.{arith}
use mathlib.Core.Path.{sym}
use borrow.Author.Tests.{ltb-true}
use Rattle.pad.proofs.Laws.Messages.{single-sound}
use Rattle.air.specs.Laws.{reply_laws}
use Rattle.air.specs.Forms.{data_form}
use Rattle.air.proofs.Laws.Forms.{count-few}
use Rattle.events.specs.Lent.{lent_link}
use Rattle.events.proofs.Laws.Parts.{parts}
use Rattle.events.proofs.Laws.Tables.{reply-room, old-taken, old-refused}
use Rattle.events.proofs.LentLink.take_old.Goals as goal

pub returns-then-not-has_room-clause-moves : goal.returns-then-not-has_room-clause-moves
returns-then-not-has_room-clause-moves c = λ _ b. let k = lent_link c.args.self.now in old-refused k c.args.p _ b (reply-room k.replies _ (sym c.if-not-has_room.ensures))

pub put-requires : goal.put-requires
put-requires c = let k = lent_link c.args.self.now in
    (omega arith, (c.requires.0, ltb-true k.replies.count 32 (sym c.if-not-has_room.ensures), reply_laws.sound_fits k.limits _ c.requires.0 (single-sound _ c.requires.0 c.args.number c.requires.2)))

pub remove-requires : goal.remove-requires
remove-requires c = (omega arith, (c.requires.1, count-few data_form _ _ _ c.requires.3))

pub returns-clause-moves : goal.returns-clause-moves
returns-clause-moves c = λ s b. let k = lent_link c.args.self.now in let p = parts k s in
    old-taken k c.args.p _ b p _ (c.remove.ensures.removed k.limits p.datas) _ (reply-room k.replies _ (sym c.if-not-has_room.ensures)) (c.put.ensures.put p.replies (single-sound _ p.limits c.args.number c.requires.2))

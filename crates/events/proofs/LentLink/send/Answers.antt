use native.Mathlib.Omega.{arith}
use mathlib.Core.Path.{refl, sym, ◌∙◌, ap}
use borrow.Author.Tests.{ltb-true}
use Rattle.limits.specs.Lists.{all}
use Rattle.limits.specs.Events.{send}
use Rattle.limits.specs.Tables.{sound_data}
use Rattle.limits.proofs.Laws.Promise.{refusal-not-0}
use Rattle.limits.proofs.Laws.Questions.{more_stays, more-fails}
use Rattle.mat.specs.Rules.{send_questions}
use Rattle.mat.specs.View.{mat_state}
use Rattle.limits.proofs.Laws.Messages.{data-sound}
use Rattle.mat.proofs.Laws.Calls.{next-legal}
use Rattle.mat.proofs.Laws.Messages.{sending-sound}
use Rattle.air.specs.Laws.{data_laws}
use Rattle.air.specs.Rules.{room_questions}
use Rattle.air.specs.Data.{data_messages}
use Rattle.events.specs.View.{link_state}
use Rattle.events.specs.Lent.{lent_link}
use Rattle.events.proofs.Laws.Parts.{parts}
use Rattle.events.proofs.Laws.Counting.{done-counted, refused-counted, handed-counted}
use Rattle.events.proofs.Laws.Sums.{counts-sum, row-sent, message-put, same-account}
use Rattle.events.proofs.Laws.Tables.{data-room}
use Rattle.events.proofs.Laws.Sending.{sends}
use Rattle.events.proofs.LentLink.send.Goals as goal

pub next_row-requires : goal.next_row-requires
next_row-requires c = let n = c.requires.0 in (n.0, n.1, n.2)

pub returns-in_err-row-clause-counted : goal.returns-in_err-row-clause-counted
unfolding link_state
returns-in_err-row-clause-counted c = λ s b. let k = lent_link c.args.self.now in
    handed-counted k k c.args.supply.now b send _ _ _ c.from_residual.ensures.1
    (more_stays (send_questions k.limits (mat_state k.limits.window k.mat) c.args.supply.now) _ c.in_err-row.ensures.number (room_questions 13 (data_messages k.datas)) (refusal-not-0 _)) refl

pub returns-then-not-has_room-clause-counted : goal.returns-then-not-has_room-clause-counted
unfolding link_state all
returns-then-not-has_room-clause-counted c = λ s b. let k = lent_link c.args.self.now in
    refused-counted k k c.args.supply.now b send _ _
    (more-fails (send_questions k.limits (mat_state k.limits.window k.mat) c.args.supply.now) _ c.in_ok-row.ensures.number 13 _ refl refl (data-room k.datas _ (sym c.if-not-has_room.ensures))) refl

pub keep-data-requires : goal.keep-data-requires
keep-data-requires c = let n = c.requires.0 in (n.0, n.2)

pub put-requires : goal.put-requires
put-requires c = let k = lent_link c.args.self.now in let n = c.requires.0 in
    let sound = ap (sound_data k.limits) c.keep-data.ensures.gives ∙ data-sound k.limits _ n.2 (next-legal k.limits k.mat _ _ c.in_ok-row.ensures) in
    (omega arith, (n.0, ltb-true k.datas.count 32 (sym c.if-not-has_room.ensures), data_laws.sound_fits k.limits _ n.0 sound))

pub returns-clause-counted : goal.returns-clause-counted
unfolding link_state all
returns-clause-counted c = λ s b. let k = lent_link c.args.self.now in let p = parts k s in
    let v = c.keep-data.ensures.sends p.mat c.args.supply.now c.in_ok-row.ensures in
    let sound = ap (sound_data k.limits) v.answered.value ∙ sending-sound k.limits k.mat p.limits p.mat c.args.supply.now (sym v.answered.number) in
    done-counted k c.args.supply.now b b send (tt {0}) _ _ _ _
    (sends k p _ _ _ _ (rw c.keep-data.ensures.stays at v) _ b refl (data-room k.datas _ (sym c.if-not-has_room.ensures)) (c.put.ensures.put p.datas sound))
    (λ e. counts-sum _ _ _ _ _ (row-sent _) (message-put _) (same-account _))

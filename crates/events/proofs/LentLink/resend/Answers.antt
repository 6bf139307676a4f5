use native.Mathlib.Omega.{arith}
use mathlib.Core.Path.{refl, sym, ◌∙◌, ap}
use borrow.Author.Tests.{ltb-true}
use Rattle.limits.specs.Lists.{all}
use Rattle.limits.specs.Events.{resend}
use Rattle.limits.specs.Tables.{sound_data}
use Rattle.limits.proofs.Laws.Promise.{refusal-not-0}
use Rattle.limits.proofs.Laws.Questions.{more_stays, more-fails}
use Rattle.mat.specs.Rules.{resend_questions}
use Rattle.mat.specs.View.{mat_state}
use Rattle.mat.proofs.Laws.Sound.{numbers-at}
use Rattle.mat.proofs.Laws.Calls.{due-there, due-low, resend-done}
use Rattle.mat.proofs.Laws.Messages.{resending-sound}
use Rattle.air.specs.Laws.{data_laws}
use Rattle.air.specs.Rules.{room_questions}
use Rattle.air.specs.Data.{data_messages}
use Rattle.events.specs.View.{link_state}
use Rattle.events.specs.Lent.{lent_link}
use Rattle.events.proofs.Laws.Parts.{parts}
use Rattle.events.proofs.Laws.Sums.{counts-sum, same-rows, message-put, same-account}
use Rattle.events.proofs.Laws.Counting.{done-counted, refused-counted, handed-counted}
use Rattle.events.proofs.Laws.Tables.{data-room}
use Rattle.events.proofs.Laws.Sending.{sends}
use Rattle.events.proofs.LentLink.resend.Goals as goal

pub due-requires : goal.due-requires
due-requires c = numbers-at _ (lent_link c.args.self.now).mat c.requires.0 c.requires.1

pub returns-in_err-number-clause-counted : goal.returns-in_err-number-clause-counted
unfolding link_state
returns-in_err-number-clause-counted c = λ s supply b. let k = lent_link c.args.self.now in
    handed-counted k k supply b (resend c.args.k) _ _ _ c.from_residual.ensures.1
    (more_stays (resend_questions k.limits (mat_state k.limits.window k.mat) c.args.k) _ c.in_err-number.ensures.number (room_questions 13 (data_messages k.datas)) (refusal-not-0 _)) refl

pub returns-then-not-has_room-clause-counted : goal.returns-then-not-has_room-clause-counted
unfolding link_state all
returns-then-not-has_room-clause-counted c = λ s supply b. let k = lent_link c.args.self.now in
    refused-counted k k supply b (resend c.args.k) _ _
    (more-fails (resend_questions k.limits (mat_state k.limits.window k.mat) c.args.k) _ c.in_ok-number.ensures.number 13 _ refl refl (data-room k.datas _ (sym c.if-not-has_room.ensures))) refl

pub again-again-requires : goal.again-again-requires
again-again-requires c = let k = lent_link c.args.self.now in (c.requires.0, due-low k.limits k.mat c.args.k _ c.in_ok-number.ensures c.requires.0)

pub put-requires : goal.put-requires
put-requires c = let k = lent_link c.args.self.now in
    let e = c.in_ok-number.ensures in
    let v = resend-done k.limits k.mat c.args.k _ e _ _ (c.again-again.ensures.resends c.requires.1 c.args.k (due-there k.limits k.mat c.args.k _ e) e.value) in
    let sound = ap (sound_data k.limits) v.answered.value ∙ resending-sound k.limits k.mat c.requires.0 c.requires.1 c.args.k (sym v.answered.number) in
    (omega arith, (c.requires.0, ltb-true k.datas.count 32 (sym c.if-not-has_room.ensures), data_laws.sound_fits k.limits _ c.requires.0 sound))

pub returns-clause-counted : goal.returns-clause-counted
unfolding link_state all
returns-clause-counted c = λ s supply b. let k = lent_link c.args.self.now in let p = parts k s in
    let e = c.in_ok-number.ensures in
    let v = resend-done k.limits k.mat c.args.k _ e _ _ (c.again-again.ensures.resends c.requires.1 c.args.k (due-there k.limits k.mat c.args.k _ e) e.value) in
    let sound = ap (sound_data k.limits) v.answered.value ∙ resending-sound k.limits k.mat c.requires.0 c.requires.1 c.args.k (sym v.answered.number) in
    done-counted k supply b b (resend c.args.k) (tt {0}) _ _ _ _
    (sends k p _ _ _ _ (rw (c.again-again.ensures.stays.0, c.again-again.ensures.stays.1) at v) _ b refl (data-room k.datas _ (sym c.if-not-has_room.ensures)) (c.put.ensures.put p.datas sound))
    (λ e. counts-sum _ _ _ _ _ (same-rows _) (message-put _) (same-account _))

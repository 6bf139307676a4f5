use mathlib.Core.Path.{refl, sym, ◌∙◌, ap}
use native.Mathlib.Omega.{arith}
use lib.ListN.{length}
use borrow.Author.Tests.{ltb-true}
use Rattle.limits.specs.Tables.{sound_reply}
use Rattle.limits.specs.Events.{reply}
use Rattle.limits.proofs.Laws.Promise.{refusal-not-0}
use Rattle.pad.specs.Rules.{Replying}
use Rattle.pad.specs.View.{pad_state}
use Rattle.pad.proofs.Laws.Sound as pad
use Rattle.pad.proofs.Laws.Messages.{replying-sound}
use Rattle.air.specs.Laws.{reply_laws}
use Rattle.air.specs.Replies.{reply_messages}
use Rattle.events.specs.View.{link_state}
use Rattle.events.specs.Lent.{lent_link}
use Rattle.events.proofs.Laws.Parts.{parts}
use Rattle.events.proofs.Laws.Counting.{done-counted, refused-counted, handed-counted}
use Rattle.events.proofs.Laws.Sums.{counts-sum, rows-recorded, message-put, same-account}
use Rattle.events.proofs.Laws.Tables.{reply-room}
use Rattle.events.proofs.Laws.Replying.{nothing-ready, record-full, table-full, all_pass, some-ready, count_fits, replies}
use Rattle.events.proofs.LentLink.reply.Goals as goal

pub run_length-requires : goal.run_length-requires
run_length-requires c = (c.requires.0, (pad.facts _ (lent_link c.args.self.now).pad c.requires.1).low)

pub returns-in_err-count-clause-counted : goal.returns-in_err-count-clause-counted
unfolding link_state
returns-in_err-count-clause-counted c = λ s supply. let k = lent_link c.args.self.now in let b = c.args.«record».now in
    handed-counted k k supply b reply _ _ _ c.from_residual.ensures.1
    (nothing-ready (pad_state k.limits.window k.pad) (length b) (reply_messages k.replies) _ c.in_err-count.ensures.number (refusal-not-0 _)) refl

pub overflow_mul-count : goal.overflow_mul-count
overflow_mul-count c = let k = lent_link c.args.self.now in
    let m = count_fits k.limits c.requires.0 k.pad c.requires.1 _ c.in_ok-count.ensures.value in omega (arith, m.1)

pub returns-then-record-count-clause-counted : goal.returns-then-record-count-clause-counted
unfolding link_state
returns-then-record-count-clause-counted c = λ s supply. let k = lent_link c.args.self.now in let a = c.in_ok-count.ensures in
    refused-counted k k supply _ reply _ _ (record-full (pad_state k.limits.window k.pad) _ (reply_messages k.replies) (some-ready (pad_state k.limits.window k.pad) a.number) _ a.value c.if-record-count.true) refl

pub returns-then-not-has_room-clause-counted : goal.returns-then-not-has_room-clause-counted
unfolding link_state
returns-then-not-has_room-clause-counted c = λ s supply. let k = lent_link c.args.self.now in let a = c.in_ok-count.ensures in
    refused-counted k k supply _ reply _ _
    (table-full (pad_state k.limits.window k.pad) (length c.args.«record».now) (reply_messages k.replies) (some-ready (pad_state k.limits.window k.pad) a.number) _ a.value
    (omega (arith, c.if-record-count.false)) (reply-room k.replies _ (sym c.if-not-has_room.ensures))) refl

pub record_run-run-requires : goal.record_run-run-requires
record_run-run-requires c = let k = lent_link c.args.self.now in let a = c.in_ok-count.ensures in
    let r = some-ready (pad_state k.limits.window k.pad) a.number in
    (c.requires.0, (pad.facts _ k.pad c.requires.1).low, omega (arith, a.value, r), (count_fits k.limits c.requires.0 k.pad c.requires.1 _ a.value).0, omega (arith, c.if-record-count.false))

pub put-requires : goal.put-requires
put-requires c = let k = lent_link c.args.self.now in let a = c.in_ok-count.ensures in
    let sound =
    ap (λ (x : Replying). sound_reply k.limits x.reply) (c.record_run-run.ensures.moves c.requires.1 a.value).1
    ∙ replying-sound k.limits c.requires.0 k.pad c.requires.1 c.args.«record».now (some-ready (pad_state k.limits.window k.pad) a.number) in
    (omega arith, (c.requires.0, ltb-true k.replies.count 32 (sym c.if-not-has_room.ensures), reply_laws.sound_fits k.limits _ c.requires.0 sound))

pub returns-clause-counted : goal.returns-clause-counted
returns-clause-counted c = λ s supply. let k = lent_link c.args.self.now in let p = parts k s in let a = c.in_ok-count.ensures in
    let v = c.record_run-run.ensures.moves p.pad a.value in
    let some = some-ready (pad_state k.limits.window k.pad) a.number in
    let sound = ap (λ (x : Replying). sound_reply k.limits x.reply) v.1 ∙ replying-sound k.limits p.limits k.pad p.pad c.args.«record».now some in
    done-counted k supply _ _ reply _ _ _ _ _
    (replies k p c.args.«record».now _
    (all_pass (pad_state k.limits.window k.pad) _ (reply_messages k.replies) some _ a.value (omega (arith, c.if-record-count.false)) (reply-room k.replies _ (sym c.if-not-has_room.ensures)))
    _ _ _ v.0 v.1 _ supply (c.put.ensures.put p.replies sound))
    (λ e. counts-sum _ _ _ _ _ (rows-recorded _ _ _ e) (same-account _) (message-put _))

pub overflow_add-counts : goal.overflow_add-counts
overflow_add-counts c = let k = lent_link c.args.self.now in
    let m = count_fits k.limits c.requires.0 k.pad c.requires.1 _ c.in_ok-count.ensures.value in let h = c.requires.3 in omega arith

use native.Mathlib.Omega.{arith}
use mathlib.Core.Path.{refl}
use lib.ListN.{get_or}
use Rattle.limits.specs.Tables.{no_reply}
use Rattle.limits.specs.Events.{arrive_reply}
use Rattle.limits.proofs.Laws.Promise.{refusal-not-0}
use Rattle.limits.proofs.Laws.Questions.{more_stays}
use Rattle.mat.specs.Rules.{acknowledge_questions}
use Rattle.mat.specs.View.{mat_state}
use Rattle.air.specs.Rules.{place_questions}
use Rattle.air.specs.Replies.{reply_messages}
use Rattle.air.specs.Forms.{reply_form}
use Rattle.air.proofs.Laws.Forms.{count-few}
use Rattle.events.specs.View.{link_state}
use Rattle.events.specs.Lent.{lent_link}
use Rattle.events.proofs.Laws.Parts.{parts}
use Rattle.events.proofs.Laws.Ends.{same-mat}
use Rattle.events.proofs.Laws.Counting.{done-counted, handed-counted}
use Rattle.events.proofs.Laws.Sums.{counts-sum, rows-acknowledged, message-arrived, same-account}
use Rattle.limits.proofs.Laws.Good.{good}
use Rattle.events.proofs.Laws.Messages.{there, found-sound}
use Rattle.events.proofs.Laws.Tables.{reply-below}
use Rattle.events.proofs.Laws.Acknowledging.{both-asked, acknowledged}
use Rattle.events.proofs.LentLink.arrive_reply.Goals as goal

pub find-requires : goal.find-requires
find-requires c = (omega arith, count-few reply_form _ _ _ c.requires.1)

pub returns-in_err-reply-clause-counted : goal.returns-in_err-reply-clause-counted
unfolding link_state
returns-in_err-reply-clause-counted c = λ s supply b. let k = lent_link c.args.self.now in
    handed-counted k k supply b (arrive_reply c.args.p) _ _ _ c.from_residual.ensures.1
    (more_stays (place_questions c.args.p (reply_messages k.replies)) _ c.in_err-reply.ensures.number (acknowledge_questions k.limits (mat_state k.limits.window k.mat) (get_or (reply_messages k.replies) c.args.p no_reply).body) (refusal-not-0 _)) refl

pub acknowledge-requires : goal.acknowledge-requires
acknowledge-requires c = let k = lent_link c.args.self.now in
    (c.requires.0, found-sound reply_form k.limits k.replies c.args.p c.in_ok-reply.reply c.in_ok-reply.ensures c.requires.1)

pub returns-in_err-acknowledged-clause-counted : goal.returns-in_err-acknowledged-clause-counted
unfolding link_state
returns-in_err-acknowledged-clause-counted c = λ s supply b. let k = lent_link c.args.self.now in let p = parts k s in
    let a = rw c.in_err-acknowledged.was at (c.acknowledge.ensures.acknowledges p.mat) in
    handed-counted k _ supply b (arrive_reply c.args.p) _ _ _ c.from_residual-in_err-acknowledged.ensures.1 (both-asked k p _ c.in_ok-reply.reply c.in_ok-reply.ensures _ _ a) (same-mat k _ a.kept)

pub remove-requires : goal.remove-requires
remove-requires c = let k = lent_link c.args.self.now in
    (omega arith, (reply-below k.replies c.args.p (there reply_form k.limits k.replies c.args.p c.in_ok-reply.reply c.in_ok-reply.ensures), count-few reply_form _ _ _ c.requires.1))

pub returns-clause-counted : goal.returns-clause-counted
returns-clause-counted c = λ s supply b. let k = lent_link c.args.self.now in let p = parts k s in
    let a = rw c.acknowledge.ensures.stays at (rw c.in_ok-acknowledged.was at (c.acknowledge.ensures.acknowledges p.mat)) in
    done-counted k supply b b (arrive_reply c.args.p) _ _ _ _ _
    (acknowledged k p _ c.in_ok-reply.reply c.in_ok-reply.ensures _ _ a _ supply b (c.remove.ensures.removed k.limits p.replies))
    (λ e. counts-sum _ _ _ _ _ (rows-acknowledged _ _ _ e) (same-account _) (message-arrived _))

pub overflow_add-counts : goal.overflow_add-counts
overflow_add-counts c =
    let m = rw c.in_ok-acknowledged.was at c.acknowledge.ensures.low in
    let g = good _ c.requires.0.0 in let h = c.requires.2 in omega arith

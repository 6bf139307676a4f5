use Rattle.air.specs.Forms.{data_form, reply_form}
use Rattle.air.proofs.Laws.Forms.{count-few}
use Rattle.mat.proofs.Laws.Sound.{numbers-at}
use Rattle.events.specs.Lent.{lent_link}
use Rattle.events.proofs.Laws.Parts.{parts, pad-number}
use Rattle.events.proofs.LentLink.act.Goals as goal

-- of a sound link each event gets what it asks for
pub send-requires : goal.send-requires
send-requires c = let k = lent_link c.args.self.now in let p = parts k c.requires.0 in (numbers-at _ k.mat p.limits p.mat, p.datas, c.requires.1)

pub resend-requires : goal.resend-requires
resend-requires c = let p = parts _ c.requires.0 in (p.limits, p.mat, p.datas, c.requires.1)

pub arrive_data-requires : goal.arrive_data-requires
arrive_data-requires c = let k = lent_link c.args.self.now in let p = parts k c.requires.0 in (p.limits, pad-number k p, p.datas, p.replies, c.requires.1)

pub reply-requires : goal.reply-requires
reply-requires c = let p = parts _ c.requires.0 in (p.limits, p.pad, p.replies, c.requires.1)

pub arrive_reply-requires : goal.arrive_reply-requires
arrive_reply-requires c = let k = lent_link c.args.self.now in let p = parts k c.requires.0 in (numbers-at _ k.mat p.limits p.mat, p.replies, c.requires.1)

pub lose_data-requires : goal.lose_data-requires
lose_data-requires c = (count-few data_form _ _ _ (parts _ c.requires.0).datas, c.requires.1)

pub lose_reply-requires : goal.lose_reply-requires
lose_reply-requires c = (count-few reply_form _ _ _ (parts _ c.requires.0).replies, c.requires.1)

pub tick-requires : goal.tick-requires
tick-requires c = let p = parts _ c.requires.0 in (p.limits, count-few data_form _ _ _ p.datas, count-few reply_form _ _ _ p.replies, c.requires.1)

pub returns-in-Send-clause-counted : goal.returns-in-Send-clause-counted
returns-in-Send-clause-counted c = rw c.in-Send.is (c.send.ensures.counted c.requires.0 c.args.«record».now)

pub returns-in-Resend-clause-counted : goal.returns-in-Resend-clause-counted
returns-in-Resend-clause-counted c = rw c.in-Resend.is (c.resend.ensures.counted c.requires.0 c.args.supply.now c.args.«record».now)

pub returns-in-ArriveData-clause-counted : goal.returns-in-ArriveData-clause-counted
returns-in-ArriveData-clause-counted c = rw c.in-ArriveData.is (c.arrive_data.ensures.counted c.requires.0 c.args.supply.now c.args.«record».now)

pub returns-in-Reply-clause-counted : goal.returns-in-Reply-clause-counted
returns-in-Reply-clause-counted c = rw c.in-Reply.is (c.reply.ensures.counted c.requires.0 c.args.supply.now)

pub returns-in-ArriveReply-clause-counted : goal.returns-in-ArriveReply-clause-counted
returns-in-ArriveReply-clause-counted c = rw c.in-ArriveReply.is (c.arrive_reply.ensures.counted c.requires.0 c.args.supply.now c.args.«record».now)

pub returns-in-LoseData-clause-counted : goal.returns-in-LoseData-clause-counted
returns-in-LoseData-clause-counted c = rw c.in-LoseData.is (c.lose_data.ensures.counted c.requires.0 c.args.supply.now c.args.«record».now)

pub returns-in-LoseReply-clause-counted : goal.returns-in-LoseReply-clause-counted
returns-in-LoseReply-clause-counted c = rw c.in-LoseReply.is (c.lose_reply.ensures.counted c.requires.0 c.args.supply.now c.args.«record».now)

pub returns-in-Tick-clause-counted : goal.returns-in-Tick-clause-counted
returns-in-Tick-clause-counted c = rw c.in-Tick.is (c.tick.ensures.counted c.requires.0 c.args.supply.now c.args.«record».now)

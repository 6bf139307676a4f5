use native.Mathlib.Omega.{arith}
use Rattle.events.specs.Counts.{rows_of}
use Rattle.events.specs.View.{link_state}
use Rattle.events.specs.Lent.{lent_link}
use mathlib.Core.Path.{refl}
use Rattle.limits.specs.Events.{tick}
use Rattle.limits.proofs.Laws.Sizes.{expired-most}
use Rattle.air.specs.Data.{data_messages}
use Rattle.air.specs.Replies.{reply_messages}
use Rattle.events.proofs.Laws.Sums.{counts-sum, same-rows, messages-dropped}
use Rattle.events.proofs.Laws.Counting.{done-counted}
use Rattle.pad.specs.Rules.{ticked}
use Rattle.pad.specs.View.{pad_state}
use Rattle.pad.proofs.Laws.Calls.{with-number}
use Rattle.events.proofs.Laws.Parts.{parts}
use Rattle.events.proofs.Laws.Tables.{data-most, reply-most}
use Rattle.events.proofs.Laws.Ticking.{ticks}
use Rattle.events.proofs.LentLink.tick.Goals as goal

pub tick-requires : goal.tick-requires
tick-requires c = c.requires.0

pub tick-requires-2 : goal.tick-requires-2
tick-requires-2 c = c.requires.0

pub age-requires : goal.age-requires
age-requires c = (omega arith, c.requires.1)

pub age-requires-2 : goal.age-requires-2
age-requires-2 c = (omega arith, c.requires.2)

pub returns-clause-counted : goal.returns-clause-counted
unfolding pad_state ticked link_state
returns-clause-counted c = λ s supply b. let k = lent_link c.args.self.now in let p = parts k s in
    done-counted k supply b b (tick c.args.d) (tt {0}) _ _ _ _
    (ticks k p _ _ _ _ _ (rw (c.tick.ensures.stays.0, c.tick.ensures.stays.1) at (c.tick.ensures.ticks p.mat)) (with-number k.limits k.pad.wanted _ _ refl (c.tick-2.ensures.moves p.pad)) (c.age.ensures.aged k.limits p.datas) (c.age-2.ensures.aged k.limits p.replies) supply b)
    (λ e. let n = c.args.counts.now in
    counts-sum n _ _ _ _ (same-rows (rows_of n)) (messages-dropped n.datas _ _ c.age.ensures.expired) (messages-dropped n.replies _ _ c.age-2.ensures.expired))

pub overflow_add-counts : goal.overflow_add-counts
overflow_add-counts c = let k = lent_link c.args.self.now in let h = c.requires.3 in
    let e = c.age.ensures.expired in let m = expired-most c.args.d (data_messages k.datas) in let f = data-most k.datas c.requires.1 in omega arith

pub overflow_add-counts-2 : goal.overflow_add-counts-2
overflow_add-counts-2 c = let k = lent_link c.args.self.now in let h = c.requires.3 in
    let e = c.age-2.ensures.expired in let m = expired-most c.args.d (reply_messages k.replies) in let f = reply-most k.replies c.requires.2 in omega arith

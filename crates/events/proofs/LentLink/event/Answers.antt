use Rattle.events.proofs.Laws.Counting.{counted-as}
use Rattle.events.proofs.LentLink.event.Goals as goal

pub returns-clause-counted : goal.returns-clause-counted
returns-clause-counted c = counted-as _ _ _ _ _ _ _ _ _ _ c.in_ok-event.ensures c.act.ensures.counted

use Rattle.std.proofs.Common.{rules}
use Rattle.limits.specs.Events.{event}
use Rattle.limits.specs.Questions.{pick}
use Rattle.events.proofs.event.Event.read.Goals as goal

-- src/event.rt:24:5
pub returns-in-1 : goal.returns-in-1
unfolding event pick
returns-in-1 c = search rules

-- src/event.rt:24:5
pub returns-in-2 : goal.returns-in-2
unfolding event pick
returns-in-2 c = search rules

-- src/event.rt:24:5
pub returns-in-3 : goal.returns-in-3
unfolding event pick
returns-in-3 c = search rules

-- src/event.rt:24:5
pub returns-in-4 : goal.returns-in-4
unfolding event pick
returns-in-4 c = search rules

-- src/event.rt:24:5
pub returns-in-5 : goal.returns-in-5
unfolding event pick
returns-in-5 c = search rules

-- src/event.rt:24:5
pub returns-in-6 : goal.returns-in-6
unfolding event pick
returns-in-6 c = search rules

-- src/event.rt:24:5
pub returns-in-7 : goal.returns-in-7
unfolding event pick
returns-in-7 c = search rules

-- src/event.rt:24:5
pub returns-in-8 : goal.returns-in-8
unfolding event pick
returns-in-8 c = search rules

-- src/event.rt:24:5
pub returns-in_default : goal.returns-in_default
unfolding event pick
returns-in_default c = search rules

-- src/event.rt:24:5
pub returns-in-1-2 : goal.returns-in-1-2
unfolding event pick
returns-in-1-2 c = search rules

-- src/event.rt:24:5
pub returns-in-1-2-2 : goal.returns-in-1-2-2
unfolding event pick
returns-in-1-2-2 c = search rules

-- src/event.rt:24:5
pub returns-in-1-2-3 : goal.returns-in-1-2-3
unfolding event pick
returns-in-1-2-3 c = search rules

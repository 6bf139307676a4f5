use Rattle.events.specs.Lent.{lent_link, StaysLent}
use Rattle.lists.proofs.Laws.Running.{Going}
use Rattle.lists.proofs.run_events.Given as goal

abbrev pub invariant-loop-i : goal.invariant-loop-i
invariant-loop-i l = record {
  lent : StaysLent l.initial.link l.link;
  going : Going l.events l.supply l.initial.record l.initial.answers (lent_link l.initial.link) l.«record» l.answers (lent_link l.link) l.counts l.i;
}

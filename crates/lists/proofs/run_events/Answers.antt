use native.Mathlib.Omega.{arith}
use Rattle.lists.proofs.Laws.Running.{room, turn, has-room, lent-on, finishes}
use Rattle.lists.proofs.run_events.Goals as goal

pub event-answer-requires : goal.event-answer-requires
event-answer-requires c = let g = c.loop-i.invariant.going in (g.sound, has-room _ _ _ _ _ _ _ _ _ _ g c.requires.0 (omega arith) (omega arith) (omega (arith, g.same-record)))

pub loop-i-preserved : goal.loop-i-preserved
loop-i-preserved c = let g = c.loop-i.invariant.going in let r = room _ _ _ _ _ _ _ _ _ _ g c.loop-i-test.true c.requires.1 c.requires.2 in record {
  lent = lent-on c.args.link.now c.loop-i.link c.event-answer.new.self c.loop-i.invariant.lent c.event-answer.ensures.lent;
  going = turn _ _ _ _ _ _ _ _ _ _ g r.event r.answer _ _ _ _ c.event-answer.ensures.counted c.event-answer.auto.record c.number.result c.number.ensures;
}

pub returns-clause-ran : goal.returns-clause-ran
returns-clause-ran c = finishes _ _ _ _ _ _ _ _ _ _ c.requires.1 (omega (arith, c.loop-i-test.false, c.loop-i.auto.i-end)) (omega (arith, c.requires.2, c.loop-i.invariant.going.same-answers)) c.loop-i.invariant.going

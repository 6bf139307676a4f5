use Rattle.rows.proofs.Laws.Places.{first-place, next_place, next-below}
use Rattle.limits.proofs.Laws.Choice.{both, clash, and-no-left, and-no-right}
use Rattle.limits.proofs.Laws.Lists.{leading-is}
use borrow.Author.Count.{below_more}
use lib.Dec.{ltb}
use lib.ListN.{get_or}
use mathlib.Core.Bool.{false, ◌&&◌}
use mathlib.Core.Path.{sym, ◌∙◌, ap}
use native.Mathlib.Omega.{arith}
use Rattle.pad.proofs.lentpad.ready_run.Goals as goal
use Rattle.pad.proofs.lentpad.ready_run.Goals.{then-held-at, else-held-at}

pub loop-k-init : goal.loop-k-init
loop-k-init c = record { place = first-place _ _ c.requires.1; below = c.requires.1; are_ready = λ j h. absurd (omega arith) }

pub loop-k-preserved : goal.loop-k-preserved
loop-k-preserved c = let i = c.loop-k.invariant in let a = c.args in record {
  place = next_place _ _ _ _ _ i.place c.after-at.ensures;
  below = next-below _ _ _ i.below c.after-at.ensures;
  are_ready =
      below_more _ _ i.are_ready
      (ap (λ p. get_or a.held.now p false && ltb 0 (get_or a.timers.now p 0)) (sym i.place)
      ∙ elim c.if-held-at.branch [
        | then-held-at w ↦ both (get_or a.held.now c.loop-k.at false) (ltb 0 (get_or a.timers.now c.loop-k.at 0)) w.if-held-at.true (sym w.value-is ∙ c.if-not-timers-at.false)
        | else-held-at w ↦ absurd (clash (get_or a.held.now c.loop-k.at false) (sym w.value-is ∙ c.if-not-timers-at.false) w.if-held-at.false)
      ]);
}

pub returns-then-not-timers-at : goal.returns-then-not-timers-at
returns-then-not-timers-at c = let i = c.loop-k.invariant in let a = c.args in
    sym (leading-is _ _ _ c.loop-k.k (omega arith) i.are_ready (λ _.
    ap (λ p. get_or a.held.now p false && ltb 0 (get_or a.timers.now p 0)) (sym i.place)
    ∙ elim c.if-held-at.branch [
      | then-held-at w ↦ and-no-right (get_or a.held.now c.loop-k.at false) _ (sym w.value-is ∙ c.if-not-timers-at.true)
      | else-held-at w ↦ and-no-left (get_or a.held.now c.loop-k.at false) (ltb 0 (get_or a.timers.now c.loop-k.at 0)) w.if-held-at.false
    ]))

pub returns : goal.returns
returns c = sym (leading-is _ _ _ c.args.w (omega arith) (λ j h. c.loop-k.invariant.are_ready j (omega arith)) (λ o. absurd (omega arith)))

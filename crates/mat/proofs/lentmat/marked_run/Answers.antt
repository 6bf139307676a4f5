use Rattle.rows.proofs.Laws.Places.{first-place, next_place, next-below}
use Rattle.limits.proofs.Laws.Lists.{leading-is}
use borrow.Author.Count.{below_more}
use lib.ListN.{get_or}
use mathlib.Core.Bool.{false}
use mathlib.Core.Path.{sym, ◌∙◌, ap}
use native.Mathlib.Omega.{arith}
use Rattle.mat.proofs.lentmat.marked_run.Goals as goal

pub loop-k-init : goal.loop-k-init
loop-k-init c = record { place = first-place _ _ c.requires.1; below = c.requires.1; marked = λ j h. absurd (omega arith) }

pub loop-k-preserved : goal.loop-k-preserved
loop-k-preserved c = let i = c.loop-k.invariant in record {
  place = next_place _ _ _ _ _ i.place c.after-at.ensures;
  below = next-below _ _ _ i.below c.after-at.ensures;
  marked = below_more _ _ i.marked (ap (λ p. get_or c.args.marks.now p false) (sym i.place) ∙ c.if-not-marks-at.false);
}

pub returns-then-not-marks-at : goal.returns-then-not-marks-at
returns-then-not-marks-at c = let i = c.loop-k.invariant in
    sym (leading-is _ _ _ c.loop-k.k (omega arith) i.marked (λ _. ap (λ p. get_or c.args.marks.now p false) (sym i.place) ∙ c.if-not-marks-at.true))

pub returns : goal.returns
returns c = sym (leading-is _ _ _ c.args.most (omega arith) (λ j h. c.loop-k.invariant.marked j (omega arith)) (λ o. absurd (omega arith)))

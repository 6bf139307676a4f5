use Rattle.mat.specs.View.{lent_mat}
use Rattle.mat.proofs.Laws.Calls.{span-yes, span-no, passing-span}
use Rattle.mat.proofs.Laws.Sound.{numbered}
use Rattle.limits.proofs.Laws.Ring.{gap_below}
use Rattle.limits.proofs.Laws.Messages.{reply-facts}
use Rattle.limits.proofs.Laws.Promise.{changed-refused}
use Rattle.limits.proofs.Laws.Choice.{pick_yes, pick_no}
use Rattle.limits.proofs.Laws.Good.{good}
use Rattle.mat.specs.Rules.{Acknowledging}
use mathlib.Core.Path.{refl, sym, ◌∙◌, ap}
use native.Mathlib.Omega.{arith}
use Rattle.mat.proofs.lentmat.LentMat.acknowledge.Goals as goal

pub gap-count-requires : goal.gap-count-requires
gap-count-requires c = omega (arith, reply-facts _ _ c.requires.1, good _ c.requires.0.0)

pub overflow_add-count : goal.overflow_add-count
overflow_add-count c = let r = reply-facts _ _ c.requires.1 in
    let h = gap_below _ _ _ _ c.gap-count.ensures (omega (arith, r)) (omega (arith, r)) in omega (arith, good _ c.requires.0.0, h)

pub gap-requires : goal.gap-requires
gap-requires c = omega (arith, good _ c.requires.0.0, numbered _ (lent_mat c.args.self.now) c.requires.0)

pub gap-requires-2 : goal.gap-requires-2
gap-requires-2 c = omega (arith, reply-facts _ _ c.requires.1, good _ c.requires.0.0, numbered _ (lent_mat c.args.self.now) c.requires.0)

pub overflow_add-gap : goal.overflow_add-gap
overflow_add-gap c = let r = reply-facts _ _ c.requires.1 in let n = numbered _ (lent_mat c.args.self.now) c.requires.0 in
    let h = gap_below _ _ _ _ c.gap-count.ensures (omega (arith, r)) (omega (arith, r)) in
    let k = gap_below _ _ _ _ c.gap-2.ensures (omega (arith, n)) (omega (arith, r)) in omega (arith, good _ c.requires.0.0, h, k)

pub returns-then-gap-count-clause-acknowledges : goal.returns-then-gap-count-clause-acknowledges
returns-then-gap-count-clause-acknowledges c = λ _.
    changed-refused _ _ _ _ _ _ _ _ (sym (pick_no _ _ _ _ (span-no c.args.l (lent_mat c.args.self.now) c.args.reply _ _ _ c.gap-count.ensures c.gap-2.ensures c.gap.ensures c.if-gap-count.true) refl)) refl

pub mark_off-requires : goal.mark_off-requires
mark_off-requires c = let r = reply-facts _ _ c.requires.1 in
    (c.requires.0, r.first, omega arith, omega (arith, c.gap-2.ensures, c.gap.ensures, c.if-gap-count.false))

pub returns-clause-acknowledges : goal.returns-clause-acknowledges
returns-clause-acknowledges c = λ s. let m = lent_mat c.args.self.now in
    let e = c.mark_off.ensures.passes s in
    let d = e.1 ∙ passing-span c.args.l m c.args.reply _ _ _ c.gap-count.ensures c.gap-2.ensures c.gap.ensures in
    record {
      answered =
          record {
            number = sym (pick_yes _ _ _ _ (span-yes c.args.l m c.args.reply _ _ _ c.gap-count.ensures c.gap-2.ensures c.gap.ensures c.if-gap-count.false) refl);
            value = ap (λ (x : Acknowledging). x.passed) d;
          };
      left = ap (λ (x : Acknowledging). x.state) d;
      kept = tt;
      stays = λ _. e.0;
    }

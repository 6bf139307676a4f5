use Rattle.mat.specs.View.{mat_of}
use Rattle.mat.proofs.Laws.Resend.{row-yes, row-no, mark-read, timer-read}
use Rattle.mat.proofs.Laws.Sound.{numbered}
use Rattle.limits.proofs.Laws.Good.{good}
use Rattle.limits.proofs.Laws.Ring.{step_fits}
use Rattle.limits.proofs.Laws.Choice.{pick_yes, pick_no}
use borrow.Author.Tests.{eq-eqb, ne_eqb}
use mathlib.Core.Bool.{true, false}
use mathlib.Core.Path.{refl, sym, ◌∙◌}
use Prim.Native.Nat.{◌*◌}
use native.Mathlib.Omega.{arith}
use Rattle.mat.proofs.lentmat.due.Goals as goal

pub gap-requires : goal.gap-requires
gap-requires c = omega (arith, good _ c.requires.0, c.requires.1, c.requires.2)

pub forward-number-requires : goal.forward-number-requires
forward-number-requires c = omega (arith, good _ c.requires.0, c.requires.1, c.requires.3, c.gap.ensures, c.if-gap-k.false)

pub slot-at-requires : goal.slot-at-requires
slot-at-requires c = let g = good _ c.requires.0 in
    omega (arith, g, c.forward-number.ensures, step_fits (2 * c.args.l.window) c.args.oldest c.args.k (omega (arith, g)))

pub returns-then-gap-k : goal.returns-then-gap-k
returns-then-gap-k c = λ cells. record { number = sym (pick_no _ _ _ _ (row-no _ (mat_of c.args.oldest c.args.next c.args.marks.now c.args.timers.now cells) _ _ c.gap.ensures c.if-gap-k.true) refl); value = tt }

pub returns-then-marks-at : goal.returns-then-marks-at
returns-then-marks-at c = λ cells. let m = mat_of c.args.oldest c.args.next c.args.marks.now c.args.timers.now cells in
    let n = numbered _ m c.requires in
    let h = rw c.gap.ensures at c.if-gap-k.false in
    record {
      number =
          sym (pick_yes _ _ _ _ (row-yes _ m _ _ c.gap.ensures c.if-gap-k.false)
          (pick_no _ _ _ _ (mark-read _ m _ _ _ n h c.forward-number.ensures c.slot-at.ensures true c.if-marks-at.true) refl));
      value = tt;
    }

pub returns-then-timers-at-ne0 : goal.returns-then-timers-at-ne0
returns-then-timers-at-ne0 c = λ cells. let m = mat_of c.args.oldest c.args.next c.args.marks.now c.args.timers.now cells in
    let n = numbered _ m c.requires in
    let h = rw c.gap.ensures at c.if-gap-k.false in
    let q = c.forward-number.ensures in
    let p = c.slot-at.ensures in
    record {
      number =
          sym (pick_yes _ _ _ _ (row-yes _ m _ _ c.gap.ensures c.if-gap-k.false)
          (pick_yes _ _ _ _ (mark-read _ m _ _ _ n h q p false c.if-marks-at.false)
          (pick_no _ _ _ _ (ne_eqb _ _ (λ z. c.if-timers-at-ne0.true (sym (timer-read _ m _ _ _ n h q p) ∙ z))) refl)));
      value = tt;
    }

pub returns : goal.returns
returns c = λ cells. let m = mat_of c.args.oldest c.args.next c.args.marks.now c.args.timers.now cells in
    let n = numbered _ m c.requires in
    let h = rw c.gap.ensures at c.if-gap-k.false in
    let q = c.forward-number.ensures in
    let p = c.slot-at.ensures in
    record {
      number =
          sym (pick_yes _ _ _ _ (row-yes _ m _ _ c.gap.ensures c.if-gap-k.false)
          (pick_yes _ _ _ _ (mark-read _ m _ _ _ n h q p false c.if-marks-at.false)
          (pick_yes _ _ _ _ (eq-eqb _ _ (timer-read _ m _ _ _ n h q p ∙ c.if-timers-at-ne0.false)) refl)));
      value = q;
    }

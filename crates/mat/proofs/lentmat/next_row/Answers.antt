use Rattle.mat.specs.View.{mat_of}
use Rattle.mat.proofs.Laws.Resend.{room-yes, room-no}
use Rattle.limits.proofs.Laws.Good.{good}
use Rattle.limits.proofs.Laws.Choice.{pick_yes, pick_no}
use Rattle.limits.specs.Cells.{legal_row}
use borrow.Author.Tests.{le-leb, lt-leb}
use mathlib.Core.Path.{refl, sym, ◌∙◌, ap}
use native.Mathlib.Omega.{arith}
use Rattle.mat.proofs.lentmat.next_row.Goals as goal

pub gap-requires : goal.gap-requires
gap-requires c = omega (arith, good _ c.requires.0, c.requires.1, c.requires.2)

pub returns-then-w-gap : goal.returns-then-w-gap
returns-then-w-gap c = λ marks timers cells. record { number = sym (pick_no _ _ _ _ (room-no _ (mat_of c.args.oldest c.args.next marks timers cells) _ c.gap.ensures c.if-w-gap.true) refl); value = tt }

pub returns-then-supply-lt16 : goal.returns-then-supply-lt16
returns-then-supply-lt16 c = λ marks timers cells. let m = mat_of c.args.oldest c.args.next marks timers cells in
    record { number = sym (pick_yes _ _ _ _ (room-yes _ m _ c.gap.ensures c.if-w-gap.false) (pick_no _ _ _ _ (lt-leb _ _ c.if-supply-lt16.true) refl)); value = tt }

pub returns-then-not-legal_row : goal.returns-then-not-legal_row
returns-then-not-legal_row c = λ marks timers cells. let m = mat_of c.args.oldest c.args.next marks timers cells in
    record {
      number =
          sym (pick_yes _ _ _ _ (room-yes _ m _ c.gap.ensures c.if-w-gap.false)
          (pick_yes _ _ _ _ (le-leb _ _ c.if-supply-lt16.false) (pick_no _ _ _ _ (ap legal_row (sym c.read-row.ensures) ∙ sym c.if-not-legal_row.ensures) refl)));
      value = tt;
    }

pub returns : goal.returns
returns c = λ marks timers cells. let m = mat_of c.args.oldest c.args.next marks timers cells in
    record {
      number =
          sym (pick_yes _ _ _ _ (room-yes _ m _ c.gap.ensures c.if-w-gap.false)
          (pick_yes _ _ _ _ (le-leb _ _ c.if-supply-lt16.false) (pick_yes _ _ _ _ (ap legal_row (sym c.read-row.ensures) ∙ sym c.if-not-legal_row.ensures) refl)));
      value = c.read-row.ensures;
    }

use Rattle.mat.proofs.Laws.Sound.{front-mark, other-marks}
use Rattle.mat.specs.View.{mat_of}
use Rattle.limits.proofs.Laws.Choice.{and-goes-on}
use mathlib.Core.Bool.{not}
use mathlib.Core.Path.{sym, ◌∙◌, ap}
use Prim.Native.Nat.{◌-◌}
use Rattle.mat.proofs.lentmat.marked_sound.Goals as goal

pub returns-then-not-marks-at : goal.returns-then-not-marks-at
returns-then-not-marks-at c = λ timers cells. let m = mat_of c.args.oldest c.args.next c.args.marks.now timers cells in
    c.unmarked.ensures ∙ other-marks _ m c.requires.2 c.requires.3 _ _ c.slot.ensures (ap (c.args.w -◌) c.gap-out.ensures)
    ∙ and-goes-on _ _ (ap not (sym (front-mark _ m _ c.slot-at.ensures) ∙ c.if-not-marks-at.true))

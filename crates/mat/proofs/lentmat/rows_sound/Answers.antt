use Rattle.mat.proofs.Laws.Sound.{legal-cells}
use Rattle.mat.specs.View.{mat_of}
use Rattle.limits.proofs.Laws.Choice.{and-goes-on}
use mathlib.Core.Path.{sym, ◌∙◌}
use Rattle.mat.proofs.lentmat.rows_sound.Goals as goal

pub returns-then-at_most : goal.returns-then-at_most
returns-then-at_most c = λ marks. let m = mat_of c.args.oldest c.args.next marks c.args.timers.now c.args.cells.now in
    c.legal_rows.ensures ∙ legal-cells _ m _ _ c.slot.ensures c.gap-out.ensures ∙ and-goes-on _ _ (sym c.at_most.ensures ∙ c.if-at_most.true)

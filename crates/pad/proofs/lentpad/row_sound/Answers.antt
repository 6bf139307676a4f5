use Rattle.rows.proofs.Laws.Cells.{legal-one}
use Rattle.limits.proofs.Laws.Choice.{pick_yes, pick_no}
use mathlib.Core.Bool.{not}
use mathlib.Core.Path.{refl, sym, ◌∙◌, ap}
use Rattle.pad.proofs.lentpad.row_sound.Goals as goal

pub returns-then-not-held : goal.returns-then-not-held
returns-then-not-held c = ap not c.if-not-held.true ∙ sym (pick_no _ _ _ _ c.if-not-held.true refl)

pub returns-else-not-held : goal.returns-else-not-held
returns-else-not-held c = let a = c.args in c.legal_cells.ensures ∙ legal-one a.cells.now a.at ∙ sym (pick_yes _ _ _ _ c.if-not-held.false refl)

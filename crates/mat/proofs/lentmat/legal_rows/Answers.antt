use Rattle.rows.proofs.Laws.Places.{round-all}
use Rattle.rows.proofs.Laws.Cells.{legal-part}
use Rattle.limits.proofs.Laws.Choice.{and-goes-on, and-stops}
use Rattle.limits.specs.Cells.{row_at, legal_row}
use mathlib.Core.Path.{refl, ◌∙◌}
use Rattle.mat.proofs.lentmat.legal_rows.Goals as goal

pub returns-then-legal_cells : goal.returns-then-legal_cells
returns-then-legal_cells c = let cells = c.args.cells.now in
    round-all _ _ _ _ c.requires.1 c.requires.2 c.saturating_sub-over.ensures (row_at cells) legal_row _ _ _
    (c.legal_cells.ensures ∙ legal-part cells c.args.from _) (c.legal_cells-then-legal_cells.ensures ∙ legal-part cells 0 _) (and-goes-on _ _ c.if-legal_cells.true)

pub returns-else-legal_cells : goal.returns-else-legal_cells
returns-else-legal_cells c = let cells = c.args.cells.now in
    round-all _ _ _ _ c.requires.1 c.requires.2 c.saturating_sub-over.ensures (row_at cells) legal_row _ _ _
    (c.legal_cells.ensures ∙ legal-part cells c.args.from _) refl (and-stops _ _ c.if-legal_cells.false)

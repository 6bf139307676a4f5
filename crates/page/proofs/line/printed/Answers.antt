use native.Mathlib.Omega.{arith}
use mathlib.Core.Path.{refl, sym, ap}
use borrow.Author.Tests.{eq-eqb, ne_eqb}
use Rattle.limits.specs.Cells.{torn}
use Rattle.limits.proofs.Laws.Cells.{whole-small}
use Rattle.limits.proofs.Laws.Choice.{pick_yes, pick_no}
use Rattle.buffers.specs.Ascii.{digit}
use Rattle.page.proofs.line.printed.Goals as goal

pub shade-requires : goal.shade-requires
shade-requires c = whole-small _ c.requires (λ e. omega arith)

pub returns-then-cell-eq-TORN : goal.returns-then-cell-eq-TORN
returns-then-cell-eq-TORN c = sym (pick_yes _ _ _ _ (eq-eqb _ torn (omega arith)) refl)

pub returns-else-cell-eq-TORN : goal.returns-else-cell-eq-TORN
returns-else-cell-eq-TORN c = sym (pick_no _ _ _ _ (ne_eqb _ torn (λ e. omega arith)) (sym (ap digit c.shade.ensures.0)))

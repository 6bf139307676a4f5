use native.Mathlib.Omega.{arith}
use mathlib.Core.Path.{sym, ◌∙◌}
use borrow.Author.Tests.{eq-eqb, ne_eqb}
use Rattle.horsefile.proofs.Laws.Walks.{gaps-turn, gaps-stop, gaps-end}
use Rattle.horsefile.proofs.contents.without_gaps.Goals as goal

pub returns-then-entry-end : goal.returns-then-entry-end
returns-then-entry-end c =
    gaps-stop _ _ c.loop-i.i c.loop-i.end _ _ c.entry_at-entry.ensures (omega arith) (ne_eqb _ _ (omega arith)) ∙ sym c.loop-i.invariant

pub loop-i-preserved : goal.loop-i-preserved
loop-i-preserved c =
    c.loop-i.invariant
    ∙ gaps-turn _ _ c.loop-i.i c.loop-i.end _ _ c.entry_at-entry.ensures (omega arith) _ (eq-eqb _ _ (omega arith)) (omega arith)

pub returns : goal.returns
returns c = gaps-end _ _ c.loop-i.i c.loop-i.end _ (omega arith) ∙ sym c.loop-i.invariant

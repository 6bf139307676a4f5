use native.Mathlib.Omega.{arith}
use mathlib.Core.Path.{sym, ◌∙◌}
use Rattle.horsefile.specs.Rules.{legal_entry}
use Rattle.limits.proofs.Laws.Parts.{all-turn, all-stop, all-end}
use Rattle.horsefile.proofs.contents.legal_entries.Goals as goal

pub returns-then-not-legal_entry : goal.returns-then-not-legal_entry
returns-then-not-legal_entry c =
    all-stop _ _ c.loop-i.i _ c.saved_at.ensures (omega arith) legal_entry (sym c.legal_entry.ensures ∙ c.if-not-legal_entry.true) ∙ sym c.loop-i.invariant

pub loop-i-preserved : goal.loop-i-preserved
loop-i-preserved c =
    c.loop-i.invariant ∙ all-turn _ _ c.loop-i.i _ c.saved_at.ensures (omega arith) legal_entry (sym c.legal_entry.ensures ∙ c.if-not-legal_entry.false)

pub returns : goal.returns
returns c = all-end _ _ c.loop-i.i legal_entry (omega arith) ∙ sym c.loop-i.invariant

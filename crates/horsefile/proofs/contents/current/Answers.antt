use native.Mathlib.Omega.{arith}
use mathlib.Core.Path.{sym, ◌∙◌}
use Rattle.limits.proofs.Laws.Choice.{pick_yes, pick_no}
use Rattle.horsefile.specs.declared.Entry.{Entry}
use Rattle.horsefile.proofs.Laws.Walks.{highest-turn, highest-end}
use Rattle.horsefile.proofs.contents.current.Goals as goal
use Rattle.horsefile.proofs.contents.current.Goals.{then-supersedes, else-supersedes}

pub loop-i-preserved : goal.loop-i-preserved
loop-i-preserved c =
    c.loop-i.invariant
    ∙ highest-turn (λ (e : Entry). e.saved) c.args.horse c.args.leg _ _ c.loop-i.i c.loop-i.best _ c.entry_at-entry.ensures (omega arith) c.if-supersedes.best
    (elim c.if-supersedes.branch [
      | then-supersedes w ↦ sym (pick_yes _ _ _ _ (sym c.supersedes.ensures ∙ w.if-supersedes.true) (sym w.best-is))
      | else-supersedes w ↦ sym (pick_no _ _ _ _ (sym c.supersedes.ensures ∙ w.if-supersedes.false) (sym w.best-is))
    ])

pub returns : goal.returns
returns c = highest-end (λ (e : Entry). e.saved) c.args.horse c.args.leg _ _ c.loop-i.i c.loop-i.best (omega arith) ∙ sym c.loop-i.invariant

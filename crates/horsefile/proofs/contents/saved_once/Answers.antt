use native.Mathlib.Omega.{arith}
use mathlib.Core.Path.{sym, ◌∙◌}
use Rattle.horsefile.proofs.Laws.Walks.{once-turn, once-stop, once-end}
use Rattle.horsefile.proofs.contents.saved_once.Goals as goal

pub returns-then-not-none_same : goal.returns-then-not-none_same
returns-then-not-none_same c =
    once-stop _ _ c.loop-i.i _ c.saved_at-saved.ensures (omega arith) (sym c.none_same.ensures ∙ c.if-not-none_same.true) ∙ sym c.loop-i.invariant

pub loop-i-preserved : goal.loop-i-preserved
loop-i-preserved c = c.loop-i.invariant ∙ once-turn _ _ c.loop-i.i _ c.saved_at-saved.ensures (omega arith) (sym c.none_same.ensures ∙ c.if-not-none_same.false)

pub returns : goal.returns
returns c = once-end _ _ c.loop-i.i (omega arith) ∙ sym c.loop-i.invariant

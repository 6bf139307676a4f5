use native.Mathlib.Omega.{arith}
use mathlib.Core.Path.{sym, ◌∙◌, ap}
use mathlib.Core.Bool.{not}
use Rattle.horsefile.specs.Rules.{same_save}
use Rattle.limits.proofs.Laws.Parts.{all-turn, all-stop, all-end}
use Rattle.horsefile.proofs.contents.none_same.Goals as goal

pub returns-then-same_save : goal.returns-then-same_save
returns-then-same_save c =
    all-stop _ _ c.loop-i.i _ c.saved_at.ensures (omega arith) (λ t. not (same_save c.args.saved.now t)) (ap not (sym c.same_save.ensures ∙ c.if-same_save.true))
    ∙ sym c.loop-i.invariant

pub loop-i-preserved : goal.loop-i-preserved
loop-i-preserved c =
    c.loop-i.invariant
    ∙ all-turn _ _ c.loop-i.i _ c.saved_at.ensures (omega arith) (λ t. not (same_save c.args.saved.now t)) (ap not (sym c.same_save.ensures ∙ c.if-same_save.false))

pub returns : goal.returns
returns c = all-end _ _ c.loop-i.i (λ t. not (same_save c.args.saved.now t)) (omega arith) ∙ sym c.loop-i.invariant

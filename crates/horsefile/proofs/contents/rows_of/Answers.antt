use Prim.Native.Nat.{◌+◌, ◌*◌}
use native.Mathlib.Omega.{arith}
use mathlib.Core.Path.{sym, ◌∙◌, ap}
use Rattle.horsefile.specs.Layout.{saved_at}
use Rattle.horsefile.proofs.Laws.Walks.{rows-turn, rows-end}
use Rattle.horsefile.proofs.contents.rows_of.Goals as goal

pub loop-i-preserved : goal.loop-i-preserved
loop-i-preserved c = (
  c.loop-i.invariant.0
      ∙ ap (c.loop-i.rows +◌) (rows-turn _ _ c.loop-i.i _ (c.saved_at.ensures ∙ ap (saved_at c.args.entries.now) {x = 6 * c.loop-i.i} {y = 0 + 6 * c.loop-i.i} (omega arith)) (omega arith))
      ∙ omega arith,
  omega arith,
)

pub returns : goal.returns
returns c = (sym (c.loop-i.invariant.0 ∙ ap (c.loop-i.rows +◌) (rows-end _ _ c.loop-i.i (omega arith)) ∙ omega arith), omega arith)

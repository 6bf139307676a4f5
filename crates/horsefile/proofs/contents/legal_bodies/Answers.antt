use Rattle.std.proofs.Common.{rules}
use native.Mathlib.Omega.{arith}
use mathlib.Core.Path.{refl, ◌∙◌, ap}
use lib.Dec.{leb}
use Prim.Native.Nat.{ℕ}
use lib.ListN.{drop, length-drop}
use lib.Seq.{take_all}
use Rattle.std.specs.declared.slice.ChunksExact.{ChunksExact}
use Rattle.limits.proofs.Laws.Cells.{max_at_most, greater}
use Rattle.horsefile.proofs.Laws.Bodies.{bodies-start, bodies-turn, bodies-end}
use Rattle.horsefile.proofs.contents.legal_bodies.Goals as goal

pub loop-cell-init : goal.loop-cell-init
loop-cell-init c =
    let l = length-drop c.args.at c.args.file.now in
    let whole = c.chunks_exact-cell-items.ensures.rest ∙ take_all _ (drop c.args.at c.args.file.now) (omega arith) in (
      bodies-start _ c.args.file.now c.args.at _ _ refl (ap (λ (i : ChunksExact ℕ). i.rest.now) c.into_iter-cell-iterator.ensures.into_iter_gives ∙ whole) (search rules),
      search rules,
    )

pub loop-cell-preserved : goal.loop-cell-preserved
loop-cell-preserved c = (
  bodies-turn _ _ _ c.loop-cell.invariant.0 c.in-Some.cell.now c.next.new.self.rest.now c.level.result _ (search rules) (search rules) (c.level.ensures ∙ search rules)
      (ap (λ k. leb k 4096) (c.max-most.ensures ∙ greater c.loop-cell.most c.level.result) ∙ max_at_most c.loop-cell.most c.level.result 4096),
  search rules,
)

pub returns : goal.returns
returns c = bodies-end _ _ _ c.loop-cell.invariant.0 (search rules)

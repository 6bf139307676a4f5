use Rattle.pad.proofs.Laws.Joined.{rows_start, rows_none, rows-turn, rows_more, rows_end}
use Rattle.rows.proofs.Laws.Cells.{length-written}
use Rattle.rows.proofs.Laws.Places.{first-place, next_place, next-below}
use Rattle.limits.specs.Cells.{row_at}
use lib.ListN.{length}
use mathlib.Core.List.{[]}
use mathlib.Core.Path.{◌≡◌, refl, ◌∙◌, ap}
use Prim.Native.Nat.{◌+◌, ◌*◌, ◌≤◌}
use native.Mathlib.Omega.{arith}
use Rattle.std.proofs.Common.{rules}
use Rattle.pad.proofs.lentpad.write_run.Goals as goal

pub loop-k-init : goal.loop-k-init
loop-k-init c = record { place = first-place _ _ c.requires.1; below = c.requires.1; same_length = refl; written = rows_start _ _; front = rows_none _ [] }

pub loop-k-preserved : goal.loop-k-preserved
loop-k-preserved c =
    let h : 16 * (c.loop-k.k + 1) ≤ length c.args.buffer.now = omega arith in
    let n : length c.load-row.result ≡ 16 = search rules in
    let q = c.load-row.ensures ∙ ap (row_at c.args.cells.now) c.loop-k.invariant.place in record {
      place = next_place _ _ _ _ _ c.loop-k.invariant.place c.after-at.ensures;
      below = next-below _ _ _ c.loop-k.invariant.below c.after-at.ensures;
      same_length = ap length c.write.ensures ∙ length-written _ _ _ ∙ c.loop-k.invariant.same_length;
      written = c.write.ensures ∙ rows-turn _ _ _ _ q n c.loop-k.invariant.front _ c.loop-k.invariant.written h;
      front = rows_more _ [] _ _ q n c.loop-k.invariant.front;
    }

pub returns : goal.returns
returns c = rows_end _ _ _ _ _ c.loop-k.invariant.written (omega arith)

use native.Mathlib.Omega.{arith}
use mathlib.Core.Path.{ap, refl, sym, ◌∙◌, ◌≡◌}
use lib.ListN.{length}
use Prim.Native.Nat.{◌+◌, ◌*◌}
use Rattle.horsefile.specs.Layout.{saved_at}
use Rattle.limits.proofs.Laws.Lists.{length-tab}
use Rattle.horsefile.proofs.Laws.Writing.{entries-start, entry-turn, entries-end}
use Rattle.horsefile.proofs.put_contents.Goals as goal

pub loop-i-init : goal.loop-i-init
loop-i-init c = (entries-start _ _ _ _ (sym (length-tab _ _)) c.bodies_at-start.ensures, refl, omega arith)

pub loop-i-preserved : goal.loop-i-preserved
loop-i-preserved c =
    let w = c.word-at.ensures in
    let l : length c.entry_bytes.result ≡ 10 = ap length c.entry_bytes.ensures in (
      entry-turn _ _ _ _ c.loop-i.i _ c.loop-i.start _ c.loop-i.invariant.0 _ (c.saved_at-saved.ensures ∙ ap (saved_at c.args.entries.now) {x = 6 * c.loop-i.i} {y = 0 + 6 * c.loop-i.i} (omega arith)) (omega arith) _ _ _ _ c.entry_bytes.ensures w (omega arith),
      w.behind ∙ omega arith,
      omega arith,
    )

pub returns : goal.returns
returns c = entries-end _ _ _ _ c.loop-i.i _ c.loop-i.start _ c.loop-i.invariant.0 (omega arith)

use Rattle.rows.proofs.Laws.Changed.{put-range}
use Rattle.rows.specs.Arrays.{pasted}
use lib.ListN.{get_or}
use mathlib.Core.Path.{◌∙◌, ap}
use native.Mathlib.Omega.{arith}
use Rattle.rows.proofs.copy.Goals as goal

pub returns : goal.returns
unfolding pasted
returns c =
    let e = c.copy_from_slice.ensures in
    put-range 0 _ _ _ _ _ (omega arith) (omega arith) (omega arith) (λ i h. ap (λ l. get_or l i 0) e.after ∙ ap (λ j. get_or c.args.words.now j 0) (omega arith))

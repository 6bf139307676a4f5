use Rattle.rows.proofs.Laws.Changed.{is-range}
use Rattle.rows.specs.Arrays.{closed}
use lib.ListN.{get_or}
use mathlib.Core.Path.{◌∙◌, ap}
use native.Mathlib.Omega.{arith}
use Rattle.rows.proofs.close.Goals as goal

pub returns : goal.returns
unfolding closed
returns c =
    let e = c.copy_within.ensures in
    is-range 0 _ _ _ _ _ e.len
    (λ i s t. e.by_index.0 i 0 s (omega arith) ∙ ap (λ j. get_or c.args.xs.now j 0) (omega arith))
    (λ i s. e.by_index.1 i 0 s)
    (λ i s. e.by_index.2 i 0 (omega arith))

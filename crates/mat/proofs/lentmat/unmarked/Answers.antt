use Rattle.rows.proofs.Laws.Places.{round-all}
use Rattle.limits.proofs.Laws.Choice.{and-goes-on, and-stops}
use lib.ListN.{get_or}
use mathlib.Core.Bool.{false, not}
use mathlib.Core.Path.{refl}
use Rattle.mat.proofs.lentmat.unmarked.Goals as goal

pub returns-then-none_set : goal.returns-then-none_set
returns-then-none_set c =
    round-all _ _ _ _ c.requires.1 c.requires.2 c.saturating_sub-over.ensures (λ i. get_or c.args.marks.now i false) not _ _ _ c.none_set.ensures c.none_set-then-none_set.ensures
    (and-goes-on _ _ c.if-none_set.true)

pub returns-else-none_set : goal.returns-else-none_set
returns-else-none_set c =
    round-all _ _ _ _ c.requires.1 c.requires.2 c.saturating_sub-over.ensures (λ i. get_or c.args.marks.now i false) not _ _ _ c.none_set.ensures refl
    (and-stops _ _ c.if-none_set.false)

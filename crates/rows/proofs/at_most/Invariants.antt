use mathlib.Core.Path.{◌≡◌}
use lib.Dec.{leb}
use lib.ListN.{get_or}
use Rattle.limits.specs.Lists.{tab, all}
use Rattle.rows.proofs.at_most.Given as goal

abbrev pub invariant-loop-x : goal.invariant-loop-x
invariant-loop-x l = l.good ≡ all (λ y. leb y l.most) (tab l.x-index (λ k. get_or l.xs k 0))

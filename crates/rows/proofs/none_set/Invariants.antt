use Prim.Native.Nat.{◌+◌}
use mathlib.Core.Bool.{false, not}
use mathlib.Core.Path.{◌≡◌}
use lib.ListN.{get_or}
use Rattle.limits.specs.Lists.{tab, all}
use Rattle.rows.proofs.none_set.Given as goal

abbrev pub invariant-loop-mark : goal.invariant-loop-mark
invariant-loop-mark l = l.good ≡ all not (tab l.mark-index (λ k. get_or l.marks (l.from + k) false))

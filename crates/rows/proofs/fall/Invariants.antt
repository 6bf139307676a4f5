use lib.ListN.{length, get_or}
use mathlib.Core.Path.{◌≡◌}
use Prim.Native.Nat.{ℕ, ◌-◌, ◌≤◌, ◌<◌}
use Rattle.rows.proofs.fall.Given as goal

abbrev pub invariant-loop-x : goal.invariant-loop-x
invariant-loop-x l =
    (length l.x-items ≡ l.n)
    × ((k : ℕ) → k < l.x-index → get_or l.x-items k 0 ≡ get_or l.fn.xs k 0 - l.d)
    × ((k : ℕ) → l.x-index ≤ k → k < l.n → get_or l.x-items k 0 ≡ get_or l.fn.xs k 0)

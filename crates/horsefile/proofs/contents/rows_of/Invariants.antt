use Prim.Native.Nat.{◌+◌, ◌*◌, ◌≤◌}
use mathlib.Core.Path.{◌≡◌}
use lib.ListN.{drop}
use Rattle.horsefile.specs.Layout.{saved_in, rows_of}
use Rattle.horsefile.proofs.contents.rows_of.Given as goal

abbrev pub invariant-loop-i : goal.invariant-loop-i
invariant-loop-i l = (rows_of (saved_in l.entries) ≡ l.rows + rows_of (drop l.i (saved_in l.entries))) × (l.rows ≤ 65535 * l.i)

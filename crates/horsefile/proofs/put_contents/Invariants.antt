use Prim.Native.Nat.{◌+◌, ◌*◌, ◌≤◌}
use mathlib.Core.Path.{◌≡◌}
use lib.ListN.{drop}
use Rattle.buffers.proofs.Laws.Buffers.{Left}
use Rattle.horsefile.specs.Layout.{saved_in, contents_bytes, placed}
use Rattle.horsefile.proofs.Laws.Writing.{bytes_of}
use Rattle.horsefile.proofs.put_contents.Given as goal

abbrev pub invariant-loop-i : goal.invariant-loop-i
invariant-loop-i l =
    Left 1 (contents_bytes (saved_in l.entries)) l.initial.out l.at (bytes_of (placed l.start (drop l.i (saved_in l.entries)))) l.out
    × (l.at ≡ 1 + 10 * l.i)
    × (l.start ≤ 641 + 2097120 * l.i)

use Rattle.limits.specs.Cells.{row_at}
use Rattle.limits.specs.Lists.{tab, joined}
use lib.ListN.{length, drop}
use mathlib.Core.List.{◌++◌}
use mathlib.Core.Path.{◌≡◌}
use Prim.Native.Nat.{◌+◌, ◌*◌, ◌%◌, ◌<◌}
use Rattle.pad.proofs.lentpad.write_run.Given as goal

abbrev pub invariant-loop-k : goal.invariant-loop-k
invariant-loop-k l = record {
  place : l.at ≡ (l.from + l.k) % l.w;
  below : l.at < l.w;
  same_length : length l.buffer ≡ length l.initial.buffer;
  written : l.buffer ≡ joined (tab l.k (λ i. row_at l.cells ((l.from + i) % l.w))) ++ drop (16 * l.k) l.initial.buffer;
  front : length (joined (tab l.k (λ i. row_at l.cells ((l.from + i) % l.w)))) ≡ 16 * l.k;
}

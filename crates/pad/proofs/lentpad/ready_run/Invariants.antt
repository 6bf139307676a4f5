use Rattle.std.proofs.Common.{◌≡◌, ℕ, ◌+◌, ◌%◌, ◌<◌, true, false, get_or, ◌&&◌}
use lib.Dec.{ltb}
use Rattle.pad.proofs.lentpad.ready_run.Given as goal

abbrev pub invariant-loop-k : goal.invariant-loop-k
invariant-loop-k l = record {
  place : l.at ≡ (l.from + l.k) % l.w;
  below : l.at < l.w;
  are_ready : (j : ℕ) → j < l.k → (get_or l.held ((l.from + j) % l.w) false && ltb 0 (get_or l.timers ((l.from + j) % l.w) 0)) ≡ true;
}

use Rattle.std.proofs.Common.{◌≡◌, ℕ, ◌+◌, ◌%◌, ◌<◌, true, false, get_or}
use Rattle.mat.proofs.lentmat.marked_run.Given as goal

abbrev pub invariant-loop-k : goal.invariant-loop-k
invariant-loop-k l = record {
  place : l.at ≡ (l.from + l.k) % l.w;
  below : l.at < l.w;
  marked : (j : ℕ) → j < l.k → get_or l.marks ((l.from + j) % l.w) false ≡ true;
}

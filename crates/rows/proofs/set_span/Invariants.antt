use Rattle.rows.specs.Arrays.{span_set}
use mathlib.Core.Path.{◌≡◌}
use Prim.Native.Nat.{◌+◌, ◌%◌, ◌<◌}
use Rattle.rows.proofs.set_span.Given as goal

abbrev pub invariant-loop : goal.invariant-loop
invariant-loop l = (l.at ≡ (l.from + l.counter) % l.w) × (l.at < l.w) × (l.marks ≡ span_set l.w l.from l.counter l.value l.initial.marks)

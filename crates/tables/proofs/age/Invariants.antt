use Prim.Native.Nat.{◌-◌}
use Rattle.tables.proofs.Laws.Words.{Gathered}
use Rattle.tables.proofs.age.Given as goal

abbrev pub invariant-loop-i : goal.invariant-loop-i
invariant-loop-i l = Gathered l.width l.d l.count l.i l.kept l.initial.words l.words

abbrev pub decreases-loop-i : goal.decreases-loop-i
decreases-loop-i l = l.count - l.i

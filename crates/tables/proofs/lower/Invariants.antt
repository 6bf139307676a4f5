use Rattle.tables.proofs.Laws.Words.{Lowering}
use Rattle.tables.proofs.lower.Given as goal

abbrev pub invariant-loop-i : goal.invariant-loop-i
invariant-loop-i l = Lowering l.width l.d l.from l.i l.initial.words l.words

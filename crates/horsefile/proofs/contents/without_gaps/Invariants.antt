use mathlib.Core.Path.{◌≡◌}
use lib.ListN.{length, drop}
use Rattle.horsefile.specs.Layout.{entries_in, bodies_at}
use Rattle.horsefile.specs.Rules.{without_gaps}
use Rattle.horsefile.proofs.contents.without_gaps.Given as goal

abbrev pub invariant-loop-i : goal.invariant-loop-i
invariant-loop-i l = without_gaps (bodies_at l.n) (entries_in l.file l.n) (length l.file) ≡ without_gaps l.end (drop l.i (entries_in l.file l.n)) (length l.file)

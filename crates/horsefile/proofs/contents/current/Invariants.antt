use mathlib.Core.Path.{◌≡◌}
use lib.ListN.{drop}
use Rattle.horsefile.specs.declared.Entry.{Entry}
use Rattle.horsefile.specs.Layout.{entries_in}
use Rattle.horsefile.specs.Rules.{highest, current}
use Rattle.horsefile.proofs.contents.current.Given as goal

abbrev pub invariant-loop-i : goal.invariant-loop-i
invariant-loop-i l = current l.horse l.leg (entries_in l.file l.n) ≡ highest (λ (e : Entry). e.saved) l.horse l.leg l.best (drop l.i (entries_in l.file l.n))

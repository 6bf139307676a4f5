use mathlib.Core.Path.{◌≡◌}
use lib.ListN.{drop}
use Rattle.horsefile.specs.Layout.{saved_from}
use Rattle.horsefile.specs.Rules.{saved_once}
use Rattle.horsefile.proofs.contents.saved_once.Given as goal

abbrev pub invariant-loop-i : goal.invariant-loop-i
invariant-loop-i l = saved_once (saved_from l.bytes l.at l.step l.n) ≡ saved_once (drop l.i (saved_from l.bytes l.at l.step l.n))

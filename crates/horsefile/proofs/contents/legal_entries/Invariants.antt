use mathlib.Core.Path.{◌≡◌}
use lib.ListN.{drop}
use Rattle.limits.specs.Lists.{all}
use Rattle.horsefile.specs.Layout.{saved_from}
use Rattle.horsefile.specs.Rules.{legal_entry}
use Rattle.horsefile.proofs.contents.legal_entries.Given as goal

abbrev pub invariant-loop-i : goal.invariant-loop-i
invariant-loop-i l = all legal_entry (saved_from l.bytes l.at l.step l.n) ≡ all legal_entry (drop l.i (saved_from l.bytes l.at l.step l.n))

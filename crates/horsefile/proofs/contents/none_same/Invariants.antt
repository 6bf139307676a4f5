use mathlib.Core.Path.{◌≡◌}
use mathlib.Core.Bool.{not}
use lib.ListN.{drop}
use Rattle.limits.specs.Lists.{all}
use Rattle.horsefile.specs.Layout.{saved_from}
use Rattle.horsefile.specs.Rules.{same_save}
use Rattle.horsefile.proofs.contents.none_same.Given as goal

abbrev pub invariant-loop-i : goal.invariant-loop-i
invariant-loop-i l =
    all (λ t. not (same_save l.saved t)) (drop l.from (saved_from l.bytes l.at l.step l.n))
    ≡ all (λ t. not (same_save l.saved t)) (drop l.i (saved_from l.bytes l.at l.step l.n))

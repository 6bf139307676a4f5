use Prim.Native.Nat.{◌*◌}
use mathlib.Core.Path.{◌∙◌, ap}
use Rattle.cfiles.proofs.Laws.Places.{place-found, place-refused}
use Rattle.cfiles.proofs.lookup.Goals as goal
use Rattle.cfiles.proofs.lookup.Goals.{in-Ok, in-Err}

pub returns : goal.returns
returns c =
    rw c.number.ensures
    (elim c.match-found.branch [
      | in-Ok w ↦ place-found _ _ _ _ _ c.find-found.ensures _ w.in-Ok.is (w.start-is ∙ w.from.ensures) (w.size-is ∙ ap (32 *◌) w.from-in-Ok.ensures)
      | in-Err w ↦ place-refused _ _ _ _ _ c.find-found.ensures _ w.in-Err.is w.start-is w.size-is
    ])

use Rattle.limits.proofs.Laws.Choice.{two}
use Rattle.limits.proofs.Laws.Promise.{changed-unsound, changed-sound, changed-refused, time-passed, time-refused}
use native.Mathlib.Omega.{arith}
use mathlib.Core.Path.{refl, sym}
use Rattle.mat.proofs.Mat.tick.Goals as goal

pub returns-then-not-is_sound : goal.returns-then-not-is_sound
returns-then-not-is_sound c = changed-unsound _ _ _ _ _ _ _ _ (sym c.if-not-is_sound.ensures) refl

pub returns-then-d-eq0 : goal.returns-then-d-eq0
returns-then-d-eq0 c =
    changed-sound _ _ _ _ _ _ _ _ _ (sym c.if-not-is_sound.ensures) (changed-refused _ _ _ _ _ _ _ _ (time-refused c.args.d (omega arith)) refl)

pub returns : goal.returns
returns c =
    let e = rw (c.tick.ensures.stays.0, c.tick.ensures.stays.1) at (c.tick.ensures.ticks (two _ _ (sym c.if-not-is_sound.ensures)).1) in
    changed-sound _ _ _ _ _ _ _ _ _ (sym c.if-not-is_sound.ensures)
    (record { answered = record { number = time-passed c.args.d (omega arith); value = refl }; left = e.1; kept = tt; stays = λ _. e.0 })

use Rattle.limits.proofs.Laws.Choice.{two}
use Rattle.mat.proofs.Laws.Sound.{numbers-at}
use Rattle.limits.proofs.Laws.Promise.{changed-unsound, changed-sound}
use mathlib.Core.Path.{refl, sym}
use Rattle.mat.proofs.Mat.acknowledge.Goals as goal

pub returns-then-not-is_sound_with : goal.returns-then-not-is_sound_with
returns-then-not-is_sound_with c = changed-unsound _ _ _ _ _ _ _ _ (sym c.if-not-is_sound_with.ensures) refl

pub acknowledge-passed-requires : goal.acknowledge-passed-requires
acknowledge-passed-requires c =
    let t = two _ _ (sym c.if-not-is_sound_with.ensures) in let u = two _ _ t.1 in (numbers-at _ _ t.0 u.0, u.1)

pub returns : goal.returns
returns c =
    changed-sound _ _ _ _ _ _ _ _ _ (sym c.if-not-is_sound_with.ensures) (rw c.acknowledge-passed.ensures.stays at (c.acknowledge-passed.ensures.acknowledges (two _ _ (two _ _ (sym c.if-not-is_sound_with.ensures)).1).0))

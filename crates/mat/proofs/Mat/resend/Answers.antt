use Rattle.limits.proofs.Laws.Choice.{two}
use Rattle.limits.proofs.Laws.Promise.{changed-unsound, changed-sound, changed-handed_on}
use Rattle.mat.proofs.Laws.Sound.{asked}
use Rattle.mat.proofs.Laws.Calls.{due-there, due-low, resend-done}
use mathlib.Core.Path.{refl, sym}
use Rattle.mat.proofs.Mat.resend.Goals as goal

pub returns-then-not-is_sound : goal.returns-then-not-is_sound
returns-then-not-is_sound c = changed-unsound _ _ _ _ _ _ _ _ (sym c.if-not-is_sound.ensures) refl

pub returns-in_err-number : goal.returns-in_err-number
returns-in_err-number c =
    changed-sound _ _ _ _ _ _ _ _ _ (sym c.if-not-is_sound.ensures) (changed-handed_on _ _ _ _ _ _ _ _ _ c.from_residual.ensures.1 c.in_err-number.ensures.number refl)

pub due-requires : goal.due-requires
due-requires c = asked _ _ (two _ _ (sym c.if-not-is_sound.ensures))

pub again-requires : goal.again-requires
again-requires c = let t = two _ _ (sym c.if-not-is_sound.ensures) in (t.0, due-low c.args.l c.args.self.now c.args.k _ c.in_ok-number.ensures t.0)

pub returns : goal.returns
returns c =
    changed-sound _ _ _ _ _ _ _ _ _ (sym c.if-not-is_sound.ensures) (rw (c.again.ensures.stays.0, c.again.ensures.stays.1) at (let e = c.in_ok-number.ensures in resend-done c.args.l c.args.self.now c.args.k _ e _ _ (c.again.ensures.resends (two _ _ (sym c.if-not-is_sound.ensures)).1 c.args.k (due-there c.args.l c.args.self.now c.args.k _ e) e.value)))

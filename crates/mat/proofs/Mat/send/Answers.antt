use Rattle.limits.proofs.Laws.Choice.{two}
use Rattle.mat.proofs.Laws.Sound.{asked}
use Rattle.limits.proofs.Laws.Promise.{changed-unsound, changed-sound, changed-handed_on}
use mathlib.Core.Path.{refl, sym}
use Rattle.mat.proofs.Mat.send.Goals as goal

pub returns-then-not-is_sound : goal.returns-then-not-is_sound
returns-then-not-is_sound c = changed-unsound _ _ _ _ _ _ _ _ (sym c.if-not-is_sound.ensures) refl

pub returns-in_err-row : goal.returns-in_err-row
returns-in_err-row c =
    changed-sound _ _ _ _ _ _ _ _ _ (sym c.if-not-is_sound.ensures) (changed-handed_on _ _ _ _ _ _ _ _ _ c.from_residual.ensures.1 c.in_err-row.ensures.number refl)

pub next_row-requires : goal.next_row-requires
next_row-requires c = let t = two _ _ (sym c.if-not-is_sound.ensures) in let n = asked _ _ t in (t.0, n.1, n.2)

pub keep-data-requires : goal.keep-data-requires
keep-data-requires c = let t = two _ _ (sym c.if-not-is_sound.ensures) in (t.0, (asked _ _ t).2)

pub returns : goal.returns
returns c =
    changed-sound _ _ _ _ _ _ _ _ _ (sym c.if-not-is_sound.ensures) (rw c.keep-data.ensures.stays at (c.keep-data.ensures.sends (two _ _ (sym c.if-not-is_sound.ensures)).1 c.args.supply.now c.in_ok-row.ensures))

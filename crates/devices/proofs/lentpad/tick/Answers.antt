use mathlib.Core.Path.{refl, sym}
use native.Mathlib.Omega.{arith}
use Rattle.limits.specs.declared.answer.Refusal.TheVariants.{BadArgument}
use Rattle.limits.proofs.Laws.Choice.{two}
use Rattle.limits.proofs.Laws.Promise.{changed-sound, changed-unsound, changed-refused, time-refused}
use Rattle.pad.specs.View.{lent_pad}
use Rattle.devices.proofs.Laws.Pads.{tick-done}
use Rattle.devices.proofs.lentpad.tick.Goals as goal

pub returns-then-not-is_sound-clause-ticks : goal.returns-then-not-is_sound-clause-ticks
returns-then-not-is_sound-clause-ticks c = changed-unsound _ _ _ _ _ _ _ _ (sym c.if-not-is_sound.ensures) refl

pub returns-then-d-eq0-clause-ticks : goal.returns-then-d-eq0-clause-ticks
returns-then-d-eq0-clause-ticks c =
    changed-sound _ _ _ _ _ _ _ _ _ (sym c.if-not-is_sound.ensures) (changed-refused _ BadArgument _ _ _ _ _ _ (time-refused c.args.d (omega arith)) refl)

pub returns-clause-ticks : goal.returns-clause-ticks
returns-clause-ticks c = let a = c.args in tick-done a.l (lent_pad a.pad.now) (sym c.if-not-is_sound.ensures) _ a.d (omega arith) (c.tick.ensures.moves (two _ _ (sym c.if-not-is_sound.ensures)).1)

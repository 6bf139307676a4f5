use Rattle.limits.specs.declared.answer.Refusal.TheVariants.{BadArgument}
use Rattle.limits.specs.Limits.{sound_limits}
use Rattle.limits.proofs.Laws.Choice.{two}
use Rattle.limits.proofs.Laws.Promise.{changed-refused, changed-sound, changed-unsound, time-passed, time-refused}
use Rattle.pad.proofs.Laws.Calls.{with-number}
use Rattle.pad.specs.Rules.{ticked}
use Rattle.pad.specs.View.{pad_state}
use mathlib.Core.Path.{sym, ◌∙◌, refl}
use native.Mathlib.Omega.{arith}
use Rattle.pad.proofs.Pad.tick.Goals as goal

pub returns-then-not-is_sound : goal.returns-then-not-is_sound
returns-then-not-is_sound c = changed-unsound _ _ _ _ _ _ _ _ (sym c.is_sound.ensures ∙ c.if-not-is_sound.true) refl

pub returns-then-d-eq0 : goal.returns-then-d-eq0
returns-then-d-eq0 c =
    changed-sound _ _ _ _ _ _ _ _ _ (sym c.is_sound.ensures ∙ c.if-not-is_sound.false)
    (changed-refused _ BadArgument _ _ _ _ _ _ (time-refused c.args.d (omega arith)) refl)

pub returns : goal.returns
unfolding pad_state ticked
returns c = let t = with-number c.args.l _ _ _ refl (c.tick.ensures.moves (two (sound_limits c.args.l) _ (sym c.is_sound.ensures ∙ c.if-not-is_sound.false)).1) in
    changed-sound _ _ _ _ _ _ _ _ _ (sym c.is_sound.ensures ∙ c.if-not-is_sound.false)
    (record {
      answered = record { number = time-passed c.args.d (omega arith); value = refl };
      left = t.1;
      kept = tt;
      stays = λ _. t.0;
    })

use Rattle.limits.specs.Limits.{sound_limits}
use Rattle.limits.proofs.Laws.Choice.{two}
use Rattle.limits.proofs.Laws.Promise.{answered-as, sound-first, unsound-first}
use Rattle.pad.specs.Rules.{run_questions}
use Rattle.pad.specs.View.{pad_state}
use Rattle.pad.proofs.Laws.Run.{asked}
use mathlib.Core.Path.{sym, ◌∙◌}
use Rattle.pad.proofs.Pad.run_length.Goals as goal

pub returns-then-not-is_sound : goal.returns-then-not-is_sound
returns-then-not-is_sound c = record { number = unsound-first (run_questions (pad_state c.args.l.window c.args.self.now)) _ (sym c.is_sound.ensures ∙ c.if-not-is_sound.true); value = tt }

pub run_length-requires : goal.run_length-requires
run_length-requires c = let a = asked _ c.args.self.now (two (sound_limits c.args.l) _ (sym c.is_sound.ensures ∙ c.if-not-is_sound.false)) in (a.0, a.1)

pub returns : goal.returns
returns c = answered-as _ _ _ _ (sym (sound-first (run_questions (pad_state c.args.l.window c.args.self.now)) _ (sym c.is_sound.ensures ∙ c.if-not-is_sound.false))) (c.run_length.ensures c.args.self.now.cells)

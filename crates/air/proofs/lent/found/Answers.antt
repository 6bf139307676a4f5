use mathlib.Core.Path.{refl, sym, ◌∙◌}
use Rattle.limits.proofs.Laws.Promise.{sound-first, unsound-first}
use Rattle.air.specs.Rules.{place_questions}
use Rattle.air.specs.Forms.{messages_of}
use Rattle.air.proofs.Laws.Sound.{place-passed, place-refused}
use Rattle.air.proofs.Laws.Forms.{length-messages}
use Rattle.air.proofs.lent.found.Goals as goal

pub returns-then-not-is_sound : goal.returns-then-not-is_sound
returns-then-not-is_sound g c =
    record {
      number = unsound-first (place_questions c.args.p (messages_of g.M.Carried.form c.args.count c.args.words.now)) _ (sym c.is_sound.ensures ∙ c.if-not-is_sound.true);
      value = tt;
    }

pub returns-then-p-count : goal.returns-then-p-count
returns-then-p-count g c =
    let form = g.M.Carried.form in let ms = messages_of form c.args.count c.args.words.now in
    record {
      number =
          place-passed ms c.args.count (length-messages form c.args.count c.args.words.now) c.args.p c.if-p-count.true
          ∙ sym (sound-first (place_questions c.args.p ms) _ (sym c.is_sound.ensures ∙ c.if-not-is_sound.false));
      value = refl;
    }

pub returns-else-p-count : goal.returns-else-p-count
returns-else-p-count g c =
    let form = g.M.Carried.form in let ms = messages_of form c.args.count c.args.words.now in
    record {
      number =
          place-refused ms c.args.count (length-messages form c.args.count c.args.words.now) c.args.p c.if-p-count.false
          ∙ sym (sound-first (place_questions c.args.p ms) _ (sym c.is_sound.ensures ∙ c.if-not-is_sound.false));
      value = tt;
    }

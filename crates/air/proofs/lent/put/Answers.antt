use mathlib.Core.Path.{refl, sym, ◌∙◌}
use lib.ListN.{length}
use borrow.Author.Tests.{ltb-true, ltb-false}
use Rattle.limits.specs.Limits.{sound_limits}
use Rattle.limits.specs.declared.answer.Refusal.TheVariants.{Unsound}
use Rattle.limits.proofs.Laws.Choice.{and_left, and_right, three}
use Rattle.limits.proofs.Laws.Promise.{sound-first, unsound-first, changed-refused}
use Rattle.air.specs.Rules.{room_questions, sound_message}
use Rattle.air.specs.Forms.{sound_of, messages_of, sound_table}
use Rattle.air.proofs.Laws.Sound.{room-passed, room-refused}
use Rattle.air.proofs.Laws.Forms.{length-messages, word_fits, put_holds}
use Rattle.air.proofs.Laws.Tables.{changed-done}
use Rattle.air.proofs.lent.put.Goals as goal

pub returns-then-not-is_sound_with : goal.returns-then-not-is_sound_with
returns-then-not-is_sound_with g c = λ n.
    changed-refused _ Unsound _ _ _ _ _ _
    (unsound-first (room_questions g.M.Carried.form.full (messages_of g.M.Carried.form c.args.count.now c.args.words.now)) _ (sym c.is_sound_with.ensures ∙ c.if-not-is_sound_with.true))
    refl

pub returns-then-not-room : goal.returns-then-not-room
returns-then-not-room g c = λ n.
    let form = g.M.Carried.form in let ms = messages_of form c.args.count.now c.args.words.now in
    changed-refused _ c.full.result _ _ _ _ _ _
    (c.full.ensures
    ∙ room-refused ms c.args.count.now (length-messages form c.args.count.now c.args.words.now) form.full (ltb-false c.args.count.now 32 (sym c.if-not-room.ensures))
    ∙ sym (sound-first (room_questions form.full ms) _ (sym c.is_sound_with.ensures ∙ c.if-not-is_sound_with.false)))
    refl

pub write-requires : goal.write-requires
unfolding sound_message
write-requires g c =
    let form = g.M.Carried.form in
    let s = sym c.is_sound_with.ensures ∙ c.if-not-is_sound_with.false in
    let asked = three (sound_limits c.args.l) (sound_table form c.args.l c.args.count.now c.args.words.now) (sound_of form c.args.l c.args.message) s in (
      g.met.M.Carried.laws.sound_fits c.args.l c.args.message.body (and_left (sound_limits c.args.l) _ s) (and_right _ (form.sound c.args.l c.args.message.body) asked.2),
      word_fits form.width c.args.count.now (length c.args.words.now) (ltb-true c.args.count.now 32 (sym c.if-not-room.ensures)) c.requires,
    )

pub returns : goal.returns
returns g c = λ n.
    let form = g.M.Carried.form in let count = c.args.count.now in let words = c.args.words.now in
    let s = sym c.is_sound_with.ensures ∙ c.if-not-is_sound_with.false in
    let asked = three (sound_limits c.args.l) (sound_table form c.args.l count words) (sound_of form c.args.l c.args.message) s in
    let room = ltb-true count 32 (sym c.if-not-room.ensures) in
    let h = put_holds form c.args.l count words c.write.new.words asked.1 c.args.message c.write.ensures asked.2 room in
    changed-done _ _ _ _ _ _
    (sound-first (room_questions form.full (messages_of form count words)) _ s
    ∙ sym (room-passed (messages_of form count words) count (length-messages form count words) form.full room))
    h.1 h.0

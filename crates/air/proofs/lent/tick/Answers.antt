use mathlib.Core.Path.{◌≡◌, refl, sym, ◌∙◌}
use native.Mathlib.Omega.{arith}
use lib.ListN.{length}
use Rattle.limits.specs.Questions.{time_questions}
use Rattle.limits.specs.Limits.{sound_limits}
use Rattle.limits.specs.declared.answer.Refusal.TheVariants.{Unsound, BadArgument}
use Rattle.limits.proofs.Laws.Choice.{and_right}
use Rattle.limits.proofs.Laws.Promise.{sound-first, unsound-first, time-passed, time-refused, changed-refused}
use Rattle.air.proofs.Laws.Forms.{words-fit, count-few, age-holds}
use Rattle.air.proofs.Laws.Tables.{changed-done}
use Rattle.air.proofs.lent.tick.Goals as goal

pub returns-then-not-is_sound : goal.returns-then-not-is_sound
returns-then-not-is_sound g c = λ n.
    changed-refused _ Unsound _ _ _ _ _ _ (unsound-first (time_questions c.args.d) _ (sym c.is_sound.ensures ∙ c.if-not-is_sound.true)) refl

pub returns-then-d-eq0 : goal.returns-then-d-eq0
returns-then-d-eq0 g c = λ n.
    changed-refused _ BadArgument _ _ _ _ _ _
    (time-refused c.args.d (let h = c.if-d-eq0.true in omega arith) ∙ sym (sound-first (time_questions c.args.d) _ (sym c.is_sound.ensures ∙ c.if-not-is_sound.false)))
    refl

pub age-requires : goal.age-requires
age-requires g c =
    let form = g.M.Carried.form in let count = c.args.count.now in let words = c.args.words.now in
    let is : c.WIDTH.result ≡ form.width = c.WIDTH.ensures ∙ g.met.M.Carried.width_is in
    let few = count-few form count words c.args.l (and_right (sound_limits c.args.l) _ (sym c.is_sound.ensures ∙ c.if-not-is_sound.false)) in
    rw is (g.met.M.Carried.laws.some, words-fit form.width count (length words) few c.requires)

pub returns : goal.returns
returns g c = λ n.
    let s = sym c.is_sound.ensures ∙ c.if-not-is_sound.false in
    let k = age-holds g.M.Carried.form c.args.l c.args.count.now c.args.words.now _ (and_right (sound_limits c.args.l) _ s) c.WIDTH.result c.args.d _
    (c.WIDTH.ensures ∙ g.met.M.Carried.width_is) c.age.ensures in
    changed-done _ _ _ _ _ _
    (sound-first (time_questions c.args.d) _ s ∙ sym (time-passed c.args.d (let k = c.if-d-eq0.false in omega arith)))
    k.1 k.0

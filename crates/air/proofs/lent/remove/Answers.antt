use mathlib.Core.Path.{◌≡◌, sym, ◌∙◌, ap}
use native.Mathlib.Omega.{arith}
use lib.ListN.{length}
use Rattle.limits.specs.Answer.{number_of}
use Rattle.air.proofs.Laws.Forms.{words-fit, remove-holds}
use Rattle.air.proofs.Laws.Tables.{changed-done, there}
use Rattle.air.proofs.lent.remove.Goals as goal

pub remove-requires : goal.remove-requires
remove-requires g c =
    let form = g.M.Carried.form in let count = c.args.count.now in let words = c.args.words.now in
    let is : c.WIDTH.result ≡ form.width = c.WIDTH.ensures ∙ g.met.M.Carried.width_is in
    let h = there form c.args.l count words c.args.p (sym c.found.ensures.number ∙ ap number_of c.in_ok-found.was) in
    rw is (g.met.M.Carried.laws.some, h.below, words-fit form.width count (length words) h.few c.requires)

pub overflow_sub-count : goal.overflow_sub-count
overflow_sub-count g c =
    let h = there g.M.Carried.form c.args.l c.args.count.now c.args.words.now c.args.p (sym c.found.ensures.number ∙ ap number_of c.in_ok-found.was) in
    let b = h.below in omega arith

pub returns : goal.returns
returns g c = λ n.
    let form = g.M.Carried.form in let count = c.args.count.now in let words = c.args.words.now in
    let none = sym c.found.ensures.number ∙ ap number_of c.in_ok-found.was in
    let h = there form c.args.l count words c.args.p none in
    let k = remove-holds form c.args.l count words _ h.sound c.WIDTH.result c.args.p (c.WIDTH.ensures ∙ g.met.M.Carried.width_is) c.remove.ensures in
    changed-done _ _ _ _ _ _ none k.1 k.0

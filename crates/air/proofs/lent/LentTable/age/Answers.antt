use mathlib.Core.Path.{◌∙◌}
use native.Mathlib.Omega.{arith}
use Rattle.air.proofs.Laws.Forms.{age-holds, age-counts}
use Rattle.air.proofs.lent.LentTable.age.Goals as goal

pub whole_as_slice-age : goal.whole_as_slice-age
whole_as_slice-age g c = g.M.Roomy.slice

pub returns-clause-aged : goal.returns-clause-aged
returns-clause-aged g c = λ l s. let t = c.args.self.now in
    age-holds g.M.Carried.form l t.count t.words.now _ s c.WIDTH.result c.args.d _ (c.WIDTH.ensures ∙ g.met.M.Carried.width_is) c.age-self.ensures

pub overflow_sub-result : goal.overflow_sub-result
overflow_sub-result g c = let t = c.args.self.now in
    let n = age-counts g.M.Carried.form t.count t.words.now _ c.WIDTH.result c.args.d _ (c.WIDTH.ensures ∙ g.met.M.Carried.width_is) c.age-self.ensures in omega arith

pub returns-clause-expired : goal.returns-clause-expired
returns-clause-expired g c = let t = c.args.self.now in
    let n = age-counts g.M.Carried.form t.count t.words.now _ c.WIDTH.result c.args.d _ (c.WIDTH.ensures ∙ g.met.M.Carried.width_is) c.age-self.ensures in omega arith

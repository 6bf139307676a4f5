use mathlib.Core.Path.{◌∙◌}
use Rattle.air.proofs.Laws.Forms.{remove-holds}
use Rattle.air.proofs.lent.LentTable.remove.Goals as goal

pub whole_as_slice-remove : goal.whole_as_slice-remove
whole_as_slice-remove g c = g.M.Roomy.slice

pub returns-clause-removed : goal.returns-clause-removed
returns-clause-removed g c = λ l s. let t = c.args.self.now in
    remove-holds g.M.Carried.form l t.count t.words.now _ s c.WIDTH.result c.args.p (c.WIDTH.ensures ∙ g.met.M.Carried.width_is) c.remove.ensures

use Rattle.air.proofs.Laws.Forms.{put_holds, full-sound}
use Rattle.air.proofs.lent.LentTable.put.Goals as goal

pub whole_as_slice-write : goal.whole_as_slice-write
whole_as_slice-write g c = g.M.Roomy.slice

pub returns-clause-put : goal.returns-clause-put
returns-clause-put g c = λ s q. let t = c.args.self.now in
    put_holds g.M.Carried.form c.args.l t.count t.words.now _ s _ (rw c.longest.ensures at c.write.ensures) (full-sound g.M.Carried.form g.met.M.Carried.laws c.args.l c.args.body c.requires.0 q) c.requires.1

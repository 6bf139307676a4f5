use Rattle.mat.proofs.lentmat.LentMat.due.Goals as goal

pub returns : goal.returns
returns c = c.due.ensures c.args.self.now.cells.now

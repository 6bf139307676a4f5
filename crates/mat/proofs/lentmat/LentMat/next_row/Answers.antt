use Rattle.mat.proofs.lentmat.LentMat.next_row.Goals as goal

pub returns : goal.returns
returns c = let m = c.args.self.now in c.next_row.ensures m.marks.now m.timers.now m.cells.now

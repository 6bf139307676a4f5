use Rattle.mat.specs.View.{lent_mat}
use Rattle.mat.proofs.Laws.Tick.{fell-shown, fell-sound}
use Rattle.mat.proofs.Laws.Sound.{facts}
use Rattle.mat.proofs.lentmat.LentMat.tick.Goals as goal

pub returns-clause-ticks : goal.returns-clause-ticks
returns-clause-ticks c = λ s. let m = lent_mat c.args.self.now in let f = facts _ m c.requires s in
    (fell-sound _ m c.args.d f _ c.fall.ensures, fell-shown _ m _ f _ c.fall.ensures)

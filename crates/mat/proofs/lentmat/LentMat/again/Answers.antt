use Rattle.mat.specs.View.{lent_mat}
use Rattle.mat.proofs.Laws.Resend.{timed-sound, timed-shown}
use Rattle.mat.proofs.Laws.Sound.{facts}
use lib.ListN.{length}
use mathlib.Core.Path.{◌≡◌, refl}
use Rattle.std.proofs.Common.{rules}
use Rattle.mat.proofs.lentmat.LentMat.again.Goals as goal

pub returns-clause-resends : goal.returns-clause-resends
returns-clause-resends c = λ s k h e. let m = lent_mat c.args.self.now in
    let f = facts _ m c.requires.0 s in
    let t : length m.timers ≡ 32 = search rules in
    let p = c.slot-at.ensures in
    (timed-sound _ m _ _ _ f h t e p _ _ refl c.load-row.ensures, timed-shown _ m _ _ _ f h t e p _ _ refl c.load-row.ensures)

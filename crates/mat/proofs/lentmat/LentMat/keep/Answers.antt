use Rattle.mat.specs.View.{lent_mat}
use Rattle.mat.proofs.Laws.Calls.{next_fits, next-legal, send-done}
use Rattle.mat.proofs.Laws.Send.{kept-sound, kept-shown}
use Rattle.mat.proofs.Laws.Sound.{facts}
use Rattle.limits.proofs.Laws.Good.{good}
use lib.ListN.{length}
use mathlib.Core.Path.{◌≡◌, refl}
use native.Mathlib.Omega.{arith}
use Rattle.std.proofs.Common.{rules}
use Rattle.mat.proofs.lentmat.LentMat.keep.Goals as goal

pub slot-at-requires : goal.slot-at-requires
slot-at-requires c = omega (arith, good _ c.requires.0, c.requires.1)

pub forward-self-requires : goal.forward-self-requires
forward-self-requires c = omega (arith, good _ c.requires.0, c.requires.1)

pub returns-clause-sends : goal.returns-clause-sends
returns-clause-sends c = λ s supply e. let m = lent_mat c.args.self.now in
    let f = facts _ m c.requires.0 s in
    let fits = next_fits c.args.l m _ _ e in
    let legal = next-legal c.args.l m _ _ e in
    let t : length m.timers ≡ 32 = search rules in
    let k : length m.cells ≡ 512 = search rules in
    let r : length c.args.row ≡ 16 = search rules in
    let a = c.slot-at.ensures in
    send-done c.args.l m _ _ e _ (kept-sound _ m _ f fits t k r _ _ _ _ a c.forward-self.ensures refl c.write.ensures legal) (kept-shown _ m _ f fits t k r _ _ _ _ a c.forward-self.ensures refl c.write.ensures)

use Rattle.limits.proofs.Laws.Good.{good}
use Rattle.pad.proofs.Laws.Arriving.{row-held, stored}
use Rattle.pad.proofs.Laws.Slots.{Sized}
use Rattle.pad.proofs.Laws.Sound.{facts}
use Rattle.pad.specs.declared.Pad.{Pad}
use Rattle.pad.specs.View.{pad_of, lent_pad}
use lib.ListN.{length, set}
use mathlib.Core.Bool.{true}
use mathlib.Core.Path.{◌≡◌}
use native.Mathlib.Omega.{arith}
use Rattle.std.proofs.Common.{rules}
use Rattle.pad.proofs.lentpad.LentPad.hold.Goals as goal

pub slot-at-requires : goal.slot-at-requires
slot-at-requires c = let g = good _ c.requires.0 in (omega arith, c.requires.1)

pub returns-clause-moves : goal.returns-clause-moves
returns-clause-moves c = λ s legal near. let l = c.args.l in let x = c.args.«data» in let at = c.slot-at in
    let n : length x.row ≡ 16 = search rules in
    let p = lent_pad c.args.self.now in
    let z : Sized p = record { held = search rules; timers = search rules; cells = search rules } in
    let after : Pad = pad_of p.wanted (set p.held at.result true) (set p.timers at.result l.replywait) c.write.new.cells in
    let e : after ≡ stored p at.result l.replywait x.row = rw c.write.ensures in
    row-held l p _ _ _ (good l c.requires.0) (facts l p s) z c.requires.1 n at.ensures after e legal near

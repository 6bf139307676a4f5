use Rattle.pad.proofs.Laws.Passing.{passed, run-recorded}
use Rattle.pad.proofs.Laws.Run.{known}
use Rattle.pad.specs.declared.Pad.{Pad}
use Rattle.pad.specs.View.{pad_of, lent_pad}
use mathlib.Core.Path.{◌≡◌}
use native.Mathlib.Omega.{arith}
use Rattle.pad.proofs.lentpad.LentPad.record_run.Goals as goal

pub returns-clause-moves : goal.returns-clause-moves
returns-clause-moves c = λ s n. let l = c.args.l in let from = c.slot-from in
    let p = lent_pad c.args.self.now in
    let k = known l p c.requires.0 s in
    let after : Pad = pad_of c.forward-self.result c.set_span.new.marks p.timers p.cells in
    let e : after ≡ passed l p from.result c.args.count = rw (c.forward-self.ensures, c.set_span.ensures) in
    run-recorded l p _ _ k.good from.ensures (omega (arith, k.run-low, n)) after e _ _ _ c.forward.ensures c.write_run.ensures s n

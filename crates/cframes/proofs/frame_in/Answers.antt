use native.Mathlib.Omega.{arith}
use Rattle.cframes.proofs.Laws.Frames.{data-made, reply-made, no_kind}
use Rattle.cframes.proofs.frame_in.Goals as goal

pub returns-in-1 : goal.returns-in-1
returns-in-1 c =
    let made = data-made c.args.head.now c.args.cells.now c.in-1.is in
    let a = c.from.ensures in let b = c.from-in-1.ensures in
    record { number = made.0; value = rw (a, b) made.1 }

pub returns-in-2 : goal.returns-in-2
returns-in-2 c =
    let made = reply-made c.args.head.now c.args.cells.now c.in-2.is in
    let a = c.from-in-2.ensures in let b = c.from-in-2-2.ensures in let d = c.from-in-2-3.ensures in
    record { number = made.0; value = rw (a, b, d) made.1 }

pub returns-in_default : goal.returns-in_default
returns-in_default c = record { number = no_kind c.args.head.now c.args.cells.now (λ e. omega arith) (λ e. omega arith); value = tt }

use native.Mathlib.Omega.{arith}
use mathlib.Core.Path.{sym, ap}
use Prim.Native.Nat.{◌*◌}
use Rattle.buffers.proofs.Laws.Writing.{write-done}
use Rattle.page.proofs.Laws.Page.{on_fits, passed, page-rows-legal, page-done}
use Rattle.page.proofs.page.Goals as goal

pub overflow_mul-p : goal.overflow_mul-p
overflow_mul-p c =
    let q = passed _ _ _ (sym c.in_ok-n.ensures.number) in
    let f = on_fits _ _ _ c.in_ok-n.ensures.value (omega (arith, c.in_ok-n.ensures.value)) in
    omega arith

pub lines-requires : goal.lines-requires
lines-requires c =
    let q = passed _ _ _ (sym c.in_ok-n.ensures.number) in
    let f = on_fits _ _ _ c.in_ok-n.ensures.value (omega (arith, c.in_ok-n.ensures.value)) in
    (omega (arith, c.in_ok-n.ensures.value), omega arith, page-rows-legal _ _ _ q.legal c.in_ok-n.ensures.value)

pub overflow_mul-result : goal.overflow_mul-result
overflow_mul-result c =
    let q = passed _ _ _ (sym c.in_ok-n.ensures.number) in
    omega (arith, c.in_ok-n.ensures.value)

pub returns : goal.returns
returns c =
    let on = c.in_ok-n.ensures.value in
    write-done _ _ _ _ _ c.in_ok-n.ensures.number (ap (23 *◌) on) (page-done _ _ _ _ _ (passed _ _ _ (sym c.in_ok-n.ensures.number)) on c.lines.ensures)

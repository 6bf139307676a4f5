use Prim.Native.Nat.{◌/◌}
use native.Mathlib.Omega.{arith}
use lib.ListN.{length, length-set}
use mathlib.Core.Path.{sym}
use Rattle.buffers.proofs.Laws.Writing.{write-done}
use Rattle.limits.proofs.Laws.Lists.{length-tab}
use Rattle.horsefile.proofs.Laws.Asked.{write-passed}
use Rattle.horsefile.proofs.Laws.Writing.{file-written}
use Rattle.horsefile.proofs.write.Goals as goal

pub overflow_cast-out : goal.overflow_cast-out
overflow_cast-out c = let w = write-passed c.args.entries.now c.args.rows.now _ (sym c.in_ok-size.ensures.number) in omega (arith, w.few)

pub bounds-out-0 : goal.bounds-out-0
bounds-out-0 c =
    let w = write-passed c.args.entries.now c.args.rows.now _ (sym c.in_ok-size.ensures.number) in
    let r = w.room_for in
    omega arith

pub put_contents-requires : goal.put_contents-requires
put_contents-requires c =
    let w = write-passed c.args.entries.now c.args.rows.now _ (sym c.in_ok-size.ensures.number) in
    let r = w.room_for in
    (w.few, simp length-set (omega arith))

pub bodies_at-requires : goal.bodies_at-requires
bodies_at-requires c = (write-passed c.args.entries.now c.args.rows.now _ (sym c.in_ok-size.ensures.number)).few

pub cells-requires : goal.cells-requires
cells-requires c =
    let w = write-passed c.args.entries.now c.args.rows.now _ (sym c.in_ok-size.ensures.number) in
    let r = w.room_for in
    let l = length-set c.args.out.now 0 (length c.args.entries.now / 6) in
    omega (arith, c.put_contents.auto.out)

pub returns : goal.returns
returns c =
    let w = write-passed c.args.entries.now c.args.rows.now _ (sym c.in_ok-size.ensures.number) in
    write-done _ _ _ _ _ c.in_ok-size.ensures.number c.in_ok-size.ensures.value
    (file-written _ _ _ c.args.rows.now c.args.out.now _ _ (sym (length-tab _ _)) c.bodies_at.ensures (let r = w.room_for in omega arith) w.counted c.put_contents.ensures c.cells.ensures)

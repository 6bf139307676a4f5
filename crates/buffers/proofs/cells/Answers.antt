use Rattle.std.proofs.Common.{rules, arith, ◌≡◌, ◌/◌, ◌%◌, get_or}
use Rattle.buffers.proofs.Laws.Bytes.{cell-turn, cells-put}
use Rattle.buffers.proofs.cells.Goals as goal

pub loop-i-preserved : goal.loop-i-preserved
loop-i-preserved c =
    let high : get_or c.args.cells.now c.loop-i.i 0 / 256 % 256 ≡ get_or c.args.cells.now c.loop-i.i 0 / 256 = omega arith in
    rw (c.to_le_bytes.ensures, high) (cell-turn c.args.buffer.now c.args.cells.now c.loop-i.buffer c.args.at c.loop-i.i c.loop-i.invariant (omega arith) (omega arith))

pub returns : goal.returns
returns c = cells-put c.args.buffer.now c.args.cells.now _ c.args.at c.loop-i.i c.loop-i.invariant (search rules)

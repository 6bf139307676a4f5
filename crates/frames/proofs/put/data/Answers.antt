use mathlib.Core.Path.{◌∙◌}
use native.Mathlib.Omega.{arith}
use lib.ListN.{length-set}
use Rattle.std.proofs.Common.{rules}
use Rattle.buffers.proofs.Laws.Bytes.{length-cells}
use Rattle.frames.proofs.Laws.Writing.{data-put}
use Rattle.frames.proofs.Laws.Values.{data-fits}
use Rattle.frames.proofs.put.data.Goals as goal

pub overflow_cast-buffer : goal.overflow_cast-buffer
overflow_cast-buffer c = let f = data-fits c.args.f.now c.requires.0 in omega arith

pub bounds-buffer-1 : goal.bounds-buffer-1
bounds-buffer-1 c = simp length-set (omega arith)

pub overflow_cast-buffer-2 : goal.overflow_cast-buffer-2
overflow_cast-buffer-2 c = let f = data-fits c.args.f.now c.requires.0 in omega arith

pub bounds-buffer-2 : goal.bounds-buffer-2
bounds-buffer-2 c = simp length-set (omega arith)

pub overflow_cast-buffer-3 : goal.overflow_cast-buffer-3
overflow_cast-buffer-3 c = let f = data-fits c.args.f.now c.requires.0 in omega arith

pub bounds-buffer-3 : goal.bounds-buffer-3
bounds-buffer-3 c = simp length-set (omega arith)

pub returns : goal.returns
returns c =
    let n = length-cells c.args.f.now.data.row in
    c.cells.ensures ∙ data-put c.args.buffer.now _ _ _ _ _ (omega arith) (search rules)

use mathlib.Core.Path.{refl}
use Rattle.std.proofs.lemmas.Result.{err_from_is_err_and}
use Rattle.buffers.proofs.Laws.Writing.{write-refused}
use Rattle.cframes.proofs.Laws.Frames.{kind-refused, frame-written}
use Rattle.cframes.proofs.written.Goals as goal

pub returns-in_err-frame : goal.returns-in_err-frame
returns-in_err-frame c =
    let p = err_from_is_err_and c.from_residual.result c.from_residual.ensures.1 in
    rw (p.1, p.2) (write-refused _ _ _ _ _ (kind-refused c.args.head.now c.args.cells.now _ _ c.in_err-frame.ensures.number) refl)

pub returns : goal.returns
returns c = frame-written _ _ _ _ _ _ c.in_ok-frame.ensures.number c.in_ok-frame.ensures.value c.write.ensures

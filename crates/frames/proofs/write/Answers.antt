use native.Mathlib.Omega.{arith}
use mathlib.Core.Path.{refl, sym, ◌∙◌, ap}
use Rattle.std.proofs.lemmas.Result.{err_from_is_err_and}
use Rattle.limits.proofs.Laws.Promise.{refusal-not-0}
use Rattle.buffers.proofs.Laws.Writing.{write-done, write-refused}
use Rattle.frames.specs.Layout.{frame_into}
use Rattle.frames.proofs.Laws.Writing.{write-stays, write-fails, write-passes}
use Rattle.frames.proofs.write.Goals as goal

pub returns-in_err-value_answer : goal.returns-in_err-value_answer
returns-in_err-value_answer c =
    let p = err_from_is_err_and c.from_residual.result c.from_residual.ensures.1 in
    rw (p.1, p.2)
    (write-refused _ _ _ _ _ (write-stays c.args.frame.now c.args.buffer.now _ c.in_err-value_answer.ensures (refusal-not-0 _)) refl)

pub returns-then-buffer-size : goal.returns-then-buffer-size
returns-then-buffer-size c = write-refused _ _ _ _ _ (write-fails _ _ c.in_ok-value_answer.ensures (omega arith)) refl

pub returns-in-Data : goal.returns-in-Data
returns-in-Data c =
    write-done _ _ _ _ _ (write-passes _ _ c.in_ok-value_answer.ensures (omega arith)) c.size_of-size.ensures
    (c.data.ensures ∙ sym (ap (λ f. frame_into f c.args.buffer.now) c.in-Data.is))

pub returns-in-Reply : goal.returns-in-Reply
returns-in-Reply c =
    write-done _ _ _ _ _ (write-passes _ _ c.in_ok-value_answer.ensures (omega arith)) c.size_of-size.ensures
    (c.reply.ensures ∙ sym (ap (λ f. frame_into f c.args.buffer.now) c.in-Reply.is))

use mathlib.Core.Path.{refl, sym}
use Rattle.frames.proofs.Laws.Values.{data-stays, data-passes, data-fails}
use Rattle.std.proofs.lemmas.Result.{err_from_is_err_and}
use Rattle.limits.proofs.Laws.Promise.{refusal-not-0}
use Rattle.frames.proofs.data_answer.Goals as goal

pub returns-in_err-frame_answer : goal.returns-in_err-frame_answer
returns-in_err-frame_answer c = let p = err_from_is_err_and c.from_residual.result c.from_residual.ensures.1 in rw (p.1, p.2) (data-stays c.args.f.now _ c.in_err-frame_answer.ensures (refusal-not-0 _))

pub returns-then-not-legal_row : goal.returns-then-not-legal_row
returns-then-not-legal_row c = data-fails c.args.f.now _ c.in_ok-frame_answer.ensures refl (sym c.if-not-legal_row.ensures)

pub returns : goal.returns
returns c = data-passes c.args.f.now _ c.in_ok-frame_answer.ensures refl (sym c.if-not-legal_row.ensures)

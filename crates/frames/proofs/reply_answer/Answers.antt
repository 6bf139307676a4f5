use native.Mathlib.Omega.{arith}
use mathlib.Core.Path.{refl, sym}
use Rattle.frames.proofs.Laws.Values.{reply-stays, reply-passes, reply-fails, fits}
use Rattle.std.proofs.lemmas.Result.{err_from_is_err_and}
use Rattle.limits.proofs.Laws.Promise.{refusal-not-0}
use Rattle.frames.proofs.reply_answer.Goals as goal

pub returns-in_err-frame_answer : goal.returns-in_err-frame_answer
returns-in_err-frame_answer c = let p = err_from_is_err_and c.from_residual.result c.from_residual.ensures.1 in rw (p.1, p.2) (reply-stays c.args.f.now _ c.in_err-frame_answer.ensures (refusal-not-0 _))

pub overflow_mul-f : goal.overflow_mul-f
overflow_mul-f c = let g = c.args.f.now in let f = fits g.window g.reply.first g.reply.last g.life (sym c.in_ok-frame_answer.ensures) in omega arith

pub gap-requires : goal.gap-requires
gap-requires c = let g = c.args.f.now in let f = fits g.window g.reply.first g.reply.last g.life (sym c.in_ok-frame_answer.ensures) in omega arith

pub returns-then-gap-f : goal.returns-then-gap-f
returns-then-gap-f c = let e = c.gap.ensures in reply-fails c.args.f.now _ c.in_ok-frame_answer.ensures refl (omega arith)

pub returns : goal.returns
returns c = let e = c.gap.ensures in reply-passes c.args.f.now _ c.in_ok-frame_answer.ensures refl (omega arith)

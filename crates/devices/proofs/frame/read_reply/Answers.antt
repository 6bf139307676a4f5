use mathlib.Core.Path.{sym, ◌∙◌, ap}
use Rattle.std.proofs.lemmas.Result.{err_from_is_err_and}
use Rattle.limits.proofs.Laws.Promise.{refusal-not-0}
use Rattle.frames.specs.declared.ReplyFrame.{ReplyFrame}
use Rattle.frames.specs.Layout.{is_reply}
use Rattle.devices.proofs.Laws.Frames.{read-refused, other-kind, other-window, received, read-data, read-reply, no-reply, then-reply}
use Rattle.devices.proofs.frame.read_reply.Goals as goal

pub returns-in_err-f : goal.returns-in_err-f
returns-in_err-f c =
    let b = c.args.bytes.now in
    let p = err_from_is_err_and c.from_residual.result c.from_residual.ensures.1 in
    rw (p.1, p.2)
    (record { number = read-refused c.args.l b (is_reply b) _ c.in_err-f.ensures.number (refusal-not-0 _); value = tt })

pub returns-in_default : goal.returns-in_default
returns-in_default c = let b = c.args.bytes.now in let e = c.in_ok-f.ensures in
    let k = read-data c.args.l b c.in_default.field-0 (sym c.in_default.is ∙ e.value) in
    record { number = other-kind c.args.l b (is_reply b) e.number (no-reply c.args.l b k.0); value = tt }

pub returns-then-f-l : goal.returns-then-f-l
returns-then-f-l c = let b = c.args.bytes.now in let e = c.in_ok-f.ensures in
    let k = read-reply c.args.l b c.in-Reply.f (sym c.in-Reply.is ∙ e.value) in
    record {
      number = other-window c.args.l b (is_reply b) e.number (then-reply c.args.l b e.number k.0) (λ q. c.if-f-l.true (ap (λ (f : ReplyFrame). f.window) k.1 ∙ q));
      value = tt;
    }

pub returns : goal.returns
returns c = let b = c.args.bytes.now in let e = c.in_ok-f.ensures in
    let k = read-reply c.args.l b c.in-Reply.f (sym c.in-Reply.is ∙ e.value) in
    record {
      number = received c.args.l b (is_reply b) e.number (then-reply c.args.l b e.number k.0) (sym (ap (λ (f : ReplyFrame). f.window) k.1) ∙ c.if-f-l.false);
      value = ap (λ (f : ReplyFrame). f.reply) k.1;
    }

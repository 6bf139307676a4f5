use mathlib.Core.Path.{refl, sym, ◌∙◌, ap}
use native.Mathlib.Omega.{arith}
use Rattle.std.proofs.lemmas.Result.{err_from_is_err_and}
use Rattle.limits.specs.declared.answer.Refusal.TheVariants.{RecordFull}
use Rattle.limits.specs.Tables.{sound_reply}
use Rattle.limits.proofs.Laws.Choice.{two}
use Rattle.limits.proofs.Laws.Promise.{changed-unsound}
use Rattle.pad.specs.Rules.{Replying}
use Rattle.pad.specs.View.{lent_pad}
use Rattle.pad.proofs.Laws.Messages.{replying-sound}
use Rattle.pad.proofs.Laws.Run.{known}
use Rattle.devices.proofs.Laws.Pads.{reply-refused, none-ready, some-ready, record-full, has-space, reply-short, reply-done}
use Rattle.devices.proofs.lentpad.reply.Goals as goal

pub returns-then-not-is_sound-clause-replies : goal.returns-then-not-is_sound-clause-replies
returns-then-not-is_sound-clause-replies c = changed-unsound _ _ _ _ _ _ _ _ (sym c.if-not-is_sound.ensures) refl

pub returns-in_err-rows-clause-replies : goal.returns-in_err-rows-clause-replies
returns-in_err-rows-clause-replies c = let a = c.args in let p = lent_pad a.pad.now in let s = sym c.if-not-is_sound.ensures in
    let q = err_from_is_err_and c.from_residual.result c.from_residual.ensures.1 in
    rw (q.1, q.2) (reply-refused a.l p s _ _ _ (none-ready a.l p s a.«record».now a.reply.now _ c.in_err-rows.ensures.number))

pub run_length-requires : goal.run_length-requires
run_length-requires c = let t = two _ _ (sym c.if-not-is_sound.ensures) in (t.0, (known c.args.l (lent_pad c.args.pad.now) t.0 t.1).facts.low)

pub overflow_mul-rows : goal.overflow_mul-rows
overflow_mul-rows c = let t = two _ _ (sym c.if-not-is_sound.ensures) in
    let k = known c.args.l (lent_pad c.args.pad.now) t.0 t.1 in let e = c.in_ok-rows.ensures.value in omega (arith, e)

pub returns-then-record-rows-clause-replies : goal.returns-then-record-rows-clause-replies
returns-then-record-rows-clause-replies c = let a = c.args in let p = lent_pad a.pad.now in let s = sym c.if-not-is_sound.ensures in let e = c.in_ok-rows.ensures in
    reply-refused a.l p s _ _ RecordFull (record-full a.l p s a.«record».now a.reply.now _ e.number e.value c.if-record-rows.true)

pub returns-then-reply-lt5-clause-replies : goal.returns-then-reply-lt5-clause-replies
returns-then-reply-lt5-clause-replies c = let a = c.args in let p = lent_pad a.pad.now in let s = sym c.if-not-is_sound.ensures in let e = c.in_ok-rows.ensures in
    reply-short a.l p s _ a.reply.now (has-space a.l p s a.«record».now a.reply.now _ e.number e.value (omega arith)) c.if-reply-lt5.true

pub record_run-run-requires : goal.record_run-run-requires
record_run-run-requires c = let a = c.args in let p = lent_pad a.pad.now in let s = sym c.if-not-is_sound.ensures in let e = c.in_ok-rows.ensures in
    let t = two _ _ s in let k = known a.l p t.0 t.1 in
    (t.0, k.facts.low, some-ready a.l p s a.«record».now a.reply.now _ e.number e.value, omega (arith, k.run-low, e.value), omega arith)

pub write_reply-written-requires : goal.write_reply-written-requires
write_reply-written-requires c = let a = c.args in let p = lent_pad a.pad.now in let s = sym c.if-not-is_sound.ensures in let e = c.in_ok-rows.ensures in
    let t = two _ _ s in
    let some = some-ready a.l p s a.«record».now a.reply.now _ e.number e.value in
    (t.0, ap (λ (x : Replying). sound_reply a.l x.reply) (c.record_run-run.ensures.moves t.1 e.value).1 ∙ replying-sound a.l t.0 p t.1 a.«record».now (omega (arith, some, e.value)), omega arith)

pub returns-clause-replies : goal.returns-clause-replies
returns-clause-replies c = let a = c.args in let p = lent_pad a.pad.now in let s = sym c.if-not-is_sound.ensures in let e = c.in_ok-rows.ensures in
    reply-done a.l p s _ a.reply.now (has-space a.l p s a.«record».now a.reply.now _ e.number e.value (omega arith)) _ _ _ _ _ _ (omega arith) (c.record_run-run.ensures.moves (two _ _ s).1 e.value) c.write_reply-written.ensures

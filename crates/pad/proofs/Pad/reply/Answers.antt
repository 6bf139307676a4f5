use Rattle.limits.specs.declared.answer.Refusal.TheVariants.{RecordFull}
use Rattle.limits.specs.Limits.{sound_limits}
use Rattle.limits.proofs.Laws.Choice.{two}
use Rattle.limits.proofs.Laws.Promise.{changed-refused, changed-handed_on}
use Rattle.pad.proofs.Laws.Refused.{run-found, run-refused, reply-full, reply-passes}
use Rattle.pad.proofs.Laws.Run.{known}
use Rattle.pad.specs.Rules.{Replying}
use Rattle.pad.specs.View.{pad_state}
use mathlib.Core.Path.{refl, ap}
use native.Mathlib.Omega.{arith}
use Rattle.pad.proofs.Pad.reply.Goals as goal

pub returns-in_err-count-clause-pad : goal.returns-in_err-count-clause-pad
returns-in_err-count-clause-pad c =
    changed-handed_on _ _ _ _ _ _ _ _ _ c.from_residual.ensures.1 (run-refused (pad_state c.args.l.window c.args.self.now) _ _ _ c.in_err-count.ensures.number) refl

pub overflow_mul-count : goal.overflow_mul-count
overflow_mul-count c = let b = c in let a = b.in_ok-count.ensures in
    let f = run-found (pad_state b.args.l.window b.args.self.now) _ a.number in
    let h = two (sound_limits b.args.l) _ f.0 in
    let k = known _ _ h.0 h.1 in
    omega (arith, a.value)

pub returns-then-record-count-clause-pad : goal.returns-then-record-count-clause-pad
returns-then-record-count-clause-pad c = let b = c in let a = b.in_ok-count.ensures in
    let f = run-found (pad_state b.args.l.window b.args.self.now) _ a.number in
    changed-refused _ RecordFull _ _ _ _ _ _ (reply-full (pad_state b.args.l.window b.args.self.now) _ _ f.0 f.1 (omega (arith, a.value, c.if-record-count.true))) refl

pub record_run-reply-requires : goal.record_run-reply-requires
record_run-reply-requires c = let b = c in let a = b.in_ok-count.ensures in
    let f = run-found (pad_state b.args.l.window b.args.self.now) _ a.number in
    let h = two (sound_limits b.args.l) _ f.0 in
    let k = known _ b.args.self.now h.0 h.1 in
    (h.0, k.facts.low, omega (arith, a.value, f.1), omega (arith, a.value, k.run-low), omega (arith, c.if-record-count.false))

pub returns-clause-pad : goal.returns-clause-pad
returns-clause-pad c = let b = c in let a = b.in_ok-count.ensures in
    let f = run-found (pad_state b.args.l.window b.args.self.now) _ a.number in
    let r = c.record_run-reply.ensures.moves (two (sound_limits b.args.l) _ f.0).1 a.value in
    record {
      answered = record { number = reply-passes (pad_state b.args.l.window b.args.self.now) _ _ f.0 f.1 (omega (arith, a.value, c.if-record-count.false)); value = λ i. record { count = (r.1 i).count; reply = (r.1 i).reply } };
      left = ap (λ (x : Replying). x.state) r.1;
      kept = tt;
      stays = λ _. r.0;
    }

pub returns-clause-rows : goal.returns-clause-rows
returns-clause-rows c = let b = c in let a = b.in_ok-count.ensures in
    let f = run-found (pad_state b.args.l.window b.args.self.now) _ a.number in
    ap (λ (x : Replying). x.buffer) (c.record_run-reply.ensures.moves (two (sound_limits b.args.l) _ f.0).1 a.value).1

use mathlib.Core.Path.{refl, sym, ◌∙◌, ap}
use native.Mathlib.Omega.{arith}
use Rattle.std.proofs.lemmas.Result.{err_from_is_err_and}
use Rattle.limits.specs.Lists.{all}
use Rattle.limits.specs.Tables.{sound_data}
use Rattle.limits.proofs.Laws.Choice.{two}
use Rattle.limits.proofs.Laws.Promise.{changed-unsound}
use Rattle.mat.specs.Rules.{resend_questions, resending}
use Rattle.mat.specs.View.{lent_mat, mat_state}
use Rattle.mat.proofs.Laws.Sound.{numbers-at}
use Rattle.mat.proofs.Laws.Calls.{due-there, due-low, resend-done}
use Rattle.mat.proofs.Laws.Messages.{resending-sound}
use Rattle.devices.proofs.Laws.Mats.{send-refused, send-short, send-done}
use Rattle.devices.proofs.lentmat.resend.Goals as goal

pub returns-then-not-is_sound-clause-sends : goal.returns-then-not-is_sound-clause-sends
returns-then-not-is_sound-clause-sends c = changed-unsound _ _ _ _ _ _ _ _ (sym c.if-not-is_sound.ensures) refl

pub returns-in_err-number-clause-sends : goal.returns-in_err-number-clause-sends
returns-in_err-number-clause-sends c = let a = c.args in let m = lent_mat a.mat.now in let s = mat_state a.l.window m in
    let p = err_from_is_err_and c.from_residual.result c.from_residual.ensures.1 in
    rw (p.1, p.2)
    (send-refused a.l m (resend_questions a.l s a.k) (resending a.l s a.k) _ (sym c.if-not-is_sound.ensures) _ c.in_err-number.ensures.number)

pub returns-then-frame-lt36-clause-sends : goal.returns-then-frame-lt36-clause-sends
unfolding all
returns-then-frame-lt36-clause-sends c = let a = c.args in let m = lent_mat a.mat.now in let s = mat_state a.l.window m in
    send-short a.l m (resend_questions a.l s a.k) (resending a.l s a.k) _ (sym c.if-not-is_sound.ensures) c.in_ok-number.ensures.number refl c.if-frame-lt36.true

pub due-requires : goal.due-requires
due-requires c = let t = two _ _ (sym c.if-not-is_sound.ensures) in numbers-at _ (lent_mat c.args.mat.now) t.0 t.1

pub again-data-requires : goal.again-data-requires
again-data-requires c = let t = two _ _ (sym c.if-not-is_sound.ensures) in
    (t.0, due-low c.args.l (lent_mat c.args.mat.now) c.args.k _ c.in_ok-number.ensures t.0)

pub write_data-requires : goal.write_data-requires
write_data-requires c = let a = c.args in let m = lent_mat a.mat.now in let t = two _ _ (sym c.if-not-is_sound.ensures) in
    let e = c.in_ok-number.ensures in
    let v = resend-done a.l m a.k _ e _ _ (c.again-data.ensures.resends (two _ _ (sym c.if-not-is_sound.ensures)).1 a.k (due-there a.l m a.k _ e) e.value) in
    (t.0, ap (sound_data a.l) v.answered.value ∙ resending-sound a.l m t.0 t.1 a.k (sym v.answered.number), omega arith)

pub returns-clause-sends : goal.returns-clause-sends
unfolding all
returns-clause-sends c = let a = c.args in let m = lent_mat a.mat.now in let s = mat_state a.l.window m in
    let e = c.in_ok-number.ensures in
    send-done a.l m (resend_questions a.l s a.k) (resending a.l s a.k) _ (sym c.if-not-is_sound.ensures) e.number refl
    _ _ _ _ _ (omega arith) (resend-done a.l m a.k _ e _ _ (c.again-data.ensures.resends (two _ _ (sym c.if-not-is_sound.ensures)).1 a.k (due-there a.l m a.k _ e) e.value)) c.write_data.ensures

use Rattle.std.proofs.Common.{◌++◌}
use mathlib.Core.Path.{refl, sym, ◌∙◌, ap}
use native.Mathlib.Omega.{arith}
use Rattle.std.proofs.lemmas.Result.{err_from_is_err_and}
use Rattle.limits.specs.declared.answer.Refusal.TheVariants.{PartialRow}
use Rattle.limits.specs.Questions.{whole_rows}
use Rattle.limits.specs.Tables.{sound_data}
use Rattle.limits.proofs.Laws.Choice.{two}
use Rattle.limits.proofs.Laws.Promise.{changed-unsound}
use Rattle.mat.specs.Rules.{send_questions, sending}
use Rattle.mat.specs.View.{lent_mat, mat_state}
use Rattle.mat.proofs.Laws.Sound.{numbers-at}
use Rattle.mat.proofs.Laws.Messages.{sending-sound}
use Rattle.devices.proofs.Laws.Mats.{part-row, whole, send-numbered, send-refused, send-short, send-done}
use Rattle.devices.proofs.lentmat.send.Goals as goal

pub returns-then-not-is_sound-clause-sends : goal.returns-then-not-is_sound-clause-sends
returns-then-not-is_sound-clause-sends c = changed-unsound _ _ _ _ _ _ _ _ (sym c.if-not-is_sound.ensures) refl

pub returns-then-supply-ne0-clause-sends : goal.returns-then-supply-ne0-clause-sends
returns-then-supply-ne0-clause-sends c = let a = c.args in let m = lent_mat a.mat.now in let s = mat_state a.l.window m in
    send-refused a.l m (whole_rows a.supply.now ++ send_questions a.l s a.supply.now) (sending a.l s a.supply.now) _ (sym c.if-not-is_sound.ensures)
    PartialRow (part-row a.l s _ c.if-supply-ne0.true)

pub returns-in_err-row-clause-sends : goal.returns-in_err-row-clause-sends
returns-in_err-row-clause-sends c = let a = c.args in let m = lent_mat a.mat.now in let s = mat_state a.l.window m in
    let p = err_from_is_err_and c.from_residual.result c.from_residual.ensures.1 in
    rw (p.1, p.2)
    (send-refused a.l m (whole_rows a.supply.now ++ send_questions a.l s a.supply.now) (sending a.l s a.supply.now) _ (sym c.if-not-is_sound.ensures)
    _ (c.in_err-row.ensures.number ∙ sym (whole a.l s _ c.if-supply-ne0.false)))

pub returns-then-frame-lt36-clause-sends : goal.returns-then-frame-lt36-clause-sends
returns-then-frame-lt36-clause-sends c = let a = c.args in let m = lent_mat a.mat.now in let s = mat_state a.l.window m in
    send-short a.l m (whole_rows a.supply.now ++ send_questions a.l s a.supply.now) (sending a.l s a.supply.now) _ (sym c.if-not-is_sound.ensures)
    (c.in_ok-row.ensures.number ∙ sym (whole a.l s _ c.if-supply-ne0.false)) (send-numbered a.l s _) c.if-frame-lt36.true

pub next_row-requires : goal.next_row-requires
next_row-requires c = let t = two _ _ (sym c.if-not-is_sound.ensures) in let n = numbers-at _ (lent_mat c.args.mat.now) t.0 t.1 in (t.0, n.1, n.2)

pub keep-data-requires : goal.keep-data-requires
keep-data-requires c = let t = two _ _ (sym c.if-not-is_sound.ensures) in (t.0, (numbers-at _ (lent_mat c.args.mat.now) t.0 t.1).2)

pub write_data-requires : goal.write_data-requires
write_data-requires c = let a = c.args in let t = two _ _ (sym c.if-not-is_sound.ensures) in
    let v = c.keep-data.ensures.sends (two _ _ (sym c.if-not-is_sound.ensures)).1 a.supply.now c.in_ok-row.ensures in
    (t.0, ap (sound_data a.l) v.answered.value ∙ sending-sound a.l (lent_mat a.mat.now) t.0 t.1 a.supply.now (sym v.answered.number), omega arith)

pub returns-clause-sends : goal.returns-clause-sends
returns-clause-sends c = let a = c.args in let m = lent_mat a.mat.now in let s = mat_state a.l.window m in
    send-done a.l m (whole_rows a.supply.now ++ send_questions a.l s a.supply.now) (sending a.l s a.supply.now) _ (sym c.if-not-is_sound.ensures)
    (c.in_ok-row.ensures.number ∙ sym (whole a.l s _ c.if-supply-ne0.false)) (send-numbered a.l s _)
    _ _ _ _ _ (omega arith) (c.keep-data.ensures.sends (two _ _ (sym c.if-not-is_sound.ensures)).1 a.supply.now c.in_ok-row.ensures) c.write_data.ensures

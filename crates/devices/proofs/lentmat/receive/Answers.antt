use mathlib.Core.Path.{refl, sym, ◌∙◌, ap}
use Rattle.std.proofs.lemmas.Result.{err_from_is_err_and}
use Rattle.limits.specs.Tables.{sound_reply}
use Rattle.limits.proofs.Laws.Choice.{two}
use Rattle.limits.proofs.Laws.Promise.{changed-unsound}
use Rattle.mat.specs.View.{lent_mat}
use Rattle.mat.proofs.Laws.Sound.{numbers-at}
use Rattle.devices.proofs.Laws.Frames.{reply-taken}
use Rattle.devices.proofs.Laws.Mats.{reply-refused, reply-handled}
use Rattle.devices.proofs.lentmat.receive.Goals as goal

pub returns-then-not-is_sound-clause-receives : goal.returns-then-not-is_sound-clause-receives
returns-then-not-is_sound-clause-receives c = changed-unsound _ _ _ _ _ _ _ _ (sym c.if-not-is_sound.ensures) refl

pub returns-in_err-reply-clause-receives : goal.returns-in_err-reply-clause-receives
returns-in_err-reply-clause-receives c = let a = c.args in
    let p = err_from_is_err_and c.from_residual.result c.from_residual.ensures.1 in
    rw (p.1, p.2) (reply-refused a.l (lent_mat a.mat.now) (lent_mat a.mat.now) a.bytes.now (sym c.if-not-is_sound.ensures) _ c.in_err-reply.ensures.number)

pub acknowledge-requires : goal.acknowledge-requires
acknowledge-requires c = let a = c.args in let e = c.in_ok-reply.ensures in let t = two _ _ (sym c.if-not-is_sound.ensures) in
    (numbers-at _ (lent_mat a.mat.now) t.0 t.1, ap (sound_reply a.l) e.value ∙ reply-taken a.l a.bytes.now (sym e.number))

pub returns-clause-receives : goal.returns-clause-receives
returns-clause-receives c = let a = c.args in let e = c.in_ok-reply.ensures in
    reply-handled a.l (lent_mat a.mat.now) (lent_mat c.acknowledge.new.self) a.bytes.now (sym c.if-not-is_sound.ensures) e.number _ _ e.value (c.acknowledge.ensures.acknowledges (two _ _ (sym c.if-not-is_sound.ensures)).1)

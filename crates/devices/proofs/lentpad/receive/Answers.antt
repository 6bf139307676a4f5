use mathlib.Core.Path.{refl, sym, ◌∙◌, ap}
use native.Mathlib.Omega.{arith}
use borrow.Author.Tests.{ltb-true}
use Rattle.std.proofs.lemmas.Result.{err_from_is_err_and}
use Rattle.limits.specs.Tables.{sound_data}
use Rattle.limits.proofs.Laws.Choice.{two}
use Rattle.limits.proofs.Laws.Messages.{message-low, message-legal}
use Rattle.limits.proofs.Laws.Promise.{changed-unsound}
use Rattle.pad.specs.View.{lent_pad}
use Rattle.pad.proofs.Laws.Sound.{facts}
use Rattle.pad.proofs.Laws.Messages.{single-sound}
use Rattle.devices.proofs.Laws.Frames.{data-taken}
use Rattle.devices.proofs.Laws.Pads.{data-refused, row-held, old-short, old-answered}
use Rattle.devices.proofs.lentpad.receive.Goals as goal

pub returns-then-not-is_sound-clause-receives : goal.returns-then-not-is_sound-clause-receives
returns-then-not-is_sound-clause-receives c = changed-unsound _ _ _ _ _ _ _ _ (sym c.if-not-is_sound.ensures) refl

pub returns-in_err-data-clause-receives : goal.returns-in_err-data-clause-receives
returns-in_err-data-clause-receives c = let a = c.args in
    let p = err_from_is_err_and c.from_residual.result c.from_residual.ensures.1 in
    rw (p.1, p.2) (data-refused a.l (lent_pad a.pad.now) (sym c.if-not-is_sound.ensures) a.bytes.now _ _ c.in_err-data.ensures.number)

pub in_window-requires : goal.in_window-requires
in_window-requires c = let a = c.args in let e = c.in_ok-data.ensures in let t = two _ _ (sym c.if-not-is_sound.ensures) in
    (t.0, (facts _ (lent_pad a.pad.now) t.1).low, message-low a.l _ _ (ap (sound_data a.l) e.value ∙ data-taken a.l a.bytes.now (sym e.number)))

pub hold-requires : goal.hold-requires
hold-requires c = let a = c.args in let e = c.in_ok-data.ensures in
    ((two _ _ (sym c.if-not-is_sound.ensures)).0, message-low a.l _ _ (ap (sound_data a.l) e.value ∙ data-taken a.l a.bytes.now (sym e.number)))

pub returns-then-in_window-clause-receives : goal.returns-then-in_window-clause-receives
returns-then-in_window-clause-receives c = let a = c.args in let e = c.in_ok-data.ensures in
    let legal = message-legal a.l _ _ (ap (sound_data a.l) e.value ∙ data-taken a.l a.bytes.now (sym e.number)) in
    row-held a.l (lent_pad a.pad.now) (sym c.if-not-is_sound.ensures) a.bytes.now _ _ e.number e.value _ (sym c.if-in_window.ensures) (c.hold.ensures.moves (two _ _ (sym c.if-not-is_sound.ensures)).1 legal (ltb-true _ _ (sym c.if-in_window.ensures)))

pub returns-then-reply-lt5-clause-receives : goal.returns-then-reply-lt5-clause-receives
returns-then-reply-lt5-clause-receives c = let a = c.args in let e = c.in_ok-data.ensures in
    old-short a.l (lent_pad a.pad.now) (sym c.if-not-is_sound.ensures) a.bytes.now _ _ e.number e.value (sym c.if-in_window.ensures) c.if-reply-lt5.true

pub write_reply-requires : goal.write_reply-requires
write_reply-requires c = let a = c.args in let e = c.in_ok-data.ensures in let t = two _ _ (sym c.if-not-is_sound.ensures) in
    (t.0, single-sound a.l t.0 _ (message-low a.l _ _ (ap (sound_data a.l) e.value ∙ data-taken a.l a.bytes.now (sym e.number))), omega arith)

pub returns-clause-receives : goal.returns-clause-receives
returns-clause-receives c = let a = c.args in let e = c.in_ok-data.ensures in
    old-answered a.l (lent_pad a.pad.now) (sym c.if-not-is_sound.ensures) a.bytes.now _ _ e.number e.value (sym c.if-in_window.ensures) _ _ (omega arith) c.write_reply.ensures

use Rattle.limits.specs.Limits.{sound_limits}
use Rattle.limits.specs.Questions.{pick}
use Rattle.limits.proofs.Laws.Choice.{two, pair-goes-on, pair-stops}
use Rattle.limits.proofs.Laws.Messages.{message-low, message-legal}
use Rattle.limits.proofs.Laws.Promise.{changed-sound, changed-unsound}
use Rattle.pad.specs.View.{pad_state, sound_pad}
use Rattle.pad.specs.Rules.{Arrival}
use Rattle.pad.proofs.Laws.Sound.{facts}
use Rattle.pad.proofs.Laws.Calls.{with-number, arrival-new, arrival-old}
use Rattle.std.specs.Prelude.{Some, None}
use borrow.Author.Tests.{ltb-true}
use mathlib.Core.Path.{sym, ◌∙◌, refl, ap}
use Rattle.pad.proofs.Pad.arrive.Goals as goal

pub returns-then-not-is_sound : goal.returns-then-not-is_sound
returns-then-not-is_sound c = let a = c.args in
    changed-unsound _ _ _ _ _ _ _ _ (sym (pair-stops (sound_limits a.l) (sound_pad a.l a.self.now) _ _ c.is_sound.ensures c.if-not-is_sound.true) ∙ c.if-not-is_sound.true) refl

pub data_sound-requires : goal.data_sound-requires
data_sound-requires c = (two (sound_limits c.args.l) _ (sym c.is_sound.ensures ∙ c.if-not-is_sound.false)).0

pub returns-then-not-data_sound : goal.returns-then-not-data_sound
returns-then-not-data_sound c = let a = c.args in
    changed-unsound _ _ _ _ _ _ _ _
    (sym (pair-goes-on (sound_limits a.l) (sound_pad a.l a.self.now) _ _ c.is_sound.ensures c.if-not-is_sound.false) ∙ sym c.data_sound.ensures ∙ c.if-not-data_sound.true) refl

pub in_window-requires : goal.in_window-requires
in_window-requires c = let t = two (sound_limits c.args.l) _ (sym c.is_sound.ensures ∙ c.if-not-is_sound.false) in
    (t.0, (facts _ c.args.self.now t.1).low, message-low _ _ _ (sym c.data_sound.ensures ∙ c.if-not-data_sound.false))

pub returns-then-not-in_window : goal.returns-then-not-in_window
unfolding pick
returns-then-not-in_window c = let a = c.args in
    let e = sym c.data_sound.ensures ∙ c.if-not-data_sound.false in
    let q = arrival-old a.l a.self.now a.«data» (sym c.in_window.ensures ∙ c.if-not-in_window.true) in
    changed-sound _ _ _ _ _ _ _ _ _ (sym (pair-goes-on (sound_limits a.l) (sound_pad a.l a.self.now) _ _ c.is_sound.ensures c.if-not-is_sound.false) ∙ e)
    (record {
      answered = record { number = refl; value = ap (λ (y : Arrival). pick y.old (Some y.reply) None) (sym q) };
      left = ap (λ (y : Arrival). y.state) (sym q);
      kept = tt;
      stays = λ s. s;
    })

pub hold-requires : goal.hold-requires
hold-requires c =
    ((two (sound_limits c.args.l) _ (sym c.is_sound.ensures ∙ c.if-not-is_sound.false)).0, message-low _ _ _ (sym c.data_sound.ensures ∙ c.if-not-data_sound.false))

pub returns : goal.returns
unfolding pick pad_state
returns c = let a = c.args in
    let s = (two (sound_limits a.l) _ (sym c.is_sound.ensures ∙ c.if-not-is_sound.false)).1 in
    let legal = message-legal _ _ _ (sym c.data_sound.ensures ∙ c.if-not-data_sound.false) in
    let h = with-number a.l _ _ _ refl (c.hold.ensures.moves s legal (ltb-true _ _ (sym c.in_window.ensures ∙ c.if-not-in_window.false))) in
    let q = arrival-new a.l a.self.now a.«data» _ (sym c.in_window.ensures ∙ c.if-not-in_window.false) h.1 in
    changed-sound _ _ _ _ _ _ _ _ _
    (sym (pair-goes-on (sound_limits a.l) (sound_pad a.l a.self.now) _ _ c.is_sound.ensures c.if-not-is_sound.false) ∙ sym c.data_sound.ensures ∙ c.if-not-data_sound.false)
    (record {
      answered = record { number = refl; value = ap (λ (y : Arrival). pick y.old (Some y.reply) None) (sym q) };
      left = ap (λ (y : Arrival). y.state) (sym q);
      kept = tt;
      stays = λ _. h.0;
    })

use native.Mathlib.Omega.{arith}
use mathlib.Core.Path.{refl, sym, ◌∙◌, ap}
use Rattle.limits.specs.Events.{arrive_data}
use mathlib.Core.Bool.{not, ◌||◌}
use Prim.Native.Nat.{ℕ}
use mathlib.Core.List.{List, [], ◌∷◌}
use lib.Dec.{ltb}
use lib.ListN.{length, get_or}
use borrow.Author.Tests.{ltb-true}
use Rattle.limits.specs.Questions.{pick, ask}
use Rattle.limits.specs.Tables.{capacity, no_data}
use Rattle.limits.proofs.Laws.Promise.{refusal-not-0}
use Rattle.limits.proofs.Laws.Questions.{more_stays}
use Rattle.limits.proofs.Laws.Messages.{message-low, message-legal}
use Rattle.pad.specs.Rules.{arrival}
use Rattle.pad.specs.View.{pad_state}
use Rattle.pad.proofs.Laws.Calls.{with-number, arrival-new, arrival-old}
use Rattle.air.specs.Rules.{place_questions}
use Rattle.air.specs.Data.{data_messages}
use Rattle.air.specs.Replies.{reply_messages}
use Rattle.air.specs.Forms.{data_form}
use Rattle.air.proofs.Laws.Forms.{count-few}
use Rattle.events.specs.Counts.{rows_of}
use Rattle.events.specs.View.{link_state}
use Rattle.events.specs.Lent.{lent_link}
use Rattle.events.proofs.Laws.Parts.{parts}
use Rattle.events.specs.declared.Link.{Link}
use Rattle.events.proofs.Laws.Sums.{counts-sum, same-rows, message-arrived, reply-put, no-reply-put}
use Rattle.events.proofs.Laws.Counting.{done-counted, handed-counted}
use Rattle.events.proofs.Laws.Messages.{there, found-sound}
use Rattle.events.proofs.Laws.Tables.{data-below}
use Rattle.events.proofs.Laws.Arriving.{old-asks, old-arrives, new-arrives}
use Rattle.events.proofs.LentLink.arrive_data.Goals as goal

pub find-requires : goal.find-requires
find-requires c = (omega arith, count-few data_form _ _ _ c.requires.2)

pub returns-in_err-data-clause-counted : goal.returns-in_err-data-clause-counted
unfolding link_state
returns-in_err-data-clause-counted c = λ s supply b. let k = lent_link c.args.self.now in
    handed-counted k k supply b (arrive_data c.args.p) _ _ _ c.from_residual.ensures.1
    (more_stays (place_questions c.args.p (data_messages k.datas)) _ c.in_err-data.ensures.number (ask 18 (not (arrival k.limits (pad_state k.limits.window k.pad) (get_or (data_messages k.datas) c.args.p no_data).body).old || ltb (length (reply_messages k.replies)) capacity) ∷ []) (refusal-not-0 _)) refl

pub in_window-requires : goal.in_window-requires
in_window-requires c = let k = lent_link c.args.self.now in let u = c.in_ok-data in
    (c.requires.0, c.requires.1, message-low _ _ _ (found-sound data_form k.limits k.datas c.args.p u.data u.ensures c.requires.2))

pub take_old-requires : goal.take_old-requires
take_old-requires c = let k = lent_link c.args.self.now in let u = c.in_ok-data in (
  c.requires.0,
  data-below k.datas c.args.p (there data_form k.limits k.datas c.args.p u.data u.ensures),
  message-low _ _ _ (found-sound data_form k.limits k.datas c.args.p u.data u.ensures c.requires.2),
  c.requires.2,
  c.requires.3,
)

pub returns-in_err-take_old-clause-counted : goal.returns-in_err-take_old-clause-counted
unfolding link_state
returns-in_err-take_old-clause-counted c = λ s supply b. let k = lent_link c.args.self.now in let u = c.in_ok-data in
    let t = c.in_err-take_old.ensures.moves s b in
    handed-counted k _ supply b (arrive_data c.args.p) _ _ _ c.from_residual-in_err-take_old.ensures.1
    (t.answered.number ∙ old-asks k (parts k s) _ u.data u.ensures _ (arrival-old k.limits k.pad _ (sym c.if-not-in_window.ensures)) refl)
    (ap (λ (y : Link × List ℕ). y.0) t.kept)

pub returns-then-not-in_window-clause-counted : goal.returns-then-not-in_window-clause-counted
unfolding pick arrival link_state
returns-then-not-in_window-clause-counted c = λ s supply b. let k = lent_link c.args.self.now in let u = c.in_ok-data in
    done-counted k supply b b (arrive_data c.args.p) _ _ _ _ _
    (old-arrives k (parts k s) _ u.data u.ensures _ (arrival-old k.limits k.pad _ (sym c.if-not-in_window.ensures)) refl _ supply b (c.in_ok-take_old.ensures.moves s b))
    (λ e. let n = c.args.counts.now in counts-sum n _ _ _ _ (same-rows (rows_of n)) (message-arrived n.datas) (reply-put n.replies _ e))

pub hold-requires : goal.hold-requires
hold-requires c = let k = lent_link c.args.self.now in let u = c.in_ok-data in
    (c.requires.0, message-low _ _ _ (found-sound data_form k.limits k.datas c.args.p u.data u.ensures c.requires.2))

pub remove-requires : goal.remove-requires
remove-requires c = let k = lent_link c.args.self.now in let u = c.in_ok-data in
    (omega arith, (data-below k.datas c.args.p (there data_form k.limits k.datas c.args.p u.data u.ensures), count-few data_form _ _ _ c.requires.2))

pub returns-clause-counted : goal.returns-clause-counted
unfolding pad_state pick arrival link_state
returns-clause-counted c = λ s supply b. let k = lent_link c.args.self.now in let p = parts k s in let u = c.in_ok-data in
    let legal = message-legal _ _ _ (found-sound data_form k.limits k.datas c.args.p u.data u.ensures p.datas) in
    let held = with-number k.limits k.pad.wanted _ _ refl (c.hold.ensures.moves p.pad legal (ltb-true _ _ (sym c.if-not-in_window.ensures))) in
    done-counted k supply b b (arrive_data c.args.p) _ _ _ _ _
    (new-arrives k p _ u.data u.ensures _ (arrival-new k.limits k.pad _ _ (sym c.if-not-in_window.ensures) held.1) _ held.0 refl _ (c.remove.ensures.removed k.limits p.datas) refl supply b)
    (λ e. let n = c.args.counts.now in counts-sum n _ _ _ _ (same-rows (rows_of n)) (message-arrived n.datas) (no-reply-put n.replies _ e))

-- How far an event can raise the counts: no row is sent that the supply has not, none recorded that the record has not, and
-- rows acknowledged were outstanding.
use Prim.Native.Nat.{ℕ, ◌+◌, ◌*◌, ◌≤◌}
use mathlib.Core.Path.{◌≡◌, refl, ap}
use mathlib.Core.Bool.{true, false}
use mathlib.Core.List.{List, [], ◌∷◌}
use native.Mathlib.Omega.{arith}
use lib.Dec.{eqb}
use lib.ListN.{length, length-append, length-drop}
use borrow.Author.Tests.{eqb-true, leb-true}
use Rattle.limits.specs.Lists.{all, leading}
use Rattle.limits.specs.Questions.{first_no}
use Rattle.limits.specs.Events.{Event, unknown, misfit, send, resend, arrive_data, reply, arrive_reply, lose_data, lose_reply, tick}
use Rattle.limits.specs.Tables.{Reply, span}
use Rattle.limits.proofs.Laws.Choice.{pick-cases}
use Rattle.limits.proofs.Laws.Lists.{length-tab, leading-most}
use Rattle.limits.proofs.Laws.Questions.{each, front-passed}
use Rattle.mat.specs.Window.{Kept, outstanding}
use Rattle.mat.specs.View.{outstanding_of, mark_at, cells_at, mat_state}
use Rattle.mat.specs.Rules as mat
use Rattle.mat.proofs.Laws.Sound.{facts}
use Rattle.pad.specs.Rules as pad
use Rattle.air.specs.Rules.{room_questions}
use Rattle.events.specs.declared.Link.{Link}
use Rattle.events.specs.State.{LinkState, Moved, unmoved}
use Rattle.events.specs.Rules.{arrival_at, old_taken, new_taken, taken, questions, acted, answer, stepped, reply_at}
use Rattle.events.specs.View.{link_state, sound_link}
use Rattle.events.proofs.Laws.Parts.{parts}

pub record Rises (supply buffer : List ℕ) (s : LinkState) (x : Moved) : Type 0 where
  pub sent : 16 * x.counts.sent ≤ length supply
  pub recorded : 16 * x.counts.recorded ≤ length buffer
  pub balance : x.counts.acknowledged + outstanding x.state.mat ≡ x.counts.sent + outstanding s.mat

unmoved-rises : (supply buffer : List ℕ) (s t : LinkState) → outstanding t.mat ≡ outstanding s.mat → Rises supply buffer s (unmoved t buffer)
unmoved-rises supply buffer s t e = record { sent = omega arith; recorded = omega arith; balance = ap (0 +◌) e }

-- at most 32 rows are outstanding
pub outstanding-fits : (k : Link) → sound_link k ≡ true → outstanding (link_state k).mat ≤ 32
unfolding link_state mat_state
outstanding-fits k h =
    let p = parts k h in
    let f = facts k.limits k.mat p.limits p.mat in
    let n = length-tab {A = Kept} (outstanding_of k.limits.window k.mat) (λ i. record { acknowledged = mark_at k.limits.window k.mat i; cells = cells_at k.limits.window k.mat i }) in
    omega arith

module _ (supply buffer : List ℕ) (s : LinkState) where
  send-rises : first_no (questions supply (length buffer) s send) ≡ 0 → Rises supply buffer s (acted supply buffer s send)
  unfolding all mat.sending
  send-rises e =
      let q = each (mat.send_questions s.limits s.mat supply) refl (front-passed (mat.send_questions s.limits s.mat supply) (room_questions 13 s.datas) e) in
      let a = leb-true 16 (length supply) q.1.0 in
      let n = length-append s.mat.rows (record { acknowledged = false; cells = lib.ListN.take 16 supply } ∷ []) in
      record { sent = omega arith; recorded = omega arith; balance = omega arith }

  resend-rises : (k : ℕ) → Rises supply buffer s (acted supply buffer s (resend k))
  unfolding mat.resending
  resend-rises k = record { sent = omega arith; recorded = omega arith; balance = refl }

  reply-rises : first_no (questions supply (length buffer) s reply) ≡ 0 → Rises supply buffer s (acted supply buffer s reply)
  unfolding all pad.replying
  reply-rises e =
      let q = each (pad.reply_questions s.pad (length buffer)) refl (front-passed (pad.reply_questions s.pad (length buffer)) (room_questions 18 s.replies) e) in
      let a = leb-true (16 * pad.run s.pad) (length buffer) q.1.0 in
      record { sent = omega arith; recorded = omega arith; balance = refl }

  pub passing-balance : (from count : ℕ) → (mat.passing s.limits s.mat from count).passed + outstanding (mat.passing s.limits s.mat from count).state ≡ outstanding s.mat
  unfolding mat.passing mat.marked
  passing-balance from count =
      let rows = mat.marked from count s.mat in
      let n : length rows ≡ outstanding s.mat = length-tab (outstanding s.mat) _ in
      let m = leading-most (λ (k : Kept). k.acknowledged) rows in
      let d = length-drop (leading (λ (k : Kept). k.acknowledged) rows) rows in
      omega arith

  arrive_reply-rises : (p : ℕ) → Rises supply buffer s (acted supply buffer s (arrive_reply p))
  arrive_reply-rises p = record { sent = omega arith; recorded = omega arith; balance = let b = passing-balance (mat.start_of s.limits s.mat (reply_at s p)) (span s.limits.window (reply_at s p)) in omega arith }

  taken-mat : (p : ℕ) → outstanding (taken s p (arrival_at s p)).mat ≡ outstanding s.mat
  taken-mat p =
      pick-cases (λ (t : LinkState). outstanding t.mat ≡ outstanding s.mat) (arrival_at s p).old (old_taken s p (arrival_at s p).reply) (new_taken s p (arrival_at s p).state)
      (λ _. refl) (λ _. refl)

  acted-rises : (e : Event) → first_no (questions supply (length buffer) s e) ≡ 0 → Rises supply buffer s (acted supply buffer s e)
  unfolding mat.ticked
  acted-rises unknown z = unmoved-rises supply buffer s s refl
  acted-rises misfit z = unmoved-rises supply buffer s s refl
  acted-rises send z = send-rises z
  acted-rises (resend k) z = resend-rises k
  acted-rises (arrive_data p) z = unmoved-rises supply buffer s (taken s p (arrival_at s p)) (taken-mat p)
  acted-rises reply z = reply-rises z
  acted-rises (arrive_reply p) z = arrive_reply-rises p
  acted-rises (lose_data p) z = unmoved-rises supply buffer s _ refl
  acted-rises (lose_reply p) z = unmoved-rises supply buffer s _ refl
  acted-rises (tick d) z = unmoved-rises supply buffer s _ refl

  pub rises : (e : Event) → Rises supply buffer s (stepped supply buffer s e)
  unfolding stepped
  rises e =
      pick-cases (Rises supply buffer s) (eqb (answer supply buffer s e) 0) (acted supply buffer s e) (unmoved s buffer)
      (λ z. acted-rises e (eqb-true (answer supply buffer s e) 0 z))
      (λ z. unmoved-rises supply buffer s s refl)

-- no reply acknowledges more than 32 rows
pub acknowledged-few : (k : Link) → sound_link k ≡ true → (x : Reply) (n : ℕ) → n ≡ (mat.acknowledging k.limits (mat_state k.limits.window k.mat) x).passed → n ≤ 32
unfolding link_state
acknowledged-few k sound x n e =
    let s = link_state k in
    let b = passing-balance [] [] s (mat.start_of s.limits s.mat x) (span s.limits.window x) in
    let o = outstanding-fits k sound in
    omega arith

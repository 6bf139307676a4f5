-- The law of each table's account, event by event.
use Prim.Native.Nat.{ℕ, ◌+◌, ◌≤◌}
use mathlib.Core.Path.{◌≡◌, refl}
use mathlib.Core.Bool.{not, ◌||◌}
use mathlib.Core.List.{List, [], ◌∷◌}
use native.Mathlib.Omega.{arith}
use lib.Dec.{eqb}
use lib.ListN.{length}
use borrow.Author.Tests.{eqb-true}
use Rattle.limits.specs.Questions.{pick, ask, first_no}
use Rattle.limits.specs.Tables.{has_room, remove, expired}
use Rattle.limits.specs.Events.{Event, unknown, misfit, send, resend, arrive_data, reply, arrive_reply, lose_data, lose_reply, tick}
use Rattle.limits.proofs.Laws.Choice.{test, pick-cases, pick_yes, pick_no}
use Rattle.limits.proofs.Laws.Mapped.{length-put}
use Rattle.limits.proofs.Laws.Sizes.{size-remove, size-age}
use Rattle.limits.proofs.Laws.Questions.{front-passed}
use Rattle.mat.specs.Rules as mat
use Rattle.air.specs.Rules.{place_questions}
use Rattle.events.specs.State.{LinkState, unmoved}
use Rattle.events.specs.Counts.{Account, no_account, one_put, one_arrived, one_lost, dropped_by, more_messages, Balances}
use Rattle.events.specs.Rules.{arrival_at, reply_at, old_taken, new_taken, questions, acted, answer, stepped}
use Rattle.events.specs.Account.{data_account, reply_account, if_done}
use Rattle.events.proofs.Laws.Messages.{found}

-- accounts one after the other
pub balances-on : (first between left : ℕ) (a b : Account) → Balances first a between → Balances between b left → Balances first (more_messages a b) left
balances-on first between left a b p q =
    let a0 = a.put in let a1 = a.arrived in let a2 = a.lost in let a3 = a.dropped in
    let b0 = b.put in let b1 = b.arrived in let b2 = b.lost in let b3 = b.dropped in
    omega arith

-- a table's account of one event: how it balances, and that it puts one message at most
pub record OneEvent (first : ℕ) (a : Account) (left : ℕ) : Type 0 where
  pub balances : Balances first a left
  pub puts : a.put ≤ 1

nothing : (n m : ℕ) → m ≡ n → OneEvent n no_account m
nothing n m e = record { balances = omega arith; puts = omega arith }

one-put : (n m : ℕ) → m ≡ n + 1 → OneEvent n one_put m
one-put n m e = record { balances = omega arith; puts = omega arith }

one-arrived : (n m : ℕ) → m + 1 ≡ n → OneEvent n one_arrived m
one-arrived n m e = record { balances = omega arith; puts = omega arith }

one-lost : (n m : ℕ) → m + 1 ≡ n → OneEvent n one_lost m
one-lost n m e = record { balances = omega arith; puts = omega arith }

some-dropped : (n d m : ℕ) → m + d ≡ n → OneEvent n (dropped_by d) m
some-dropped n d m e = record { balances = omega arith; puts = omega arith }

-- a message that is there and leaves
gone : {A : Type 0} (p : ℕ) (ms : List A) → first_no (place_questions p ms) ≡ 0 → length (remove p ms) + 1 ≡ length ms
gone p ms e = size-remove p ms (found p ms e)

module _ (supply buffer : List ℕ) (s : LinkState) where
  pub data-balances : (e : Event) → first_no (questions supply (length buffer) s e) ≡ 0
      → OneEvent (length s.datas) (data_account s e) (length (acted supply buffer s e).state.datas)
  data-balances unknown z = nothing _ _ refl
  data-balances misfit z = nothing _ _ refl
  data-balances send z = one-put _ _ (length-put _ s.datas)
  data-balances (resend k) z = one-put _ _ (length-put _ s.datas)
  data-balances (arrive_data p) z =
      let x = arrival_at s p in
      let arrived = one-arrived (length s.datas) (length (remove p s.datas))
      (gone p s.datas (front-passed (place_questions p s.datas) (ask 18 (not x.old || has_room s.replies) ∷ []) z)) in
      pick-cases (λ (t : LinkState). OneEvent (length s.datas) one_arrived (length t.datas)) x.old
      (old_taken s p x.reply) (new_taken s p x.state) (λ _. arrived) (λ _. arrived)
  data-balances reply z = nothing _ _ refl
  data-balances (arrive_reply p) z = nothing _ _ refl
  data-balances (lose_data p) z = one-lost _ _ (gone p s.datas z)
  data-balances (lose_reply p) z = nothing _ _ refl
  data-balances (tick d) z = some-dropped _ (expired d s.datas) _ (size-age d s.datas)

  pub reply-balances : (e : Event) → first_no (questions supply (length buffer) s e) ≡ 0
      → OneEvent (length s.replies) (reply_account s e) (length (acted supply buffer s e).state.replies)
  unfolding pick
  reply-balances unknown z = nothing _ _ refl
  reply-balances misfit z = nothing _ _ refl
  reply-balances send z = nothing _ _ refl
  reply-balances (resend k) z = nothing _ _ refl
  reply-balances (arrive_data p) z =
      test (arrival_at s p).old
      (λ o. rw (o) (one-put _ _ (length-put _ s.replies)))
      (λ o. rw (o) (nothing _ _ refl))
  reply-balances reply z = one-put _ _ (length-put _ s.replies)
  reply-balances (arrive_reply p) z = one-arrived _ _ (gone p s.replies (front-passed (place_questions p s.replies) (mat.acknowledge_questions s.limits s.mat (reply_at s p)) z))
  reply-balances (lose_data p) z = nothing _ _ refl
  reply-balances (lose_reply p) z = one-lost _ _ (gone p s.replies z)
  reply-balances (tick d) z = some-dropped _ (expired d s.replies) _ (size-age d s.replies)

  -- done or refused
  module _ (e : Event) (size : LinkState → ℕ) (a : Account)
      (done : first_no (questions supply (length buffer) s e) ≡ 0 → OneEvent (size s) a (size (acted supply buffer s e).state)) where
    either-balances : OneEvent (size s) (if_done supply buffer s e a) (size (stepped supply buffer s e).state)
    unfolding stepped
    either-balances =
        test (eqb (answer supply buffer s e) 0)
        (λ y. rw (
          pick_yes (eqb (answer supply buffer s e) 0) a no_account a y refl,
          pick_yes (eqb (answer supply buffer s e) 0) (acted supply buffer s e) (unmoved s buffer) (acted supply buffer s e) y refl,
        )
        (done (eqb-true (answer supply buffer s e) 0 y)))
        (λ n. rw (
          pick_no (eqb (answer supply buffer s e) 0) a no_account no_account n refl,
          pick_no (eqb (answer supply buffer s e) 0) (acted supply buffer s e) (unmoved s buffer) (unmoved s buffer) n refl,
        )
        (nothing (size s) (size s) refl))

  pub datas-balance : (e : Event) → OneEvent (length s.datas) (if_done supply buffer s e (data_account s e)) (length (stepped supply buffer s e).state.datas)
  datas-balance e = either-balances e (λ (t : LinkState). length t.datas) (data_account s e) (data-balances e)

  pub replies-balance : (e : Event) → OneEvent (length s.replies) (if_done supply buffer s e (reply_account s e)) (length (stepped supply buffer s e).state.replies)
  replies-balance e = either-balances e (λ (t : LinkState). length t.replies) (reply_account s e) (reply-balances e)

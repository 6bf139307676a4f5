-- The ticks of the list: the wait's three parts pass, and a part of 0 is refused and changes nothing.
use Prim.Native.Nat.{ℕ, ◌-◌, ◌*◌, ◌≤◌, ◌<◌}
use mathlib.Core.Path.{◌≡◌, refl, sym, ap, ap₂}
use mathlib.Core.List.{List, [], ◌∷◌, ◌++◌}
use native.Mathlib.Omega.{arith}
use lib.Dec.{leb}
use borrow.Author.Tests.{leb-true, leb-false}
use lib.ListN.{length}
use Rattle.limits.specs.declared.Limits.{Limits}
use Rattle.limits.specs.Cells.{row_at}
use Rattle.limits.specs.Questions.{pick}
use Rattle.limits.specs.Tables.{age}
use Rattle.limits.specs.Events.{Event, misfit, tick, event}
use Rattle.limits.proofs.Laws.Choice.{test}
use Rattle.mat.specs.Window.{MatState}
use Rattle.mat.specs.Rules as mat
use Rattle.events.specs.Rules.{acted}
use Rattle.events.specs.State.{LinkState}
use Rattle.leastwait.specs.NoShorterWait.{answer_to_tick}
use Rattle.events.proofs.Laws.Sums.{same-rows}
use Rattle.leastwait.proofs.Laws.Goes.{reached, Does, leaves, does, refuses}
use Rattle.leastwait.proofs.Laws.Supply.{number}
use Rattle.leastwait.proofs.Laws.Forms.{out, free, held, data_message, reply_message, link_of, last_timer, timers-fall, life-falls, free-ticked, held-ticked}

-- the state after d ticks
abbrev later : ℕ → LinkState → LinkState
later d s = (acted [] [] s (tick d)).state

-- the event of kind 8 and argument d, by its answer
on-tick : (P : Event → ℕ → Type 0) (d : ℕ) → (1 ≤ d → P (tick d) 0) → (d ≡ 0 → P misfit 9) → P (event 8 d) (answer_to_tick d)
unfolding event pick
on-tick P d f g = test (leb 1 d) (λ e. rw e (f (leb-true 1 d e))) (λ e. rw e (g (let h = leb-false 1 d e in omega arith)))

unless-passed : (a d : ℕ) → d ≡ 0 → a ≡ a - d
unless-passed a d z = omega arith

-- two times, t and f, of a state fall by d
pub passes : (supply written rest : List ℕ) (sent acked recorded : ℕ) → length written ≡ 16 * recorded
    → (state : ℕ → ℕ → LinkState) (d t f : ℕ) → later d (state t f) ≡ state (t - d) (f - d)
    → Does supply (reached (state t f) sent acked recorded written rest) (event 8 d) (answer_to_tick d) (reached (state (t - d) (f - d)) sent acked recorded written rest)
unfolding pick
passes supply written rest sent acked recorded fits state d t f falls =
    on-tick (λ e n. Does supply (reached (state t f) sent acked recorded written rest) e n (reached (state (t - d) (f - d)) sent acked recorded written rest)) d
    (λ h. leaves (does supply (state t f) sent acked recorded written rest fits (tick d) _ refl refl)
    (ap₂ (λ u k. record { state = u; counts = k; buffer = written ++ rest }) falls (sym (same-rows (record { sent = sent; acknowledged = acked; recorded = recorded })))))
    (λ z. leaves (refuses supply (state t f) sent acked recorded written rest fits misfit 9 refl refl)
    (ap₂ (λ u v. reached (state u v) sent acked recorded written rest) (unless-passed t d z) (unless-passed f d z)))

-- row 0 is outstanding, with t left on its resend timer
abbrev pub first_out : Limits → List ℕ → ℕ → MatState
first_out l supply t = out (number l 0) (number l 1) (row_at supply 0) (last_timer l.window t)

-- its message is in the air, the pad holds it, its reply is in the air
abbrev pub in_air : Limits → List ℕ → ℕ → ℕ → LinkState
in_air l supply t life = link_of l (first_out l supply t) (free l.window (number l 0)) (data_message (number l 0) (row_at supply 0) life ∷ []) []

abbrev pub at_pad : Limits → List ℕ → ℕ → ℕ → LinkState
at_pad l supply t timer = link_of l (first_out l supply t) (held l.window (number l 0) timer (row_at supply 0)) [] []

abbrev pub in_reply : Limits → List ℕ → ℕ → ℕ → LinkState
in_reply l supply t life = link_of l (first_out l supply t) (free l.window (number l 1)) [] (reply_message (number l 0) life ∷ [])

module _ (l : Limits) (supply : List ℕ) (d t : ℕ) where
  mat-falls : mat.ticked d (first_out l supply t) ≡ first_out l supply (t - d)
  unfolding mat.ticked
  mat-falls = ap (out (number l 0) (number l 1) (row_at supply 0)) (timers-fall d l.window t)

  pub in-air-falls : (life : ℕ) → d < life → later d (in_air l supply t life) ≡ in_air l supply (t - d) (life - d)
  unfolding age
  in-air-falls life h =
      λ i. link_of l (mat-falls i) (free-ticked d l.window (number l 0) i) (life-falls d (record { number = number l 0; row = row_at supply 0 }) life h i) []

  pub at-pad-falls : (timer : ℕ) → later d (at_pad l supply t timer) ≡ at_pad l supply (t - d) (timer - d)
  unfolding age
  at-pad-falls timer = λ i. link_of l (mat-falls i) (held-ticked d l.window (number l 0) timer (row_at supply 0) i) [] []

  pub in-reply-falls : (life : ℕ) → d < life → later d (in_reply l supply t life) ≡ in_reply l supply (t - d) (life - d)
  unfolding age
  in-reply-falls life h =
      λ i. link_of l (mat-falls i) (free-ticked d l.window (number l 1) i) [] (life-falls d (record { first = number l 0; last = number l 0 }) life h i)

-- How far the counts of a ride can reach, and how many answers it gives.
use Prim.Native.Nat.{ℕ, ◌*◌, ◌/◌, ◌≤◌}
use mathlib.Core.Path.{◌≡◌, refl, ◌∙◌}
use mathlib.Core.List.{List, [], ◌∷◌}
use native.Mathlib.Omega.{arith}
use lib.ListN.{length}
use Rattle.limits.specs.declared.Limits.{Limits}
use Rattle.limits.specs.Limits.{limits_questions, accepted}
use Rattle.limits.specs.Questions.{first_no}
use Rattle.limits.specs.Events.{Event, events}
use Rattle.limits.proofs.Laws.Questions.{front-passed}
use Rattle.limits.proofs.Laws.Events.{event-count}
use Rattle.limits.proofs.Laws.Good.{Good, good, accepted-sound}
use Rattle.unbounded.specs.Ends.{Ends, fresh}
use Rattle.unbounded.specs.Rules.{after}
use Rattle.unbounded.specs.Lists.{answers, after_all}
use Rattle.unbounded.proofs.Laws.Invariant.{Inv, fresh-inv}
use Rattle.unbounded.proofs.Laws.Keep.{keep-after}
use Rattle.unbounded.proofs.Laws.Carried.{Carried, fresh-carried, carried-after}
use Rattle.runs.specs.View.{lent_questions}
use Rattle.ride.specs.Ride.{ride_questions, ends_of, answers_of}

-- what an end holds: the counts in their order, and no row beyond the supply
pub record Bounded (supply : List ℕ) (s : Ends) : Type 0 where
  pub acknowledged : s.oldest ≤ s.wanted
  pub recorded : s.wanted ≤ s.next
  pub sent : 16 * s.next ≤ length supply

bounded-all : (l : Limits) (g : Good l) (supply : List ℕ) (space : ℕ) (s : Ends) (es : List Event) → Inv l s → Carried supply space s
    → Bounded supply (after_all l supply space s es)
unfolding after_all
bounded-all l g supply space s [] i c = record { acknowledged = i.base.low; recorded = i.base.mid; sent = c.supplied }
bounded-all l g supply space s (e ∷ es) i c =
    bounded-all l g supply space (after l supply space s e) es (keep-after l g supply space s e i) (carried-after l g supply space s e i c)

-- the unbounded ends after a ride that is not refused
pub bounded : (asked : Limits) (bytes supply answers : List ℕ) (space : ℕ) → first_no (ride_questions asked bytes supply answers) ≡ 0
    → Bounded supply (ends_of asked bytes supply space)
unfolding ends_of
bounded asked bytes supply answers space e =
    let l = accepted asked in
    let g = good l (accepted-sound asked (front-passed (limits_questions asked) (lent_questions bytes supply answers) e)) in
    bounded-all l g supply space fresh (events bytes) (fresh-inv l g) (fresh-carried supply space)

answer-each : (l : Limits) (supply : List ℕ) (space : ℕ) (s : Ends) (es : List Event) → length (answers l supply space s es) ≡ length es
unfolding answers
answer-each l supply space s [] = refl
answer-each l supply space s (e ∷ es) = let h = answer-each l supply space (after l supply space s e) es in omega arith

pub answer-count : (asked : Limits) (bytes supply : List ℕ) (space : ℕ) → length (answers_of asked bytes supply space) ≡ length bytes / 2
unfolding answers_of
answer-count asked bytes supply space = answer-each (accepted asked) supply space fresh (events bytes) ∙ event-count bytes

-- Which numbers an answer can be: 0 or the code of a question that is put.
use Prim.Native.Nat.{ℕ}
use mathlib.Core.Path.{◌≡◌, refl}
use mathlib.Core.Bool.{Bool, true, not}
use mathlib.Core.List.{List, [], ◌∷◌, ◌++◌}
use lib.Dec.{eqb}
use Rattle.limits.specs.declared.Limits.{Limits}
use Rattle.limits.specs.Lists.{all}
use Rattle.limits.specs.Questions.{Question, first_no, whole_rows}
use Rattle.limits.specs.Events.{Event, unknown, misfit, send, resend, arrive_data, reply, arrive_reply, lose_data, lose_reply, tick}
use Rattle.limits.proofs.Laws.Choice.{and_left, and_right, both, pick-cases}
use Rattle.events.specs.State.{LinkState}
use Rattle.events.specs.Rules as link
use Rattle.runs.specs.View.{lent_questions}
use Rattle.unbounded.specs.Ends.{Ends}
use Rattle.unbounded.specs.Rules as unbounded
use Rattle.unbounded.specs.Lists.{answers}
use Rattle.agreement.specs.Agreed.{never_full}

-- what passes for 0 and for every code passes for the first no
pub first_passes : (p : ℕ → Bool) (qs : List Question) → p 0 ≡ true → all (λ (q : Question). p q.code) qs ≡ true → p (first_no qs) ≡ true
unfolding all
first_passes p [] z h = z
first_passes p (q ∷ qs) z h =
    pick-cases (λ n. p n ≡ true) q.passes (first_no qs) q.code
    (λ e. first_passes p qs z (and_right (p q.code) (all (λ (q : Question). p q.code) qs) h))
    (λ e. and_left (p q.code) (all (λ (q : Question). p q.code) qs) h)

abbrev pub not4 : ℕ → Bool
not4 n = not (eqb n 4)

pub run-not4 : (bytes supply answers : List ℕ) → not4 (first_no (lent_questions bytes supply answers)) ≡ true
unfolding all
run-not4 bytes supply answers = first_passes not4 (lent_questions bytes supply answers) refl refl

pub single-not4 : (supply : List ℕ) (space : ℕ) (s : LinkState) (e : Event)
    → not4 (first_no (whole_rows supply ++ link.questions supply space s e)) ≡ true
unfolding all
single-not4 supply space s e = first_passes not4 (whole_rows supply ++ link.questions supply space s e) refl (codes e)
  where
    codes : (e : Event) → all (λ (q : Question). not4 q.code) (whole_rows supply ++ link.questions supply space s e) ≡ true
    codes unknown = refl
    codes misfit = refl
    codes send = refl
    codes (resend k) = refl
    codes (arrive_data p) = refl
    codes reply = refl
    codes (arrive_reply p) = refl
    codes (lose_data p) = refl
    codes (lose_reply p) = refl
    codes (tick d) = refl

-- The unbounded ends have no limit to meet.
never-full : (l : Limits) (supply : List ℕ) (space : ℕ) (s : Ends) (e : Event) → never_full (unbounded.answer l supply space s e) ≡ true
unfolding all
never-full l supply space s e = first_passes never_full (unbounded.questions l supply space s e) refl (codes e)
  where
    codes : (e : Event) → all (λ (q : Question). never_full q.code) (unbounded.questions l supply space s e) ≡ true
    codes unknown = refl
    codes misfit = refl
    codes send = refl
    codes (resend k) = refl
    codes (arrive_data p) = refl
    codes reply = refl
    codes (arrive_reply p) = refl
    codes (lose_data p) = refl
    codes (lose_reply p) = refl
    codes (tick d) = refl

pub none-full : (l : Limits) (supply : List ℕ) (space : ℕ) (s : Ends) (es : List Event) → all never_full (answers l supply space s es) ≡ true
unfolding all answers
none-full l supply space s [] = refl
none-full l supply space s (e ∷ es) =
    both (never_full (unbounded.answer l supply space s e)) (all never_full (answers l supply space (unbounded.after l supply space s e) es))
    (never-full l supply space s e) (none-full l supply space (unbounded.after l supply space s e) es)

-- The questions that the call for one event and the run put in front.
use Prim.Native.Nat.{ℕ, ◌/◌, ◌%◌, ◌≤◌, ◌<◌}
use mathlib.Core.Path.{◌≡◌, refl, sym, ◌∙◌, ap}
use mathlib.Core.Bool.{Bool, true, false}
use mathlib.Core.List.{List, [], ◌∷◌, ◌++◌}
use lib.Dec.{eqb, leb}
use lib.ListN.{length, take}
use borrow.Author.Tests.{eq-eqb, ne_eqb, le-leb, lt-leb, eqb-true, leb-true}
use Rattle.limits.specs.declared.answer.Refusal.{Refusal}
use Rattle.limits.specs.declared.answer.Refusal.TheVariants.{Unsound, PartialRow}
use Rattle.std.specs.Prelude.{Result, Ok, Err}
use Rattle.std.specs.Result.{IsErrAnd}
use Rattle.limits.specs.Answer.{refusal_number}
use Rattle.limits.specs.Questions.{pick, Question, ask, first_no, whole_rows}
use Rattle.limits.specs.Lists.{all}
use Rattle.limits.specs.Events.{event}
use Rattle.limits.proofs.Laws.Choice.{pick_yes, pick_no}
use Rattle.limits.proofs.Laws.Promise.{refusal-not-0, changed-handed_on}
use Rattle.limits.proofs.Laws.Questions.{each}
use Rattle.events.specs.declared.Link.{Link}
use Rattle.events.specs.declared.Counts.{Counts}
use Rattle.events.specs.Counts.{no_counts, risen}
use Rattle.events.specs.Rules.{questions}
use Rattle.events.specs.View.{link_state, sound_link, Counted}
use Rattle.lists.specs.View.{Run, refuses, running}
use Rattle.runs.specs.View.{Stepped, RunCall, Ran, lent_asks, lent_questions}
use Rattle.events.proofs.Laws.Ends.{refused, call-as}
use Rattle.events.proofs.Laws.Counting.{counted-done, counted-refused}

-- a question that is answered no, and one that is passed, in front of others
no-first : (code : ℕ) (b : Bool) (qs : List Question) → b ≡ false → code ≡ first_no (ask code b ∷ qs)
no-first code b qs e = sym (pick_no b (first_no qs) code code e refl)

no-later : (code : ℕ) (b : Bool) (qs : List Question) (found : ℕ) → b ≡ true → found ≡ first_no qs → found ≡ first_no (ask code b ∷ qs)
no-later code b qs found e f = f ∙ sym (pick_yes b (first_no qs) code (first_no qs) e refl)

module _ (k : Link) (kind argument : ℕ) (supply before : List ℕ) where
  abbrev own : List Question
  own = questions supply (length before) (link_state k) (event kind argument)

  pub step-unsound : sound_link k ≡ false → Stepped k kind argument supply before before k (Err Unsound)
  step-unsound e = refused _ _ k k before Unsound (no-first 4 (sound_link k) (whole_rows supply ++ own) e) refl

  module _ (e : sound_link k ≡ true) where
    pub step_partial : (length supply % 16 ≡ 0 → ⊥) → Stepped k kind argument supply before before k (Err PartialRow)
    step_partial n =
        refused _ _ k k before PartialRow
        (no-later 4 (sound_link k) (whole_rows supply ++ own) 6 e (no-first 6 (eqb (length supply % 16) 0) own (ne_eqb (length supply % 16) 0 n))) refl

    -- the event's own questions behind 4 and 6
    module _ (z : length supply % 16 ≡ 0) (after : List ℕ) (k' : Link) (n n' : Counts) (none : n ≡ no_counts) where
      both-passed : first_no own ≡ first_no (ask 4 (sound_link k) ∷ (whole_rows supply ++ own))
      both-passed = no-later 4 (sound_link k) (whole_rows supply ++ own) _ e (no-later 6 (eqb (length supply % 16) 0) own _ (eq-eqb (length supply % 16) 0 z) refl)

      pub step-done : Counted k supply before after n (event kind argument) k' n' (Ok tt) → Stepped k kind argument supply before after k' (Ok n')
      step-done c =
          call-as own (ask 4 (sound_link k) ∷ (whole_rows supply ++ own)) _ _ k k' before after (Ok n') both-passed refl
          (counted-done k supply before after (event kind argument) k' n n' none c)

      pub step-refused : (r : Result Counts Refusal) (x : Refusal) → IsErrAnd r (λ y. y ≡ x)
          → Counted k supply before after n (event kind argument) k' n' (Err x) → Stepped k kind argument supply before after k' r
      step-refused r x i c =
          call-as own (ask 4 (sound_link k) ∷ (whole_rows supply ++ own)) _ _ k k' before after r both-passed refl
          (counted-refused k supply before after (event kind argument) k' n n' r x i c)

module _ (k : Link) (bytes supply before answers : List ℕ) where
  abbrev asked : List Question
  asked = ask 4 (sound_link k) ∷ lent_questions bytes supply answers

  -- 4, 5, 6 or 7
  pub run-refused : (r : Result Counts Refusal) (x : Refusal) → IsErrAnd r (λ e. e ≡ x) → refusal_number x ≡ first_no asked
      → Ran k bytes supply before before answers answers k r
  run-refused r x i e = record { called = changed-handed_on asked r x _ _ _ _ _ _ i e refl; still = λ _. refl }

  pub run-unsound : sound_link k ≡ false → Ran k bytes supply before before answers answers k (Err Unsound)
  run-unsound e = run-refused (Err Unsound) Unsound refl (no-first 4 (sound_link k) (lent_questions bytes supply answers) e)

  module _ (e : sound_link k ≡ true) where
    pub run-asked : (r : Result Counts Refusal) (x : Refusal) → IsErrAnd r (λ e. e ≡ x) → refusal_number x ≡ first_no (lent_questions bytes supply answers)
        → Ran k bytes supply before before answers answers k r
    run-asked r x i f = run-refused r x i (no-later 4 (sound_link k) (lent_questions bytes supply answers) _ e f)

    pub run-done : (after answers_after : List ℕ) (k' : Link) (n : Counts) → 0 ≡ first_no (lent_questions bytes supply answers) → sound_link k' ≡ true
        → record { state = link_state k'; counts = n; buffer = after; answers = answers_after } ≡ running k bytes supply before answers
        → (all refuses (take (length bytes / 2) answers_after) ≡ true → k' ≡ k)
        → Ran k bytes supply before after answers answers_after k' (Ok n)
    run-done after answers_after k' n f h t same =
        record {
          called =
              record {
                answered =
                    record {
                      number = no-later 4 (sound_link k) (lent_questions bytes supply answers) 0 e f;
                      value = ap (λ (x : Run). x.counts) t;
                    };
                left = λ i. ((t i).state, (t i).buffer, (t i).answers);
                kept = tt;
                stays = λ _. h;
              };
          still = same;
        }

-- what a refused run leaves
abbrev pub none-ran : Link → List ℕ → List ℕ → Run
none-ran k before answers_before = record { state = link_state k; counts = no_counts; buffer = before; answers = answers_before }

-- what a run shows, done or refused
pub run-shows : (done : Run) (k : Link) (bytes supply before answers_before : List ℕ) (k' : Link) (after answers_after : List ℕ) (r : Result Counts Refusal)
    → RunCall done k bytes supply before answers_before k' after answers_after r
    → record { state = link_state k'; counts = risen r; buffer = after; answers = answers_after }
    ≡ pick (eqb (first_no (ask 4 (sound_link k) ∷ lent_questions bytes supply answers_before)) 0) done (none-ran k before answers_before)
run-shows done k bytes supply before answers_before k' after answers_after (Ok n) c =
    (λ i. record { state = (c.left i).0; counts = c.answered.value i; buffer = (c.left i).1; answers = (c.left i).2 })
    ∙ sym (pick_yes _ _ _ _ (eq-eqb _ _ (sym c.answered.number)) refl)
run-shows done k bytes supply before answers_before k' after answers_after (Err x) c =
    (λ i. none-ran (c.kept i).0 (c.kept i).1 (c.kept i).2)
    ∙ sym (pick_no _ _ _ _ (ap (λ n. eqb n 0) (sym c.answered.number) ∙ refusal-not-0 x) refl)

-- 5, 6 and 7, one after the other
module _ (bytes supply answers : ℕ) where
  pub fits-odd : (bytes % 2 ≡ 0 → ⊥) → 5 ≡ first_no (lent_asks bytes supply answers)
  fits-odd n = no-first 5 (eqb (bytes % 2) 0) (ask 6 (eqb (supply % 16) 0) ∷ ask 7 (leb (bytes / 2) answers) ∷ []) (ne_eqb (bytes % 2) 0 n)

  module _ (z : bytes % 2 ≡ 0) where
    later : (found : ℕ) → found ≡ first_no (ask 6 (eqb (supply % 16) 0) ∷ ask 7 (leb (bytes / 2) answers) ∷ []) → found ≡ first_no (lent_asks bytes supply answers)
    later found f = no-later 5 (eqb (bytes % 2) 0) (ask 6 (eqb (supply % 16) 0) ∷ ask 7 (leb (bytes / 2) answers) ∷ []) found (eq-eqb (bytes % 2) 0 z) f

    pub fits-partial : (supply % 16 ≡ 0 → ⊥) → 6 ≡ first_no (lent_asks bytes supply answers)
    fits-partial n = later 6 (no-first 6 (eqb (supply % 16) 0) (ask 7 (leb (bytes / 2) answers) ∷ []) (ne_eqb (supply % 16) 0 n))

    module _ (y : supply % 16 ≡ 0) where
      last : (found : ℕ) → found ≡ first_no (ask 7 (leb (bytes / 2) answers) ∷ []) → found ≡ first_no (lent_asks bytes supply answers)
      last found f = later found (no-later 6 (eqb (supply % 16) 0) (ask 7 (leb (bytes / 2) answers) ∷ []) found (eq-eqb (supply % 16) 0 y) f)

      pub fits-short : answers < bytes / 2 → 7 ≡ first_no (lent_asks bytes supply answers)
      fits-short h = last 7 (no-first 7 (leb (bytes / 2) answers) [] (lt-leb (bytes / 2) answers h))

      pub fits_all : bytes / 2 ≤ answers → 0 ≡ first_no (lent_asks bytes supply answers)
      fits_all h = last 0 (sym (pick_yes (leb (bytes / 2) answers) 0 7 0 (le-leb (bytes / 2) answers h) refl))

-- what a run wants of what is lent
pub run-needs : (bytes supply answers : ℕ) → 0 ≡ first_no (lent_asks bytes supply answers) → (bytes % 2 ≡ 0) × (bytes / 2 ≤ answers)
unfolding all
run-needs bytes supply answers e =
    let passed = each (lent_asks bytes supply answers) refl (sym e) in
    (eqb-true (bytes % 2) 0 passed.0, leb-true (bytes / 2) answers passed.1.1.0)

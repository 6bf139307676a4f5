-- Questions are put in order. The first one answered no gives the number, and 0 means done.
use Rattle.std.specs.Prelude.{ℕ, ◌%◌, ◌≡◌, Bool, true, false, List, [], ◌∷◌, eqb, leb, length, Result, IfOk, OnOk, OnErr}
use Rattle.limits.specs.declared.answer.Refusal.{Refusal}
use Rattle.limits.specs.Answer.{number_of}

unfoldable pub pick : {A : Type 0} → Bool → A → A → A
pick true yes_value no_value = yes_value
pick false yes_value no_value = no_value

pub record Question : Type 0 where
  pub code : ℕ
  pub passes : Bool

abbrev pub ask : ℕ → Bool → Question
ask n b = record { code = n; passes = b }

abbrev pub first_no : List Question → ℕ
first_no [] = 0
first_no (q ∷ qs) = pick q.passes (first_no qs) q.code

-- A call that puts `questions` answers with the first no, and with `done` where all were passed.
pub record Answered {X : Type 0} (questions : List Question) (result : Result X Refusal) (done : X) : Type 0 where
  pub number : number_of result ≡ first_no questions
  pub value : IfOk result (λ x. x ≡ done)

-- A call that changes a state in place: what it answers, and what is shown of the state that it leaves. A refused call leaves the
-- state exactly as it was given, and every call leaves a sound state sound.
pub record Changed {S V X : Type 0} (questions : List Question) (result : Result X Refusal) (done : X) (shown moved : V) (sound : S → Bool) (before after : S) : Type 0 where
  pub answered : Answered questions result done
  pub left : OnOk result (shown ≡ moved)
  pub kept : OnErr result (after ≡ before)
  pub stays : sound before ≡ true → sound after ≡ true

-- An answer with nothing beside it.
abbrev pub Answer : Type 0
Answer = Result (Unit {0}) Refusal

-- time passes by d ticks
abbrev pub time_questions : ℕ → List Question
time_questions d = ask 9 (leb 1 d) ∷ []

-- the supply is whole rows of sixteen cells
abbrev pub whole_rows : List ℕ → List Question
whole_rows supply = ask 6 (eqb (length supply % 16) 0) ∷ []

-- What lookups in a horse's file promise.
use Rattle.std.specs.Prelude.{ℕ, ◌≡◌, ◌+◌, List, eqb, Result, IfOk}
use denote.Bor.{Bor}
use Rattle.limits.specs.declared.answer.Refusal.{Refusal}
use Rattle.limits.specs.Answer.{number_of}
use Rattle.limits.specs.Questions.{pick, Question, first_no}
use Rattle.horsefile.specs.declared.Entry.{Entry}
use Rattle.horsefile.specs.Layout.{body, body_bytes}

-- A call that hands back the body of an entry as a part of the lent file: what it answers, what the part holds, and that it stands
-- at the entry's start, counted from the file's first byte.
pub record Handed (questions : List Question) (file : Bor (List ℕ)) (e : Entry) (result : Result (Bor (List ℕ)) Refusal) : Type 0 where
  pub number : number_of result ≡ first_no questions
  pub value : IfOk result (λ r. r.now ≡ body file.now e)
  pub stands : IfOk result (λ r. r.ref_ptr ≡ (file.ref_ptr.0, e.start + file.ref_ptr.1))

-- Where a part stands, in bytes.
pub record Place : Type 0 where
  pub start : ℕ
  pub size : ℕ

abbrev pub place : ℕ → ℕ → Place
place start size = record { start = start; size = size }

abbrev pub body_place : Entry → Place
body_place e = place e.start (body_bytes e.saved)

-- The same of a function for C, which returns the answer's number and gives the part's place: 0 and 0 where it is refused.
pub record PlaceNumber (questions : List Question) (found : Place) (start size r : ℕ) : Type 0 where
  pub number : r ≡ first_no questions
  pub stands : place start size ≡ pick (eqb (first_no questions) 0) found (place 0 0)

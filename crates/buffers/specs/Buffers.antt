-- Bytes written into a buffer, and what writers promise.
use Rattle.std.specs.Prelude.{ℕ, ◌+◌, ◌≡◌, List, ◌++◌, eqb, length, take, drop, Result, OnOk, OnErr}
use Rattle.limits.specs.declared.answer.Refusal.{Refusal}
use Rattle.limits.specs.Questions.{pick, Question, first_no, Answered}

-- what a buffer holds once `text` is written at `at`
unfoldable pub wrote : ℕ → List ℕ → List ℕ → List ℕ
wrote at text buffer = take at buffer ++ (text ++ drop (at + length text) buffer)

-- what a writer of a part promises: the whole buffer afterwards, and the place behind the text
pub record Wrote (at : ℕ) (text before after : List ℕ) (next : ℕ) : Type 0 where
  pub buffer : after ≡ wrote at text before
  pub behind : next ≡ at + length text

-- What a public writer gives: how many bytes it wrote, and the whole buffer afterwards.
pub record Writing : Type 0 where
  pub count : ℕ
  pub buffer : List ℕ

abbrev pub writing : ℕ → List ℕ → Writing
writing n bytes = record { count = n; buffer = bytes }

-- A public writer answers with the count. A refused write leaves the buffer as it was.
pub record WriteCall (questions : List Question) (done : Writing) (result : Result ℕ Refusal) (before after : List ℕ) : Type 0 where
  pub answered : Answered questions result done.count
  pub left : OnOk result (after ≡ done.buffer)
  pub kept : OnErr result (after ≡ before)

-- The same of a function for C, which returns the answer's number: a refused write counts 0 bytes.
pub record WriteNumber (questions : List Question) (done : Writing) (before after : List ℕ) (count r : ℕ) : Type 0 where
  pub number : r ≡ first_no questions
  pub result : writing count after ≡ pick (eqb (first_no questions) 0) done (writing 0 before)

-- The trial's whole output, as text of its input: a refusal, or a line for each event and one for the counts.
use Rattle.std.specs.Prelude.{ℕ, ◌+◌, ◌*◌, ◌≤◌, List, [], ◌∷◌, ◌++◌, eqb, leb, length, drop, replicate, ◌≡◌, Result, IfOk, OnErr}
use Rattle.limits.specs.declared.answer.Refusal.{Refusal}
use Rattle.limits.specs.Answer.{number_of}
use Rattle.limits.specs.Questions.{pick, Question, ask, first_no}
use Rattle.unbounded.specs.Ends.{Ends}
use Rattle.events.specs.declared.Counts.{Counts}
use Rattle.lines.specs.Input.{readable, limits_of, supply_of, event_bytes}
use Rattle.lines.specs.Text.{event_lines, counts_line, refused_line}
use Rattle.ride.specs.Ride.{ride_questions, ends_of, answers_of}
use Rattle.buffers.specs.Buffers.{writing, Wrote, WriteCall}

-- An output of this length has room for the text of every input: 12 bytes for two of an event, and 40 for the counts.
abbrev pub output_length : ℕ
output_length = 245760

-- the answer buffer of the ride, long enough for the events of every input that 29 passes
abbrev pub no_answers : List ℕ
no_answers = replicate 20480 0

-- 29, then those of the ride
abbrev pub trial_questions : List ℕ → List Question
trial_questions input = ask 29 (readable input) ∷ ride_questions (limits_of input) (event_bytes input) (supply_of input) no_answers

-- Supply and record have the same length.
abbrev pub trial_ends : List ℕ → Ends
trial_ends input = ends_of (limits_of input) (event_bytes input) (supply_of input) (length (supply_of input))

abbrev pub trial_answers : List ℕ → List ℕ
trial_answers input = answers_of (limits_of input) (event_bytes input) (supply_of input) (length (supply_of input))

-- what an input prints that is not refused
unfoldable pub ride_text : List ℕ → List ℕ
ride_text input =
    event_lines (event_bytes input) (trial_answers input) ++ counts_line (trial_ends input).next (trial_ends input).oldest (trial_ends input).wanted

unfoldable pub text_of : List ℕ → List ℕ
text_of input = pick (eqb (first_no (trial_questions input)) 0) (ride_text input) (refused_line (first_no (trial_questions input)))

-- What the ride that an input asks for promises: its lines stand at the front of the output. Refused, it writes nothing.
pub record Ridden (input before after : List ℕ) (r : Result ℕ Refusal) : Type 0 where
  pub number : number_of r ≡ first_no (trial_questions input)
  pub lines : IfOk r (λ n. Wrote 0 (ride_text input) before after n)
  pub kept : OnErr r (after ≡ before)

-- 28, of the output
abbrev pub output_questions : List ℕ → List Question
output_questions output = ask 28 (leb output_length (length output)) ∷ []

-- The text stands at the front, and behind it the output is as it was.
abbrev pub Reports : List ℕ → List ℕ → List ℕ → Result ℕ Refusal → Type 0
Reports input before after r =
    WriteCall (output_questions before) (writing (length (text_of input)) (text_of input ++ drop (length (text_of input)) before)) r before after

-- what the writer of the lines asks for: room, an answer for each event, and counts of at most three digits
pub record Room (output events answers : List ℕ) (counts : Counts) : Type 0 where
  pub fits : 6 * length events + 40 ≤ length output
  pub answered : length events ≤ 2 * length answers
  pub sent : counts.sent ≤ 255
  pub acknowledged : counts.acknowledged ≤ 255
  pub recorded : counts.recorded ≤ 255

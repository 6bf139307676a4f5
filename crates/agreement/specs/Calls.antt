-- A list of calls on one link, runs and single events mixed. A call works on the link that came out of the call before it.
-- What is lent to it is the unsent rest of the supply and the unwritten rest of the record.
use Rattle.std.specs.Prelude.{ℕ, ◌*◌, List, [], ◌∷◌, ◌++◌, map, eqb, length, take, drop, Result}
use Rattle.limits.specs.declared.answer.Refusal.{Refusal}
use Rattle.limits.specs.Answer.{number_of}
use Rattle.limits.specs.Lists.{joined}
use Rattle.limits.specs.Questions.{pick, first_no, whole_rows}
use Rattle.limits.specs.Events.{Event, event, events}
use Rattle.events.specs.declared.Link.{Link}
use Rattle.events.specs.declared.Counts.{Counts}
use Rattle.events.specs.Counts.{no_counts, risen, added}
use Rattle.runs.specs.View.{Stepped, Ran, lent_questions}

-- a run with its event bytes and the contents of its answer buffer, or a single event
pub data Call : Type 0 where
  run : List ℕ → List ℕ → Call
  single : ℕ → ℕ → Call

-- a call with the link that it left, its answer, and the contents at exit of the record's part and of the answer buffer, which a
-- single event has not
pub record Made : Type 0 where
  pub call : Call
  pub link : Link
  pub result : Result Counts Refusal
  pub buffer : List ℕ
  pub answers : List ℕ

-- where a list of calls has come to: the link, the counts added up, and the whole record
pub record Line : Type 0 where
  pub link : Link
  pub counts : Counts
  pub buffer : List ℕ

abbrev pub start : Link → List ℕ → Line
start k buffer = record { link = k; counts = no_counts; buffer = buffer }

abbrev pub following : Line → Made → Line
following x c =
    record {
      link = c.link;
      counts = added x.counts (risen c.result);
      buffer = take (16 * x.counts.recorded) x.buffer ++ c.buffer;
    }

-- the call met its contract, where `supply` and `buffer` are the parts lent to it
abbrev pub Met : Link → List ℕ → List ℕ → Made → Call → Type 0
Met k supply buffer c (run bytes answers) = Ran k bytes supply buffer c.buffer answers c.answers c.link c.result
Met k supply buffer c (single kind argument) = Stepped k kind argument supply buffer c.buffer c.link c.result

-- every call of the list met its contract
abbrev pub Chain : List ℕ → Line → List Made → Type 0
Chain supply x [] = Unit {0}
Chain supply x (c ∷ cs) =
    Met x.link (drop (16 * x.counts.sent) supply) (drop (16 * x.counts.recorded) x.buffer) c c.call × Chain supply (following x c) cs

abbrev pub end_of : Line → List Made → Line
end_of x [] = x
end_of x (c ∷ cs) = end_of (following x c) cs

-- the events that a call adds to the list; one refused by 5, 6 or 7 adds none
abbrev pub events_of : List ℕ → Call → List Event
events_of supply (run bytes answers) = pick (eqb (first_no (lent_questions bytes supply answers)) 0) (events bytes) []
events_of supply (single kind argument) = pick (eqb (first_no (whole_rows supply)) 0) (event kind argument ∷ []) []

-- the numbers that a call gave to its events: a run in its answer buffer, a single event as its answer
abbrev pub given_by : Call → Made → List ℕ
given_by (run bytes answers) c = c.answers
given_by (single kind argument) c = number_of c.result ∷ []

abbrev pub numbers_of : List ℕ → Made → List ℕ
numbers_of supply c = take (length (events_of supply c.call)) (given_by c.call c)

abbrev pub all_events : List ℕ → List Made → List Event
all_events supply cs = joined (map (λ (c : Made). events_of supply c.call) cs)

abbrev pub all_numbers : List ℕ → List Made → List ℕ
all_numbers supply cs = joined (map (numbers_of supply) cs)

-- No resend wait below the three times' sum less 2 is long enough. For every shorter one, from 1 on, here is a list of events, and what
-- the rules of the built ends make of it where question 3 is not asked: the supply's first row is recorded a second time, as row 2w.
use Rattle.std.specs.Prelude.{ℕ, ◌+◌, ◌-◌, ◌*◌, ◌%◌, ◌≡◌, ◌≤◌, ◌<◌, min, Bool, true, not, ◌&&◌, List, [], ◌∷◌, ◌++◌, eqb, leb, length, take, drop, replicate, Result}
use Rattle.limits.specs.declared.Limits.{Limits}
use Rattle.limits.specs.declared.answer.Refusal.{Refusal}
use Rattle.limits.specs.Answer.{number_of}
use Rattle.limits.specs.Lists.{all, joined}
use Rattle.limits.specs.Cells.{legal_cell, row_at}
use Rattle.limits.specs.Questions.{pick, first_no}
use Rattle.limits.specs.Limits.{between, sum_of_times, window_fits, times_fit, limits_questions}
use Rattle.limits.specs.Events.{events}
use Rattle.events.specs.declared.Counts.{Counts}
use Rattle.events.specs.State.{Moved, unmoved}
use Rattle.events.specs.View.{link_state}
use Rattle.lists.specs.Runs.{after_all, answers}
use Rattle.link.specs.View.{fresh_link}
use Rattle.ride.specs.Ride.{Rode}

-- Limits that pass questions 1 and 2, and a wait from 1 to the times' sum less 3 (so that the sum is at least 4).
abbrev pub too_short : Limits → Bool
too_short l = window_fits l.window && (times_fit l && between 1 (sum_of_times l - 3) l.resendwait)

-- The wait in three parts, each shorter than one of the times: row 0 is in the air, the pad holds it, its reply is in the air.
abbrev pub data_part : Limits → ℕ
data_part l = min l.resendwait (l.datalife - 1)

abbrev pub pad_part : Limits → ℕ
pad_part l = min (l.resendwait - data_part l) (l.replywait - 1)

abbrev pub reply_part : Limits → ℕ
reply_part l = l.resendwait - data_part l - pad_part l

-- Row 0 is sent, arrives and is recorded. It is sent again while its reply is in the air; that reply acknowledges it.
abbrev pub first_row : Limits → List ℕ
first_row l =
    1 ∷ 0 ∷ 8 ∷ data_part l ∷ 3 ∷ 0 ∷ 8 ∷ pad_part l ∷ 4 ∷ 0 ∷ 8 ∷ reply_part l ∷ 2 ∷ 0 ∷ 5 ∷ 0 ∷ []

-- A further row is sent, arrives, is recorded and acknowledged. The second message of row 0 stays in the air, in front of its own.
abbrev pub further_row : List ℕ
further_row = 1 ∷ 0 ∷ 3 ∷ 1 ∷ 4 ∷ 0 ∷ 5 ∷ 0 ∷ []

-- That message arrives, and what it carries is recorded.
abbrev pub old_row : List ℕ
old_row = 3 ∷ 0 ∷ 4 ∷ 0 ∷ []

-- the bytes of the list
abbrev pub list_of : Limits → List ℕ
list_of l = first_row l ++ (joined (replicate (2 * l.window - 1) further_row) ++ old_row)

-- A part of the wait may be 0. A tick of 0 is refused with 9 and changes nothing; every other event is done.
abbrev pub answer_to_tick : ℕ → ℕ
answer_to_tick d = pick (leb 1 d) 0 9

abbrev pub list_answers : Limits → List ℕ
list_answers l =
    (0 ∷ answer_to_tick (data_part l) ∷ 0 ∷ answer_to_tick (pad_part l) ∷ 0 ∷ answer_to_tick (reply_part l) ∷ 0 ∷ 0 ∷ [])
    ++ (joined (replicate (2 * l.window - 1) (replicate 4 0)) ++ replicate 2 0)

-- a link of just these limits, fresh, and a record with these contents
abbrev pub start : Limits → List ℕ → Moved
start l before = unmoved (link_state (fresh_link l)) before

-- what a list of bytes leaves of them, and what it answers
abbrev pub end_of : Limits → List ℕ → List ℕ → List ℕ → Moved
end_of l bytes supply before = after_all supply (start l before) (events bytes)

abbrev pub answers_of : Limits → List ℕ → List ℕ → List ℕ → List ℕ
answers_of l bytes supply before = answers supply (start l before) (events bytes)

-- What the list does: these answers, of which none is 21, and a row more recorded than sent. The record is the supply's first 2w rows, then
-- its row 0 again, and then what stood there.
pub record RecordsAnOldRow (l : Limits) (supply before : List ℕ) : Type 0 where
  pub answered : answers_of l (list_of l) supply before ≡ list_answers l
  pub sent : (end_of l (list_of l) supply before).counts.sent ≡ 2 * l.window
  pub recorded : (end_of l (list_of l) supply before).counts.recorded ≡ 2 * l.window + 1
  pub record_is : (end_of l (list_of l) supply before).buffer ≡ take (16 * (2 * l.window)) supply ++ (row_at supply 0 ++ drop (16 * (2 * l.window + 1)) before)
  pub last_row : row_at (end_of l (list_of l) supply before).buffer (2 * l.window) ≡ row_at supply 0

abbrev pub are_bytes : List ℕ → Bool
are_bytes xs = all (λ n. leb n 255) xs

-- The request's own words: some list of events from fresh, with legal supply and record long enough, records more rows than were sent.
pub record RecordsMoreThanSent (l : Limits) : Type 0 where
  pub list : List ℕ
  pub supply : List ℕ
  pub before : List ℕ
  pub bytes : are_bytes list ≡ true
  pub whole_rows : length supply % 16 ≡ 0
  pub legal : all legal_cell supply ≡ true
  pub long_enough : all (λ n. not (eqb n 21)) (answers_of l list supply before) ≡ true
  pub more : (end_of l list supply before).counts.sent < (end_of l list supply before).counts.recorded

-- The list does it with every supply of 2w legal rows and every record with space for one row more.
pub record Fails (l : Limits) : Type 0 where
  pub bytes : are_bytes (list_of l) ≡ true
  pub always : (supply before : List ℕ) → all legal_cell supply ≡ true → 16 * (2 * l.window) ≤ length supply → 16 * (2 * l.window + 1) ≤ length before → RecordsAnOldRow l supply before
  pub some : RecordsMoreThanSent l

abbrev pub NoShorterWait : Type 0
NoShorterWait = (l : Limits) → too_short l ≡ true → Fails l

-- Such limits are refused with 3, and so is a ride with them, whatever its events are.
pub record Refused (l : Limits) : Type 0 where
  pub opening : first_no (limits_questions l) ≡ 3
  pub riding : (bytes supply before after answers_before answers_after : List ℕ) (r : Result Counts Refusal) → Rode l bytes supply before after answers_before answers_after r
      → number_of r ≡ 3

abbrev pub ShortWaitsRefused : Type 0
ShortWaitsRefused = (l : Limits) → too_short l ≡ true → Refused l

-- And question 3 asks for no longer one: every wait from the sum less 2 to 1000 passes.
abbrev pub LongerWaitsPass : Type 0
LongerWaitsPass =
    (l : Limits) → window_fits l.window ≡ true → times_fit l ≡ true → between (sum_of_times l - 2) 1000 l.resendwait ≡ true
    → first_no (limits_questions l) ≡ 0

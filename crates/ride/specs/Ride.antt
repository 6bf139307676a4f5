-- What a ride promises. A ride opens a link and runs a list of events on it: answers, record and counts of rows are those of the
-- unbounded ends. These keep no account of the air; that is by the rules of the built ends, from the fresh link on.
use Rattle.std.specs.Prelude.{ℕ, ◌*◌, ◌/◌, ◌≡◌, List, ◌++◌, length, take, drop, Result, IfOk, OnErr}
use Rattle.limits.specs.declared.Limits.{Limits}
use Rattle.limits.specs.Limits.{limits_questions, accepted}
use Rattle.limits.specs.declared.answer.Refusal.{Refusal}
use Rattle.limits.specs.Answer.{number_of}
use Rattle.limits.specs.Questions.{Question, first_no}
use Rattle.limits.specs.Events.{Event, events}
use Rattle.unbounded.specs.Ends.{Ends, fresh}
use Rattle.unbounded.specs.Lists as unbounded
use Rattle.events.specs.declared.Counts.{Counts}
use Rattle.events.specs.State.{LinkState, Rows, unmoved}
use Rattle.events.specs.Counts.{Account, counts_of}
use Rattle.events.specs.Account.{data_account, reply_account}
use Rattle.events.specs.View.{link_state}
use Rattle.lists.specs.Account.{account}
use Rattle.runs.specs.View.{lent_questions}
use Rattle.link.specs.View.{fresh_link}

-- 1, 2, 3 of the limits, then 5, 6, 7 of what is lent. A link just opened passes 4.
abbrev pub ride_questions : Limits → List ℕ → List ℕ → List ℕ → List Question
ride_questions asked bytes supply answers = limits_questions asked ++ lent_questions bytes supply answers

-- the unbounded ends after the events; `space` is the record's length
unfoldable pub ends_of : Limits → List ℕ → List ℕ → ℕ → Ends
ends_of asked bytes supply space = unbounded.after_all (accepted asked) supply space fresh (events bytes)

-- their answers to the events
unfoldable pub answers_of : Limits → List ℕ → List ℕ → ℕ → List ℕ
answers_of asked bytes supply space = unbounded.answers (accepted asked) supply space fresh (events bytes)

-- the rows sent, acknowledged and recorded
abbrev pub rows_in : Ends → Rows
rows_in s = record { sent = s.next; acknowledged = s.oldest; recorded = s.wanted }

-- one table's account
abbrev pub account_in : (LinkState → Event → Account) → Limits → List ℕ → List ℕ → List ℕ → Account
account_in of_event asked bytes supply before = account of_event supply (unmoved (link_state (fresh_link (accepted asked))) before) (events bytes)

-- the counts, and the contents of the record and of the answer buffer
pub record Riding : Type 0 where
  pub counts : Counts
  pub buffer : List ℕ
  pub answers : List ℕ

-- What is recorded is the supply's first rows, in order; behind it both buffers are as they were.
abbrev pub riding : Limits → List ℕ → List ℕ → List ℕ → List ℕ → Riding
riding asked bytes supply before answers_before =
    let s = ends_of asked bytes supply (length before) in
    record {
      counts = counts_of (rows_in s) (account_in data_account asked bytes supply before) (account_in reply_account asked bytes supply before);
      buffer = take (16 * s.wanted) supply ++ drop (16 * s.wanted) before;
      answers = answers_of asked bytes supply (length before) ++ drop (length bytes / 2) answers_before;
    }

-- A refused ride writes nothing.
pub record Rode (asked : Limits) (bytes supply before after answers_before answers_after : List ℕ) (r : Result Counts Refusal) : Type 0 where
  pub number : number_of r ≡ first_no (ride_questions asked bytes supply answers_before)
  pub done : IfOk r (λ n. record { counts = n; buffer = after; answers = answers_after } ≡ riding asked bytes supply before answers_before)
  pub kept : OnErr r ((after ≡ before) × (answers_after ≡ answers_before))

-- What a list of events gives, of a link that passed question 4, and what a refusal is.
use Rattle.std.specs.Prelude.{ℕ, ◌/◌, Bool, not, List, ◌++◌, eqb, length, drop}
use Rattle.limits.specs.Events.{events}
use Rattle.events.specs.declared.Link.{Link}
use Rattle.events.specs.declared.Counts.{Counts}
use Rattle.events.specs.State.{LinkState, unmoved}
use Rattle.events.specs.Counts.{counts_of}
use Rattle.events.specs.Account.{data_account, reply_account}
use Rattle.events.specs.View.{link_state}
use Rattle.lists.specs.Runs.{after_all, answers}
use Rattle.lists.specs.Account.{account}

-- the number of an answer other than done
abbrev pub refuses : ℕ → Bool
refuses n = not (eqb n 0)

-- what a run leaves: the link, the counts, the record and the answer buffer
pub record Run : Type 0 where
  pub state : LinkState
  pub counts : Counts
  pub buffer : List ℕ
  pub answers : List ℕ

abbrev pub running : Link → List ℕ → List ℕ → List ℕ → List ℕ → Run
running k bytes supply before answers_before =
    let start = unmoved (link_state k) before in
    let left = after_all supply start (events bytes) in
    record {
      state = left.state;
      counts = counts_of left.counts (account data_account supply start (events bytes)) (account reply_account supply start (events bytes));
      buffer = left.buffer;
      answers = answers supply start (events bytes) ++ drop (length bytes / 2) answers_before;
    }

-- The counts of an event, a call or a list: of rows, and of the messages that were put in each table and left it.
use Rattle.std.specs.Prelude.{ℕ, ◌+◌, ◌≡◌, Result, Ok, Err}
use Rattle.limits.specs.declared.answer.Refusal.{Refusal}
use Rattle.events.specs.declared.Account as account_type
use Rattle.events.specs.declared.Counts.{Counts}
use Rattle.events.specs.State.{Rows, no_rows, more_rows}

-- messages put, arrived, lost, and dropped by age
abbrev pub Account : Type 0
Account = account_type.Account

abbrev pub no_account : Account
no_account = record { put = 0; arrived = 0; lost = 0; dropped = 0 }

abbrev pub one_put : Account
one_put = record { put = 1; arrived = 0; lost = 0; dropped = 0 }

abbrev pub one_arrived : Account
one_arrived = record { put = 0; arrived = 1; lost = 0; dropped = 0 }

abbrev pub one_lost : Account
one_lost = record { put = 0; arrived = 0; lost = 1; dropped = 0 }

abbrev pub dropped_by : ℕ → Account
dropped_by n = record { put = 0; arrived = 0; lost = 0; dropped = n }

abbrev pub more_messages : Account → Account → Account
more_messages a b =
    record {
      put = a.put + b.put;
      arrived = a.arrived + b.arrived;
      lost = a.lost + b.lost;
      dropped = a.dropped + b.dropped;
    }

-- counts of rows with the accounts of both tables
abbrev pub counts_of : Rows → Account → Account → Counts
counts_of n datas replies =
    record {
      sent = n.sent;
      acknowledged = n.acknowledged;
      recorded = n.recorded;
      datas = datas;
      replies = replies;
    }

-- the counts of rows alone
abbrev pub rows_of : Counts → Rows
rows_of n = record { sent = n.sent; acknowledged = n.acknowledged; recorded = n.recorded }

abbrev pub no_counts : Counts
no_counts = counts_of no_rows no_account no_account

abbrev pub added : Counts → Counts → Counts
added a b = counts_of (more_rows (rows_of a) (rows_of b)) (more_messages a.datas b.datas) (more_messages a.replies b.replies)

-- by how much a call raised the counts: a refused one not at all
abbrev pub risen : Result Counts Refusal → Counts
risen (Ok n) = n
risen (Err refusal) = no_counts

-- The law of an account: as many messages as were in the table at first and were put have arrived, were lost, were dropped, or are
-- left.
abbrev pub Balances : ℕ → Account → ℕ → Type 0
Balances first a left = first + a.put ≡ a.arrived + a.lost + a.dropped + left

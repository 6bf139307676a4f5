-- The account of the air: what an event that is answered with 0 puts in each table and takes from it, in the state that it finds.
use Rattle.std.specs.Prelude.{ℕ, List, eqb}
use Rattle.limits.specs.Questions.{pick}
use Rattle.limits.specs.Tables.{expired}
use Rattle.limits.specs.Events.{Event, unknown, misfit, send, resend, arrive_data, reply, arrive_reply, lose_data, lose_reply, tick}
use Rattle.events.specs.declared.Counts.{Counts}
use Rattle.events.specs.State.{LinkState}
use Rattle.events.specs.Counts.{Account, no_account, one_put, one_arrived, one_lost, dropped_by, counts_of}
use Rattle.events.specs.Rules.{arrival_at, acted, answer}

-- of the data table
abbrev pub data_account : LinkState → Event → Account
data_account s unknown = no_account
data_account s misfit = no_account
data_account s send = one_put
data_account s (resend k) = one_put
data_account s (arrive_data p) = one_arrived
data_account s reply = no_account
data_account s (arrive_reply p) = no_account
data_account s (lose_data p) = one_lost
data_account s (lose_reply p) = no_account
data_account s (tick d) = dropped_by (expired d s.datas)

-- of the reply table: an old row that arrives is replied to
abbrev pub reply_account : LinkState → Event → Account
reply_account s unknown = no_account
reply_account s misfit = no_account
reply_account s send = no_account
reply_account s (resend k) = no_account
reply_account s (arrive_data p) = pick (arrival_at s p).old one_put no_account
reply_account s reply = one_put
reply_account s (arrive_reply p) = one_arrived
reply_account s (lose_data p) = no_account
reply_account s (lose_reply p) = one_lost
reply_account s (tick d) = dropped_by (expired d s.replies)

-- a refused event adds nothing
abbrev pub if_done : List ℕ → List ℕ → LinkState → Event → Account → Account
if_done supply buffer s e a = pick (eqb (answer supply buffer s e) 0) a no_account

-- all that an event adds to the counts that is answered with 0
abbrev pub counted : List ℕ → List ℕ → LinkState → Event → Counts
counted supply buffer s e = counts_of (acted supply buffer s e).counts (data_account s e) (reply_account s e)

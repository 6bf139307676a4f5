-- The law of the account of the air, of every link whatsoever: what a call or a list of calls counted balances in both tables.
use Rattle.std.specs.Prelude.{ℕ, ◌≡◌, List, length, Result, Ok}
use Rattle.limits.specs.declared.Limits.{Limits}
use Rattle.limits.specs.declared.answer.Refusal.{Refusal}
use Rattle.air.specs.Data.{data_messages}
use Rattle.air.specs.Replies.{reply_messages}
use Rattle.events.specs.declared.Link.{Link}
use Rattle.events.specs.declared.Counts.{Counts}
use Rattle.events.specs.State.{unmoved}
use Rattle.events.specs.Counts.{Balances, risen}
use Rattle.events.specs.Account.{data_account, reply_account}
use Rattle.events.specs.View.{link_state}
use Rattle.lists.specs.Account.{account}
use Rattle.runs.specs.View.{Stepped, Ran}
use Rattle.link.specs.View.{Opened}
use Rattle.agreement.specs.Calls.{Made, start, Chain, end_of, all_events}

-- `n` was counted on the way from link `k` to link `left`
pub record Balanced (k : Link) (n : Counts) (left : Link) : Type 0 where
  pub datas : Balances (length (data_messages k.datas)) n.datas (length (data_messages left.datas))
  pub replies : Balances (length (reply_messages k.replies)) n.replies (length (reply_messages left.replies))

-- of a call for one event, and of a run
abbrev pub StepsBalance : Type 0
StepsBalance =
    (k : Link) (kind argument : ℕ) (supply before after : List ℕ) (k' : Link) (r : Result Counts Refusal)
    → Stepped k kind argument supply before after k' r → Balanced k (risen r) k'

abbrev pub RunsBalance : Type 0
RunsBalance =
    (k : Link) (bytes supply before after answers_before answers_after : List ℕ) (k' : Link) (r : Result Counts Refusal)
    → Ran k bytes supply before after answers_before answers_after k' r → Balanced k (risen r) k'

-- of every list of calls: their counts added up
abbrev pub ChainsBalance : Type 0
ChainsBalance =
    (k : Link) (supply first : List ℕ) (cs : List Made) → Chain supply (start k first) cs
    → Balanced k (end_of (start k first) cs).counts (end_of (start k first) cs).link

-- The counts of the calls on an opened link, added up, are the account of all their events.
abbrev pub ChainsCount : Type 0
ChainsCount =
    (asked : Limits) (k : Link) → Opened asked (Ok k) → (supply first : List ℕ) (cs : List Made) → Chain supply (start k first) cs
    → ((end_of (start k first) cs).counts.datas ≡ account data_account supply (unmoved (link_state k) first) (all_events supply cs))
    × ((end_of (start k first) cs).counts.replies ≡ account reply_account supply (unmoved (link_state k) first) (all_events supply cs))

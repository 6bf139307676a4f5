-- The account of a list of events: what each of them adds that is answered with 0, in the state that the events before it left. Their
-- answers are those of `answers` (Runs).
use Rattle.std.specs.Prelude.{ℕ, List, [], ◌∷◌}
use Rattle.limits.specs.Events.{Event}
use Rattle.events.specs.State.{LinkState, Moved}
use Rattle.events.specs.Counts.{Account, no_account, more_messages}
use Rattle.events.specs.Account.{if_done}
use Rattle.lists.specs.Runs.{supply_left, buffer_left, next}

-- `of_event` is one table's account of an event
unfoldable pub account : (LinkState → Event → Account) → List ℕ → Moved → List Event → Account
account of_event supply x [] = no_account
account of_event supply x (e ∷ es) =
    more_messages (if_done (supply_left supply x) (buffer_left x) x.state e (of_event x.state e)) (account of_event supply (next supply x e) es)

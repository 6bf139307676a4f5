-- Torn cells stand in the record of a ride where the mat read them.
use Rattle.std.specs.Prelude.{ℕ, List, Ok}
use Rattle.limits.specs.declared.Limits.{Limits}
use Rattle.events.specs.declared.Counts.{Counts}
use Rattle.agreement.specs.Torn.{Stays}
use Rattle.ride.specs.Ride.{Rode}

-- after every ride that is not refused
abbrev pub TornCellsStayInRides : Type 0
TornCellsStayInRides =
    (asked : Limits) (bytes supply before after answers_before answers_after : List ℕ) (n : Counts)
    → Rode asked bytes supply before after answers_before answers_after (Ok n)
    → Stays supply after n.recorded

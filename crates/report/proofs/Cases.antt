-- The paper's example of the trial, computed of the definitions.
use Prim.Native.Nat.{ℕ}
use mathlib.Core.Path.{◌≡◌, refl}
use mathlib.Core.List.{List, [], ◌∷◌, ◌++◌}
use Rattle.limits.specs.Lists.{tab, all, leading, joined}
use Rattle.limits.specs.Cells.{legal_cell}
use Rattle.limits.specs.Limits.{least_wait, window_fits, times_fit, wait_fits, accepted}
use Rattle.limits.specs.Questions.{pick}
use Rattle.limits.specs.Events.{event}
use Rattle.limits.specs.Tables.{remove, age}
use Rattle.unbounded.specs.Ends.{at}
use Rattle.unbounded.specs.Rules.{after}
use Rattle.unbounded.specs.Lists.{answers, after_all}
use Rattle.lines.specs.Input.{readable, limits_of, cell_at, supply_of, event_bytes}
use Rattle.lines.specs.Text.{decimal, event_line, event_lines, counts_line, refused_line}
use Rattle.ride.specs.Ride.{ends_of, answers_of}
use Rattle.report.specs.Report.{ride_text, text_of}

-- half a row: eight cells, each 5, low byte first
abbrev fives : List ℕ
fives = 5 ∷ 0 ∷ 5 ∷ 0 ∷ 5 ∷ 0 ∷ 5 ∷ 0 ∷ 5 ∷ 0 ∷ 5 ∷ 0 ∷ 5 ∷ 0 ∷ 5 ∷ 0 ∷ []

-- w as given, times 2, 2, 2, wait 7, one row, and `events`
abbrev input : ℕ → List ℕ → List ℕ
input w events = (w ∷ 2 ∷ 2 ∷ 2 ∷ 7 ∷ 0 ∷ 1 ∷ []) ++ (fives ++ (fives ++ events))

abbrev four : List ℕ
four = 1 ∷ 0 ∷ 3 ∷ 0 ∷ 4 ∷ 0 ∷ 5 ∷ 0 ∷ []

-- the lines "1 0 0", "3 0 0", "4 0 0", "5 0 0", "sent 1 acknowledged 1 recorded 1"
pub example : text_of (input 1 four)
    ≡ (49 ∷ 32 ∷ 48 ∷ 32 ∷ 48 ∷ 10 ∷ [])
    ++ (51 ∷ 32 ∷ 48 ∷ 32 ∷ 48 ∷ 10 ∷ [])
    ++ (52 ∷ 32 ∷ 48 ∷ 32 ∷ 48 ∷ 10 ∷ [])
    ++ (53 ∷ 32 ∷ 48 ∷ 32 ∷ 48 ∷ 10 ∷ [])
    ++ (115 ∷ 101 ∷ 110 ∷ 116 ∷ 32 ∷ 49 ∷ [])
    ++ (32 ∷ 97 ∷ 99 ∷ 107 ∷ 110 ∷ 111 ∷ 119 ∷ 108 ∷ 101 ∷ 100 ∷ 103 ∷ 101 ∷ 100 ∷ 32 ∷ 49 ∷ [])
    ++ (32 ∷ 114 ∷ 101 ∷ 99 ∷ 111 ∷ 114 ∷ 100 ∷ 101 ∷ 100 ∷ 32 ∷ 49 ∷ 10 ∷ [])
unfolding text_of ride_text ends_of answers_of readable limits_of cell_at supply_of event_bytes decimal event_line event_lines counts_line refused_line answers after_all after at pick tab all leading joined remove age event legal_cell least_wait window_fits times_fit wait_fits accepted
example = refl

-- w 0, and an event without its argument
pub refused-1 : text_of (input 0 four) ≡ refused_line 1
unfolding text_of ride_text readable limits_of pick window_fits
refused-1 = refl

pub refused-5 : text_of (input 1 (1 ∷ [])) ≡ refused_line 5
unfolding text_of ride_text readable limits_of event_bytes pick window_fits times_fit least_wait wait_fits
refused-5 = refl

pub refused-29 : text_of (1 ∷ 2 ∷ 2 ∷ 2 ∷ 7 ∷ 0 ∷ []) ≡ refused_line 29
unfolding text_of readable pick
refused-29 = refl

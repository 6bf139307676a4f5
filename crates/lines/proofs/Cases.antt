-- The paper's example of the trial, computed of the definitions, and the numbers where the count of digits changes.
use Prim.Native.Nat.{ℕ}
use mathlib.Core.Path.{◌≡◌, refl}
use mathlib.Core.Bool.{true, false}
use mathlib.Core.List.{List, [], ◌∷◌, ◌++◌}
use lib.ListN.{replicate}
use Rattle.limits.specs.Questions.{pick}
use Rattle.limits.specs.Lists.{tab}
use Rattle.lines.specs.Input.{readable, limits_of, cell_at, supply_of, event_bytes}
use Rattle.lines.specs.Text.{decimal, event_line, event_lines, counts_line, refused_line}

-- half a row: eight cells, each 5, low byte first
abbrev fives : List ℕ
fives = 5 ∷ 0 ∷ 5 ∷ 0 ∷ 5 ∷ 0 ∷ 5 ∷ 0 ∷ 5 ∷ 0 ∷ 5 ∷ 0 ∷ 5 ∷ 0 ∷ 5 ∷ 0 ∷ []

abbrev events : List ℕ
events = 1 ∷ 0 ∷ 3 ∷ 0 ∷ 4 ∷ 0 ∷ 5 ∷ 0 ∷ []

abbrev input : List ℕ
input = (1 ∷ 2 ∷ 2 ∷ 2 ∷ 7 ∷ 0 ∷ 1 ∷ []) ++ (fives ++ (fives ++ events))

pub example-readable : readable input ≡ true
unfolding readable
example-readable = refl

-- a byte of the row is missing
pub example-short : readable ((1 ∷ 2 ∷ 2 ∷ 2 ∷ 7 ∷ 0 ∷ 1 ∷ []) ++ replicate 31 0) ≡ false
unfolding readable
example-short = refl

pub example-limits : limits_of input ≡ record { window = 1; datalife = 2; replylife = 2; replywait = 2; resendwait = 7 }
unfolding limits_of
example-limits = refl

-- a resend wait and a cell of two bytes each, low byte first
pub low-byte-first : ((limits_of (0 ∷ 0 ∷ 0 ∷ 0 ∷ 232 ∷ 3 ∷ [])).resendwait ≡ 1000) × (cell_at (replicate 7 0 ++ (255 ∷ 15 ∷ [])) 0 ≡ 4095)
unfolding limits_of cell_at
low-byte-first = (refl, refl)

pub example-supply : supply_of input ≡ replicate 16 5
unfolding supply_of tab cell_at
example-supply = refl

pub example-events : event_bytes input ≡ events
unfolding event_bytes
example-events = refl

-- the four lines "1 0 0", "3 0 0", "4 0 0", "5 0 0"
pub example-lines : event_lines (event_bytes input) (replicate 4 0)
    ≡ (49 ∷ 32 ∷ 48 ∷ 32 ∷ 48 ∷ 10 ∷ [])
    ++ (51 ∷ 32 ∷ 48 ∷ 32 ∷ 48 ∷ 10 ∷ [])
    ++ (52 ∷ 32 ∷ 48 ∷ 32 ∷ 48 ∷ 10 ∷ [])
    ++ (53 ∷ 32 ∷ 48 ∷ 32 ∷ 48 ∷ 10 ∷ [])
unfolding event_lines event_line event_bytes decimal pick
example-lines = refl

-- "sent 1 acknowledged 1 recorded 1"
pub example-counts : counts_line 1 1 1
    ≡ (115 ∷ 101 ∷ 110 ∷ 116 ∷ 32 ∷ 49 ∷ [])
    ++ (32 ∷ 97 ∷ 99 ∷ 107 ∷ 110 ∷ 111 ∷ 119 ∷ 108 ∷ 101 ∷ 100 ∷ 103 ∷ 101 ∷ 100 ∷ 32 ∷ 49 ∷ [])
    ++ (32 ∷ 114 ∷ 101 ∷ 99 ∷ 111 ∷ 114 ∷ 100 ∷ 101 ∷ 100 ∷ 32 ∷ 49 ∷ 10 ∷ [])
unfolding counts_line decimal pick
example-counts = refl

-- "refused 29"
pub refused-29 : refused_line 29 ≡ 114 ∷ 101 ∷ 102 ∷ 117 ∷ 115 ∷ 101 ∷ 100 ∷ 32 ∷ 50 ∷ 57 ∷ 10 ∷ []
unfolding refused_line decimal pick
refused-29 = refl

-- 0, 9, 10, 99, 100, 255
pub digits : (decimal 0 ≡ 48 ∷ []) × (decimal 9 ≡ 57 ∷ []) × (decimal 10 ≡ 49 ∷ 48 ∷ []) × (decimal 99 ≡ 57 ∷ 57 ∷ [])
    × (decimal 100 ≡ 49 ∷ 48 ∷ 48 ∷ []) × (decimal 255 ≡ 50 ∷ 53 ∷ 53 ∷ [])
unfolding decimal pick
digits = (refl, refl, refl, refl, refl, refl)

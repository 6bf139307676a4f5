-- The mat (sender) as its window: the outstanding rows from oldest on, and the resend timers of the w rows before next.
use Rattle.std.specs.Prelude.{ℕ, ◌+◌, ◌-◌, Bool, false, List, [], length, get_or}

-- a row that was sent and is kept, with its mark
pub record Kept : Type 0 where
  pub acknowledged : Bool
  pub cells : List ℕ

-- `oldest` is the first unacknowledged number, `next` the number to be sent. `rows` are the outstanding rows, from oldest to
-- next - 1. `timers` are the resend timers of the w rows before next, acknowledged ones too, from next - w to next - 1.
pub record MatState : Type 0 where
  pub oldest : ℕ
  pub next : ℕ
  pub rows : List Kept
  pub timers : List ℕ

abbrev pub no_row : Kept
no_row = record { acknowledged = false; cells = [] }

abbrev pub outstanding : MatState → ℕ
outstanding s = length s.rows

-- outstanding row k, counted from the oldest as 0, and where its timer stands among those of the w rows before next
abbrev pub row_of : MatState → ℕ → Kept
row_of s k = get_or s.rows k no_row

abbrev pub timer_place : ℕ → MatState → ℕ → ℕ
timer_place w s k = w - outstanding s + k

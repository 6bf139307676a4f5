-- How the trial's input is laid out: six bytes of limits, the number of rows, the cells of the rows, then event bytes.
use Rattle.std.specs.Prelude.{ℕ, ◌+◌, ◌*◌, Bool, ◌&&◌, List, leb, length, drop}
use Rattle.limits.specs.declared.Limits.{Limits}
use Rattle.limits.specs.Lists.{tab}
use Rattle.buffers.specs.Bytes.{byte, number2}

abbrev pub most_input : ℕ
most_input = 40960

abbrev pub row_count : List ℕ → ℕ
row_count input = byte input 6

-- A row is 32 bytes; the events start behind the rows.
abbrev pub event_start : List ℕ → ℕ
event_start input = 7 + 32 * row_count input

-- question 29
unfoldable pub readable : List ℕ → Bool
readable input = leb (event_start input) (length input) && leb (length input) most_input

unfoldable pub limits_of : List ℕ → Limits
limits_of input =
    record {
      window = byte input 0;
      datalife = byte input 1;
      replylife = byte input 2;
      replywait = byte input 3;
      resendwait = number2 input 4;
    }

-- cell i of all the rows, counted from 0
unfoldable pub cell_at : List ℕ → ℕ → ℕ
cell_at input i = number2 input (7 + 2 * i)

unfoldable pub supply_of : List ℕ → List ℕ
supply_of input = tab (16 * row_count input) (cell_at input)

unfoldable pub event_bytes : List ℕ → List ℕ
event_bytes input = drop (event_start input) input

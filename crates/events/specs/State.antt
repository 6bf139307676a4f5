-- The link as its parts: limits, mat, pad and the messages in the air. And what an event or a run makes of it.
use Rattle.std.specs.Prelude.{ℕ, ◌+◌, List}
use Rattle.limits.specs.declared.Limits.{Limits}
use Rattle.limits.specs.Tables.{Message, Data, Reply}
use Rattle.mat.specs.Window.{MatState}
use Rattle.pad.specs.Window.{PadState}

pub record LinkState : Type 0 where
  pub limits : Limits
  pub mat : MatState
  pub pad : PadState
  pub datas : List (Message Data)
  pub replies : List (Message Reply)

-- by how many rows sent, acknowledged and recorded rose
pub record Rows : Type 0 where
  pub sent : ℕ
  pub acknowledged : ℕ
  pub recorded : ℕ

-- the state, the counts of rows, and the record's contents
pub record Moved : Type 0 where
  pub state : LinkState
  pub counts : Rows
  pub buffer : List ℕ

abbrev pub no_rows : Rows
no_rows = record { sent = 0; acknowledged = 0; recorded = 0 }

-- one row sent, rows acknowledged, rows recorded
abbrev pub one_sent : Rows
one_sent = record { sent = 1; acknowledged = 0; recorded = 0 }

abbrev pub acknowledged_by : ℕ → Rows
acknowledged_by n = record { sent = 0; acknowledged = n; recorded = 0 }

abbrev pub recorded_by : ℕ → Rows
recorded_by n = record { sent = 0; acknowledged = 0; recorded = n }

abbrev pub more_rows : Rows → Rows → Rows
more_rows a b =
    record {
      sent = a.sent + b.sent;
      acknowledged = a.acknowledged + b.acknowledged;
      recorded = a.recorded + b.recorded;
    }

abbrev pub unmoved : LinkState → List ℕ → Moved
unmoved s buffer = record { state = s; counts = no_rows; buffer = buffer }

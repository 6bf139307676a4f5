-- The pad's events: data arrives, a reply for the run of rows at wanted, time passes.
use Rattle.std.specs.Prelude.{ℕ, ◌-◌, ◌*◌, Bool, true, false, List, [], ◌∷◌, ◌++◌, map, leb, ltb, take, drop, set, replicate}
use Rattle.limits.specs.declared.Limits.{Limits}
use Rattle.limits.specs.Lists.{leading, joined}
use Rattle.limits.specs.Questions.{pick, Question, ask}
use Rattle.limits.specs.Ring.{distance, step}
use Rattle.limits.specs.Tables.{Data, Reply, no_reply}
use Rattle.pad.specs.Window.{Slot, empty, full, PadState, ready, contents}

-- What an arrival gives: the state, and where the row was an old one, the reply to put.
pub record Arrival : Type 0 where
  pub state : PadState
  pub old : Bool
  pub reply : Reply

-- the row fills its slot, whatever was there, and its reply timer starts
abbrev pub holding : Limits → PadState → Data → PadState
holding l s x =
    record {
      wanted = s.wanted;
      slots = set s.slots (distance (2 * l.window) s.wanted x.number) (full l.replywait x.row);
    }

-- A number less than w on from wanted is a row of the window, any other is an old row.
unfoldable pub arrival : Limits → PadState → Data → Arrival
arrival l s x =
    pick (ltb (distance (2 * l.window) s.wanted x.number) l.window)
    (record { state = holding l s x; old = false; reply = no_reply.body })
    (record { state = s; old = true; reply = record { first = x.number; last = x.number } })

-- how many rows from wanted on are ready without a break
abbrev pub run : PadState → ℕ
run s = leading ready s.slots

abbrev pub run_questions : PadState → List Question
run_questions s = ask 20 (ltb 0 (run s)) ∷ []

-- `space` is how many cells the record has left
abbrev pub reply_questions : PadState → ℕ → List Question
reply_questions s space = run_questions s ++ (ask 21 (leb (16 * run s) space) ∷ [])

-- What a reply gives: the state, the rows recorded, the reply to put and the record.
pub record Replying : Type 0 where
  pub state : PadState
  pub count : ℕ
  pub reply : Reply
  pub buffer : List ℕ

-- the run's rows stand at the record's front, one reply covers them, and wanted passes them
unfoldable pub replying : Limits → PadState → List ℕ → Replying
replying l s buffer =
    record {
      state = record { wanted = step (2 * l.window) s.wanted (run s); slots = drop (run s) s.slots ++ replicate (run s) empty };
      count = run s;
      reply = record { first = s.wanted; last = step (2 * l.window) s.wanted (run s - 1) };
      buffer = joined (map contents (take (run s) s.slots)) ++ drop (16 * run s) buffer;
    }

abbrev pub slot_falls : ℕ → Slot → Slot
slot_falls d empty = empty
slot_falls d (full timer row) = full (timer - d) row

-- every reply timer falls by d and stops at 0
unfoldable pub ticked : ℕ → PadState → PadState
ticked d s = record { wanted = s.wanted; slots = map (slot_falls d) s.slots }

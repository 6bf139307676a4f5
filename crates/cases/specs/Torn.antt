-- Torn cells: a ride on both ends, a frame and a page, as the rules give them.
use Rattle.std.specs.Prelude.{ℕ, ◌≡◌, List, [], ◌∷◌, ◌++◌, replicate, set}
use Rattle.limits.specs.Questions.{first_no}
use Rattle.limits.specs.Events.{events, send}
use Rattle.frames.specs.declared.Frame.{Frame}
use Rattle.frames.specs.declared.Frame.TheVariants.{Data}
use Rattle.frames.specs.Layout.{bytes_of, reading}
use Rattle.frames.specs.Rules.{read_questions, write_questions}
use Rattle.page.specs.Page.{page_text, page_questions}
use Rattle.unbounded.specs.Ends.{fresh}
use Rattle.unbounded.specs.Rules as unbounded_rules
use Rattle.unbounded.specs.Lists as unbounded
use Rattle.events.specs.State.{Moved, unmoved}
use Rattle.events.specs.Rules as built_rules
use Rattle.lists.specs.Runs as built
use Rattle.events.specs.View.{link_state}
use Rattle.link.specs.View.{fresh_link}
use Rattle.cases.specs.Cases.{limits}

-- cells 0, 3 and 15 are torn
abbrev pub row : List ℕ
row = (65535 ∷ 0 ∷ 410 ∷ 65535 ∷ 4095 ∷ []) ++ (replicate 10 2048 ++ (65535 ∷ []))

-- The row is sent, lost and sent again; it arrives and is recorded, and its reply arrives.
abbrev pub ride : List ℕ
ride = 1 ∷ 0 ∷ 6 ∷ 0 ∷ 8 ∷ 4 ∷ 2 ∷ 0 ∷ 3 ∷ 0 ∷ 4 ∷ 0 ∷ 5 ∷ 0 ∷ []

-- the answers, and the record
pub record Seen : Type 0 where
  pub answers : List ℕ
  pub recorded : List ℕ

abbrev pub unbounded_ends : ℕ → Seen
unbounded_ends w =
    record {
      answers = unbounded.answers (limits w 4) row 16 fresh (events ride);
      recorded = (unbounded.after_all (limits w 4) row 16 fresh (events ride)).recorded;
    }

abbrev pub start : ℕ → Moved
start w = unmoved (link_state (fresh_link (limits w 4))) (replicate 16 0)

abbrev pub built_ends : ℕ → Seen
built_ends w =
    record {
      answers = built.answers row (start w) (events ride);
      recorded = (built.after_all row (start w) (events ride)).buffer;
    }

-- what a fresh link answers where it is to send these cells
abbrev pub unbounded_send : ℕ → List ℕ → ℕ
unbounded_send w cells = unbounded_rules.answer (limits w 4) cells 16 fresh send

abbrev pub built_send : ℕ → List ℕ → ℕ
built_send w cells = built_rules.answer cells (replicate 16 0) (link_state (fresh_link (limits w 4))) send

abbrev pub frame : List ℕ → Frame
frame cells = Data (record { life = 250; window = 32; «data» = record { number = 63; row = cells } })

-- each cell low byte first
abbrev pub frame_bytes : List ℕ
frame_bytes =
    1 ∷ 250 ∷ 32 ∷ 63 ∷ 255 ∷ 255 ∷ 0 ∷ 0 ∷ 154 ∷ 1 ∷ 255 ∷ 255 ∷ 255 ∷ 15
    ∷ 0 ∷ 8 ∷ 0 ∷ 8 ∷ 0 ∷ 8 ∷ 0 ∷ 8 ∷ 0 ∷ 8 ∷ 0 ∷ 8 ∷ 0 ∷ 8 ∷ 0 ∷ 8 ∷ 0 ∷ 8 ∷ 0 ∷ 8 ∷ 255 ∷ 255 ∷ []

-- "    0 -01-95555555555-" and a line end
abbrev pub page : List ℕ
page =
    32 ∷ 32 ∷ 32 ∷ 32 ∷ 48 ∷ 32 ∷ 45 ∷ 48 ∷ 49 ∷ 45 ∷ 57
    ∷ 53 ∷ 53 ∷ 53 ∷ 53 ∷ 53 ∷ 53 ∷ 53 ∷ 53 ∷ 53 ∷ 53 ∷ 45 ∷ 10 ∷ []

-- the row with 65534 for its last cell, and the bytes of a frame with that row
abbrev pub bad_row : List ℕ
bad_row = set row 15 65534

abbrev pub bad_bytes : List ℕ
bad_bytes = set frame_bytes 34 254

pub record TornCells (w : ℕ) : Type 0 where
  pub unbounded_ride : unbounded_ends w ≡ record { answers = replicate 7 0; recorded = row }
  pub built_ride : built_ends w ≡ record { answers = replicate 7 0; recorded = row }
  pub written : (first_no (write_questions (frame row) frame_bytes) ≡ 0) × (bytes_of (frame row) ≡ frame_bytes)
  pub read : (first_no (read_questions frame_bytes) ≡ 0) × (reading frame_bytes ≡ frame row)
  pub paged : (first_no (page_questions row 0 23) ≡ 0) × (page_text row 0 ≡ page)
  pub not_sent : (unbounded_send w bad_row ≡ 12) × (built_send w bad_row ≡ 12)
  pub not_written : first_no (write_questions (frame bad_row) frame_bytes) ≡ 12
  pub not_read : first_no (read_questions bad_bytes) ≡ 12
  pub not_paged : first_no (page_questions bad_row 0 23) ≡ 12

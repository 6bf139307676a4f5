-- How the pad's arrays show its window, question 4 of a pad, and what its calls promise.
-- Free, and not shown: the cells and reply timers of rows not held, and what stands beyond w. Of the timers question 4 asks
-- that all w are at most the reply wait, and every call keeps that.
use Rattle.std.specs.Prelude.{ℕ, ◌≡◌, ◌+◌, ◌*◌, ◌<◌, Bool, true, false, ◌&&◌, List, Option, Some, None, Result, leb, ltb, get_or, replicate}
use Rattle.limits.specs.declared.Limits.{Limits}
use Rattle.limits.specs.Lists.{tab, all}
use Rattle.limits.specs.Cells.{row_at, legal_row}
use Rattle.limits.specs.declared.answer.Refusal.{Refusal}
use Rattle.limits.specs.Limits.{sound_limits}
use Rattle.limits.specs.Questions.{pick, Question, Answer, Changed}
use Rattle.limits.specs.Ring.{place}
use Rattle.limits.specs.Tables.{Reply}
use Rattle.pad.specs.declared.Pad.{Pad}
use Rattle.pad.specs.declared.lentpad.LentPad.{LentPad}
use Rattle.pad.specs.declared.Replied.{Replied}
use Rattle.pad.specs.Window.{Slot, empty, full, PadState}
use Rattle.pad.specs.Rules.{Arrival, Replying}

-- the pad of its number and its three arrays
abbrev pub pad_of : ℕ → List Bool → List ℕ → List ℕ → Pad
pad_of wanted held timers cells = record { wanted = wanted; held = held; timers = timers; cells = cells }

-- the pad that is lent
abbrev pub lent_pad : LentPad → Pad
lent_pad p = pad_of p.wanted p.held.now p.timers.now p.cells.now

-- What every call leaves: the arrays that are lent, so that whoever lent them finds what it wrote.
abbrev pub StaysLent : LentPad → LentPad → Type 0
StaysLent a b =
    (b.held.ghost_name ≡ a.held.ghost_name) × (b.timers.ghost_name ≡ a.timers.ghost_name)
    × (b.cells.ghost_name ≡ a.cells.ghost_name)

-- the row at place p
unfoldable pub slot_at : Pad → ℕ → Slot
slot_at p at = pick (get_or p.held at false) (full (get_or p.timers at 0) (row_at p.cells at)) empty

unfoldable pub pad_state : ℕ → Pad → PadState
pad_state w p = record { wanted = p.wanted; slots = tab w (λ i. slot_at p (place w (p.wanted + i))) }

abbrev pub fresh_pad : Pad
fresh_pad = record { wanted = 0; held = replicate 32 false; timers = replicate 32 0; cells = replicate 512 0 }

abbrev pub sound_slot : Slot → Bool
sound_slot empty = true
sound_slot (full timer row) = legal_row row

-- every row held at the first w places has legal cells, by the arrays
abbrev pub HeldLegal : ℕ → List Bool → List ℕ → Type 0
HeldLegal w held cells = (k : ℕ) → k < w → pick (get_or held k false) (legal_row (row_at cells k)) true ≡ true

-- question 4 of a pad: its number, all w timers, and the cells of the rows held
unfoldable pub sound_pad : Limits → Pad → Bool
sound_pad l p =
    ltb p.wanted (2 * l.window)
    && (all (λ t. leb t l.replywait) (tab l.window (λ i. get_or p.timers i 0)) && all sound_slot (tab l.window (slot_at p)))

-- question 4 passed, of the limits and the pad
abbrev pub SoundAt : Limits → Pad → Type 0
SoundAt l p = (sound_limits l ≡ true) × (sound_pad l p ≡ true)

-- a sound pad that shows the state s
abbrev pub Shows : Limits → Pad → PadState → Type 0
Shows l p s = (sound_pad l p ≡ true) × (pad_state l.window p ≡ s)

-- What the pad's calls promise: the answer, what an Ok holds, and the pad afterwards.
abbrev pub ArriveCall : Limits → List Question → Result (Option Reply) Refusal → Arrival → Pad → Pad → Type 0
ArriveCall l questions result done before after =
    Changed questions result (pick done.old (Some done.reply) None) (pad_state l.window after) done.state (sound_pad l) before after

abbrev pub ReplyCall : Limits → List Question → Result Replied Refusal → Replying → Pad → Pad → Type 0
ReplyCall l questions result done before after =
    Changed questions result (record { count = done.count; reply = done.reply }) (pad_state l.window after) done.state (sound_pad l) before after

abbrev pub TickCall : Limits → List Question → Answer → PadState → Pad → Pad → Type 0
TickCall l questions result done before after =
    Changed questions result tt (pad_state l.window after) done (sound_pad l) before after

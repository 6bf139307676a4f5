-- The rules of devices on examples, by computation: which frames they take, and a row from a fresh mat to a fresh pad and back. Bytes
-- are decimal.
use Prim.Native.Nat.{ℕ}
use mathlib.Core.Path.{◌≡◌, refl}
use mathlib.Core.Bool.{false}
use mathlib.Core.List.{List, [], ◌∷◌, ◌++◌}
use lib.ListN.{replicate}
use Rattle.limits.specs.declared.Limits.{Limits}
use Rattle.limits.specs.Questions.{pick, first_no}
use Rattle.limits.specs.Lists.{tab, all, leading, joined}
use Rattle.limits.specs.Cells.{legal_cell}
use Rattle.limits.specs.Limits.{window_fits}
use Rattle.limits.specs.Ring.{distance, step}
use Rattle.mat.specs.Rules.{sending, marked, passing, acknowledging}
use Rattle.mat.specs.View.{mat_state, fresh_mat}
use Rattle.pad.specs.Window.{PadState, ready}
use Rattle.pad.specs.Rules.{arrival, replying}
use Rattle.pad.specs.View.{slot_at, pad_state, fresh_pad}
use Rattle.frames.specs.Layout.{frame_into}
use Rattle.devices.specs.Frames.{data_frame, reply_frame, data_questions, reply_questions, data_in, reply_in}

-- w 2, and times 3, 4 and 5
abbrev l : Limits
l = record { window = 2; datalife = 3; replylife = 4; replywait = 5; resendwait = 10 }

-- a row of sixteen 5s, and its data frame as number n of a window w
abbrev fives : List ℕ
fives = replicate 16 5

abbrev data_of_fives : ℕ → ℕ → List ℕ
data_of_fives w n = 1 ∷ 3 ∷ w ∷ n ∷ 5 ∷ 0 ∷ 5 ∷ 0 ∷ 5 ∷ 0 ∷ 5 ∷ 0 ∷ 5 ∷ 0 ∷ 5 ∷ 0 ∷ 5 ∷ 0 ∷ 5 ∷ 0 ∷ 5 ∷ 0 ∷ 5 ∷ 0 ∷ 5 ∷ 0 ∷ 5 ∷ 0 ∷ 5 ∷ 0 ∷ 5 ∷ 0 ∷ 5 ∷ 0 ∷ 5 ∷ 0 ∷ []

-- a good reply at a mat: another kind, another window, a wrong length
pub mat-takes : (first_no (reply_questions l (2 ∷ 1 ∷ 2 ∷ 3 ∷ 0 ∷ [])) ≡ 0)
    × (first_no (reply_questions l (data_of_fives 2 0)) ≡ 22)
    × (first_no (reply_questions l (2 ∷ 1 ∷ 4 ∷ 3 ∷ 3 ∷ [])) ≡ 24)
    × (first_no (reply_questions l (1 ∷ 1 ∷ 2 ∷ 3 ∷ 0 ∷ [])) ≡ 23)
    × (first_no (reply_questions l (2 ∷ 1 ∷ 2 ∷ 3 ∷ 1 ∷ [])) ≡ 27)
unfolding pick all tab window_fits legal_cell distance
mat-takes = (refl, refl, refl, refl, refl)

pub pad-takes : (first_no (data_questions l (data_of_fives 2 0)) ≡ 0)
    × (first_no (data_questions l (2 ∷ 1 ∷ 2 ∷ 3 ∷ 0 ∷ [])) ≡ 22)
    × (first_no (data_questions l (data_of_fives 3 0)) ≡ 24)
    × (first_no (data_questions l (data_of_fives 2 4)) ≡ 25)
    × (first_no (data_questions l []) ≡ 22)
unfolding pick all tab window_fits legal_cell distance
pad-takes = (refl, refl, refl, refl, refl)

-- a fresh mat's first frame, at the front of a buffer of 38 bytes
pub sent : frame_into (data_frame l (sending l (mat_state 2 fresh_mat) fives).message) (replicate 38 9) ≡ data_of_fives 2 0 ++ (9 ∷ 9 ∷ [])
unfolding pick all tab distance step mat_state sending
sent = refl

abbrev held : PadState
held = (arrival l (pad_state 2 fresh_pad) (data_in (data_of_fives 2 0))).state

-- a fresh pad holds the row, and its reply records it
pub replied : ((arrival l (pad_state 2 fresh_pad) (data_in (data_of_fives 2 0))).old ≡ false)
    × (frame_into (reply_frame l (replying l held (replicate 17 7)).reply) (replicate 6 9) ≡ (2 ∷ 4 ∷ 2 ∷ 0 ∷ 0 ∷ 9 ∷ []))
    × ((replying l held (replicate 17 7)).buffer ≡ fives ++ (7 ∷ []))
unfolding pick all tab leading joined distance step pad_state slot_at ready arrival replying
replied = (refl, refl, refl)

-- the row again is an old one then, and gets a reply of its own
pub old : frame_into (reply_frame l (arrival l (replying l held (replicate 17 7)).state (data_in (data_of_fives 2 0))).reply) (replicate 5 9) ≡ (2 ∷ 4 ∷ 2 ∷ 0 ∷ 0 ∷ [])
unfolding pick all tab leading joined distance step pad_state slot_at ready arrival replying
old = refl

-- the reply acknowledges one row
pub acknowledged : (acknowledging l (sending l (mat_state 2 fresh_mat) fives).state (reply_in (2 ∷ 4 ∷ 2 ∷ 0 ∷ 0 ∷ []))).passed ≡ 1
unfolding pick all tab leading distance step mat_state sending marked passing
acknowledged = refl

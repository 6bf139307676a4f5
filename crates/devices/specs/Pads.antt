-- A pad by itself: what its calls promise. It takes frames in and hands frames out.
use Rattle.std.specs.Prelude.{ℕ, Bool, ◌&&◌, List, [], ◌∷◌, ◌++◌, length, Result}
use Rattle.limits.specs.declared.Limits.{Limits}
use Rattle.limits.specs.declared.answer.Refusal.{Refusal}
use Rattle.limits.specs.Questions.{pick, ask, Answer, Answered, Changed, time_questions}
use Rattle.limits.specs.Limits.{limits_questions, accepted, sound_limits}
use Rattle.pad.specs.declared.Pad.{Pad}
use Rattle.pad.specs.Window.{PadState}
use Rattle.pad.specs.Rules.{arrival, reply_questions, replying, ticked}
use Rattle.pad.specs.View.{pad_state, fresh_pad, sound_pad}
use Rattle.frames.specs.Layout.{size_of, frame_into}
use Rattle.frames.specs.Rules.{space_questions}
use Rattle.devices.specs.declared.PadDevice.{PadDevice}
use Rattle.devices.specs.declared.Recorded.{Recorded}
use Rattle.devices.specs.Frames.{reply_frame, data_questions, data_in}

abbrev pub pad_device : Limits → Pad → PadDevice
pad_device l p = record { limits = l; pad = p }

-- question 4
abbrev pub sound_device : PadDevice → Bool
sound_device x = sound_limits x.limits && sound_pad x.limits x.pad

-- a device as its limits and its pad's state
abbrev pub state_of : PadDevice → PadState
state_of x = pad_state x.limits.window x.pad

abbrev pub shown : PadDevice → Limits × PadState
shown x = (x.limits, state_of x)

abbrev pub Opened : Limits → Result PadDevice Refusal → Type 0
Opened asked r = Answered (limits_questions asked) r (pad_device (accepted asked) fresh_pad)

-- 4; those of the frame; for an old row 28. A row of the window is held, and nothing is written. For an old row the reply's frame
-- stands at the buffer's front. Tells how many bytes that are. Refused, it leaves the device and the buffer as they were.
abbrev pub ReceiveCall : PadDevice → List ℕ → List ℕ → PadDevice → List ℕ → Result ℕ Refusal → Type 0
ReceiveCall x bytes before x' after r =
    let done = arrival x.limits (state_of x) (data_in bytes) in
    let frame = reply_frame x.limits done.reply in
    Changed {S = PadDevice × List ℕ} {V = (Limits × PadState) × List ℕ}
    (ask 4 (sound_device x) ∷ (data_questions x.limits bytes ++ pick done.old (space_questions (size_of frame) before) [])) r
    (pick done.old (size_of frame) 0) (shown x', after) ((x.limits, done.state), pick done.old (frame_into frame before) before)
    (λ y. sound_device y.0) (x, before) (x', after)

-- 4; 20, 21; 28. The run of rows stands at the record's front, and the reply's frame at the buffer's. Tells how many rows and how many
-- bytes. Refused, it leaves the device, the record and the buffer as they were.
abbrev pub ReplyCall : PadDevice → List ℕ → List ℕ → PadDevice → List ℕ → List ℕ → Result Recorded Refusal → Type 0
ReplyCall x rows before x' rows' after r =
    let done = replying x.limits (state_of x) rows in
    let frame = reply_frame x.limits done.reply in
    Changed {S = PadDevice × List ℕ × List ℕ} {V = (Limits × PadState) × List ℕ × List ℕ}
    (ask 4 (sound_device x) ∷ (reply_questions (state_of x) (length rows) ++ space_questions (size_of frame) before)) r
    (record { rows = done.count; written = size_of frame }) (shown x', rows', after) ((x.limits, done.state), done.buffer, frame_into frame before)
    (λ y. sound_device y.0) (x, rows, before) (x', rows', after)

-- 4; 9
abbrev pub TickCall : PadDevice → ℕ → PadDevice → Answer → Type 0
TickCall x d x' r = Changed (ask 4 (sound_device x) ∷ time_questions d) r tt (shown x') (x.limits, ticked d (state_of x)) sound_device x x'

-- A mat by itself: what its calls promise. It hands frames out and takes frames in.
use Rattle.std.specs.Prelude.{ℕ, Bool, ◌&&◌, List, ◌∷◌, ◌++◌, Result}
use Rattle.limits.specs.declared.Limits.{Limits}
use Rattle.limits.specs.declared.answer.Refusal.{Refusal}
use Rattle.limits.specs.Questions.{Question, ask, Answer, Answered, Changed, time_questions, whole_rows}
use Rattle.limits.specs.Limits.{limits_questions, accepted, sound_limits}
use Rattle.mat.specs.declared.Mat.{Mat}
use Rattle.mat.specs.Window.{MatState}
use Rattle.mat.specs.Rules.{Sending, send_questions, sending, resend_questions, resending, acknowledge_questions, acknowledging, ticked}
use Rattle.mat.specs.View.{mat_state, fresh_mat, sound_mat}
use Rattle.frames.specs.Layout.{size_of, frame_into}
use Rattle.frames.specs.Rules.{space_questions}
use Rattle.devices.specs.declared.MatDevice.{MatDevice}
use Rattle.devices.specs.Frames.{data_frame, reply_questions, reply_in}

abbrev pub mat_device : Limits → Mat → MatDevice
mat_device l m = record { limits = l; mat = m }

-- question 4
abbrev pub sound_device : MatDevice → Bool
sound_device x = sound_limits x.limits && sound_mat x.limits x.mat

-- a device as its limits and its mat's state
abbrev pub state_of : MatDevice → MatState
state_of x = mat_state x.limits.window x.mat

abbrev pub shown : MatDevice → Limits × MatState
shown x = (x.limits, state_of x)

abbrev pub Opened : Limits → Result MatDevice Refusal → Type 0
Opened asked r = Answered (limits_questions asked) r (mat_device (accepted asked) fresh_mat)

-- What a sending promises whose own questions are `questions`, and that does what `done` says: 4 first, and 28 last. The frame of the
-- message stands at the buffer's front. Refused, it leaves the device and the buffer as they were.
abbrev pub Sends : List Question → Sending → MatDevice → List ℕ → MatDevice → List ℕ → Result ℕ Refusal → Type 0
Sends questions done x before x' after r =
    let frame = data_frame x.limits done.message in
    Changed {S = MatDevice × List ℕ} {V = (Limits × MatState) × List ℕ}
    (ask 4 (sound_device x) ∷ (questions ++ space_questions (size_of frame) before)) r (size_of frame) (shown x', after)
    ((x.limits, done.state), frame_into frame before) (λ y. sound_device y.0) (x, before) (x', after)

-- 4; 6; 10, 11, 12; 28
abbrev pub SendCall : MatDevice → List ℕ → List ℕ → MatDevice → List ℕ → Result ℕ Refusal → Type 0
SendCall x supply = Sends (whole_rows supply ++ send_questions x.limits (state_of x) supply) (sending x.limits (state_of x) supply) x

-- 4; 14, 15, 16; 28
abbrev pub ResendCall : MatDevice → ℕ → List ℕ → MatDevice → List ℕ → Result ℕ Refusal → Type 0
ResendCall x k = Sends (resend_questions x.limits (state_of x) k) (resending x.limits (state_of x) k) x

-- 4; those of the frame; 19. Tells by how many rows oldest rose.
abbrev pub ReceiveCall : MatDevice → List ℕ → MatDevice → Result ℕ Refusal → Type 0
ReceiveCall x bytes x' r =
    let done = acknowledging x.limits (state_of x) (reply_in bytes) in
    Changed (ask 4 (sound_device x) ∷ (reply_questions x.limits bytes ++ acknowledge_questions x.limits (state_of x) (reply_in bytes))) r
    done.passed (shown x') (x.limits, done.state) sound_device x x'

-- 4; 9
abbrev pub TickCall : MatDevice → ℕ → MatDevice → Answer → Type 0
TickCall x d x' r = Changed (ask 4 (sound_device x) ∷ time_questions d) r tt (shown x') (x.limits, ticked d (state_of x)) sound_device x x'

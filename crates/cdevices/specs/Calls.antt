-- What the functions for C promise: the number they return, what they tell, and the whole contents at exit of everything that is lent.
use Rattle.std.specs.Prelude.{ℕ, ◌≡◌, List, Result}
use Rattle.std.specs.Result.{result_unwrap_or}
use Rattle.limits.specs.declared.answer.Refusal.{Refusal}
use Rattle.limits.specs.declared.Limits.{Limits}
use Rattle.limits.specs.Answer.{number_of}
use Rattle.limits.specs.Limits.{zero_limits}
use Rattle.mat.specs.View.{fresh_mat}
use Rattle.pad.specs.View.{fresh_pad}
use Rattle.devices.specs.declared.Recorded.{Recorded}
use Rattle.devices.specs.Told.{told, told_recorded}
use Rattle.devices.specs.Mats as mats
use Rattle.devices.specs.Pads as pads
use Rattle.clinks.specs.Asked.{capped}
use Rattle.cdevices.specs.Devices.{CDevice, mat_at, pad_at, stored_mat, stored_pad}

-- An opening stores the device that it gives: fresh, or of zeros where it is refused.
pub record Opens {D : Type 0} (opened : Result D Refusal → Type 0) (zeros : D) (stored : D → CDevice) (after : CDevice) (r : ℕ) : Type 0 where
  pub opening : Result D Refusal
  pub promise : opened opening
  pub number : r ≡ number_of opening
  pub left : after ≡ stored (result_unwrap_or opening zeros)

abbrev pub MatOpen : Limits → CDevice → ℕ → Type 0
MatOpen asked = Opens (mats.Opened asked) (mats.mat_device zero_limits fresh_mat) stored_mat

abbrev pub PadOpen : Limits → CDevice → ℕ → Type 0
PadOpen asked = Opens (pads.Opened asked) (pads.pad_device zero_limits fresh_pad) stored_pad

-- A call in place gives what the device's own call promises of the device that is kept: the answer's number and what it tells, and where
-- it was done the new device; where it was refused everything is as before.
pub record InPlace {D X : Type 0} (call : D → Result X Refusal → Type 0) (told : Result X Refusal → Type 0) (kept : CDevice → D) (stored : D → CDevice) (before after : CDevice) (r : ℕ) : Type 0 where
  pub device : D
  pub answer : Result X Refusal
  pub promise : call device answer
  pub number : r ≡ number_of answer
  pub tells : told answer
  pub done : r ≡ 0 → after ≡ stored device
  pub refused : (r ≡ 0 → ⊥) → (after ≡ before) × (device ≡ kept before)

-- a count is told, 0 where the call was refused
abbrev pub Told : ℕ → Result ℕ Refusal → Type 0
Told count answer = count ≡ told answer

abbrev pub Nothing : Result (Unit {0}) Refusal → Type 0
Nothing answer = Unit {0}

abbrev pub ToldRecorded : ℕ → ℕ → Result Recorded Refusal → Type 0
ToldRecorded rows written answer = ◌≡◌ {A = Recorded} (record { rows = rows; written = written }) (told_recorded answer)

abbrev pub MatSend : List ℕ → List ℕ → List ℕ → ℕ → CDevice → CDevice → ℕ → Type 0
MatSend supply frame frame' written before =
    InPlace (λ x a. mats.SendCall (mat_at before) supply frame x frame' a) (Told written) mat_at stored_mat before

abbrev pub MatResend : ℕ → List ℕ → List ℕ → ℕ → CDevice → CDevice → ℕ → Type 0
MatResend k frame frame' written before =
    InPlace (λ x a. mats.ResendCall (mat_at before) k frame x frame' a) (Told written) mat_at stored_mat before

abbrev pub MatReceive : List ℕ → ℕ → CDevice → CDevice → ℕ → Type 0
MatReceive bytes acknowledged before =
    InPlace (λ x a. mats.ReceiveCall (mat_at before) bytes x a) (Told acknowledged) mat_at stored_mat before

-- A time above 65535 is taken as 65535: no timer is longer.
abbrev pub MatTick : ℕ → CDevice → CDevice → ℕ → Type 0
MatTick d before = InPlace (λ x a. mats.TickCall (mat_at before) (capped d) x a) Nothing mat_at stored_mat before

abbrev pub PadReceive : List ℕ → List ℕ → List ℕ → ℕ → CDevice → CDevice → ℕ → Type 0
PadReceive bytes reply reply' written before =
    InPlace (λ x a. pads.ReceiveCall (pad_at before) bytes reply x reply' a) (Told written) pad_at stored_pad before

abbrev pub PadReply : List ℕ → List ℕ → List ℕ → List ℕ → ℕ → ℕ → CDevice → CDevice → ℕ → Type 0
PadReply buffer buffer' reply reply' rows written before =
    InPlace (λ x a. pads.ReplyCall (pad_at before) buffer reply x buffer' reply' a) (ToldRecorded rows written) pad_at stored_pad before

abbrev pub PadTick : ℕ → CDevice → CDevice → ℕ → Type 0
PadTick d before = InPlace (λ x a. pads.TickCall (pad_at before) (capped d) x a) Nothing pad_at stored_pad before

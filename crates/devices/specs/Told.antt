-- What the answer of a device's call tells, and zeros where the call was refused.
use Rattle.std.specs.Prelude.{ℕ, Result}
use Rattle.std.specs.Result.{result_unwrap_or}
use Rattle.limits.specs.declared.answer.Refusal.{Refusal}
use Rattle.devices.specs.declared.Recorded.{Recorded}

-- bytes of a frame, or rows
abbrev pub told : Result ℕ Refusal → ℕ
told r = result_unwrap_or r 0

abbrev pub told_recorded : Result Recorded Refusal → Recorded
told_recorded r = result_unwrap_or r (record { rows = 0; written = 0 })

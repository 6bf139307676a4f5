-- What a call from C leaves is the device of its promise: the next call works on the device that the last one left, as in the lists of
-- calls that `TwoDevices` (world/specs/TwoDevices) speaks of.
use Prim.Native.Nat.{ℕ}
use mathlib.Core.Path.{◌≡◌, sym, ◌∙◌, ap}
use lib.Dec.{eqb}
use borrow.Author.Tests.{eqb-true, eqb-false}
use Rattle.std.specs.Prelude.{Result}
use Rattle.limits.specs.declared.answer.Refusal.{Refusal}
use Rattle.limits.proofs.Laws.Choice.{test}
use Rattle.clinks.proofs.Laws.Links.{marks-back}
use Rattle.devices.specs.declared.MatDevice.{MatDevice}
use Rattle.devices.specs.declared.PadDevice.{PadDevice}
use Rattle.cdevices.specs.Devices.{CDevice, mat_at, pad_at, stored_mat, stored_pad}
use Rattle.cdevices.specs.Calls.{InPlace}

-- A device that is stored gives itself back.
pub mat-loads : (x : MatDevice) → mat_at (stored_mat x) ≡ x
mat-loads x = λ i. record {
  limits = x.limits;
  mat = record { oldest = x.mat.oldest; next = x.mat.next; marks = marks-back x.mat.marks i; timers = x.mat.timers; cells = x.mat.cells };
}

pub pad-loads : (x : PadDevice) → pad_at (stored_pad x) ≡ x
pad-loads x = λ i. record {
  limits = x.limits;
  pad = record { wanted = x.pad.wanted; held = marks-back x.pad.held i; timers = x.pad.timers; cells = x.pad.cells };
}

module _ {D X : Type 0} (kept : CDevice → D) (stored : D → CDevice) (loads : (x : D) → kept (stored x) ≡ x) where
  pub left-loads : (call : D → Result X Refusal → Type 0) (told : Result X Refusal → Type 0) (before after : CDevice) (r : ℕ)
      → (c : InPlace call told kept stored before after r) → kept after ≡ c.device
  left-loads call told before after r c =
      test (eqb r 0)
      (λ e. ap kept (c.done (eqb-true r 0 e)) ∙ loads c.device)
      (λ e. let k = c.refused (eqb-false r 0 e) in ap kept k.0 ∙ sym k.1)

-- A mat and a pad as C keeps them: limits, numbers, and three arrays. A mark is a number: off for 0, on for anything else.
use Rattle.std.specs.Prelude.{ℕ, ◌≡◌, List, [], ◌∷◌, map, get_or}
use Rattle.mat.specs.View.{mat_of}
use Rattle.pad.specs.View.{pad_of}
use Rattle.clinks.specs.Links.{is_on, bit, limits_at, limits_list}
use Rattle.devices.specs.declared.MatDevice.{MatDevice}
use Rattle.devices.specs.declared.PadDevice.{PadDevice}
use Rattle.devices.specs.Mats.{mat_device}
use Rattle.devices.specs.Pads.{pad_device}
use Rattle.cdevices.specs.declared.cmat.LentCMat.{LentCMat}
use Rattle.cdevices.specs.declared.cpad.LentCPad.{LentCPad}

-- The numbers of a mat are oldest and next, that of a pad is wanted.
pub record CDevice : Type 0 where
  pub limits : List ℕ
  pub numbers : List ℕ
  pub mark : List ℕ
  pub timer : List ℕ
  pub cell : List ℕ

abbrev pub cdevice : List ℕ → List ℕ → List ℕ → List ℕ → List ℕ → CDevice
cdevice limits numbers mark timer cell = record { limits = limits; numbers = numbers; mark = mark; timer = timer; cell = cell }

-- what is lent, by its contents
abbrev pub cmat_of : LentCMat → CDevice
cmat_of s = cdevice s.limits.now s.numbers.now s.mark.now s.timer.now s.cell.now

abbrev pub cpad_of : LentCPad → CDevice
cpad_of s = cdevice s.limits.now s.numbers.now s.mark.now s.timer.now s.cell.now

-- A call leaves lent what was lent to it, so that whoever lent it finds what was written. The limits are only looked at.
abbrev pub MatStays : LentCMat → LentCMat → Type 0
MatStays a b =
    (b.limits.now ≡ a.limits.now) × (b.numbers.ghost_name ≡ a.numbers.ghost_name)
    × (b.mark.ghost_name ≡ a.mark.ghost_name) × (b.timer.ghost_name ≡ a.timer.ghost_name) × (b.cell.ghost_name ≡ a.cell.ghost_name)

abbrev pub PadStays : LentCPad → LentCPad → Type 0
PadStays a b =
    (b.limits.now ≡ a.limits.now) × (b.numbers.ghost_name ≡ a.numbers.ghost_name)
    × (b.mark.ghost_name ≡ a.mark.ghost_name) × (b.timer.ghost_name ≡ a.timer.ghost_name) × (b.cell.ghost_name ≡ a.cell.ghost_name)

-- the device that is kept
abbrev pub mat_at : CDevice → MatDevice
mat_at s = mat_device (limits_at s.limits) (mat_of (get_or s.numbers 0 0) (get_or s.numbers 1 0) (map is_on s.mark) s.timer s.cell)

abbrev pub pad_at : CDevice → PadDevice
pad_at s = pad_device (limits_at s.limits) (pad_of (get_or s.numbers 0 0) (map is_on s.mark) s.timer s.cell)

-- how a device is stored
abbrev pub stored_mat : MatDevice → CDevice
stored_mat x = cdevice (limits_list x.limits) (x.mat.oldest ∷ x.mat.next ∷ []) (map bit x.mat.marks) x.mat.timers x.mat.cells

abbrev pub stored_pad : PadDevice → CDevice
stored_pad x = cdevice (limits_list x.limits) (x.pad.wanted ∷ []) (map bit x.pad.held) x.pad.timers x.pad.cells

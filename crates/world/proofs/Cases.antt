-- A list of what happens, with the devices that it leaves: a row is sent, arrives, is recorded and replied to, and is acknowledged. So there
-- are lists that the theorem speaks of. w is 1, and the times are 1.
use Prim.Native.Nat.{ℕ}
use mathlib.Core.Path.{◌≡◌, refl}
use mathlib.Core.Bool.{true, false}
use mathlib.Core.List.{List, [], ◌∷◌, ◌++◌}
use native.Mathlib.Omega.{arith}
use lib.ListN.{replicate}
use Rattle.std.specs.Prelude.{Ok}
use Rattle.limits.specs.declared.Limits.{Limits}
use Rattle.limits.specs.Lists.{tab, all, leading, joined}
use Rattle.limits.specs.Cells.{legal_cell}
use Rattle.limits.specs.Limits.{window_fits, times_fit, wait_fits, least_wait, sound_limits}
use Rattle.limits.specs.Questions.{pick}
use Rattle.limits.specs.Ring.{distance, step}
use Rattle.limits.specs.Tables.{remove}
use Rattle.mat.specs.Rules.{sending, marked, passing}
use Rattle.mat.specs.View.{fresh_mat, mat_of, mat_state, sound_mat}
use Rattle.pad.specs.Window.{ready}
use Rattle.pad.specs.Rules.{arrival, replying}
use Rattle.pad.specs.View.{fresh_pad, pad_of, slot_at, pad_state, sound_pad}
use Rattle.devices.specs.declared.MatDevice.{MatDevice}
use Rattle.devices.specs.declared.PadDevice.{PadDevice}
use Rattle.buffers.specs.Bytes.{cell_bytes}
use Rattle.devices.specs.Mats.{mat_device}
use Rattle.devices.specs.Pads.{pad_device}
use Rattle.world.specs.World.{Made, sent, data_handed, replied, reply_handed, start, following}
use Rattle.world.specs.Chains.{Chain, end_of}

abbrev l : Limits
l = record { window = 1; datalife = 1; replylife = 1; replywait = 1; resendwait = 1 }

abbrev row : List ℕ
row = replicate 16 5

-- the first place of an array
abbrev first : {A : Type 0} → A → A → List A
first x rest = x ∷ replicate 31 rest

abbrev cells : List ℕ
cells = row ++ replicate 496 0

-- the mat and the pad, fresh, with the row outstanding or held, and at the end
abbrev mat_0 : MatDevice
mat_0 = mat_device l fresh_mat

abbrev mat_1 : MatDevice
mat_1 = mat_device l (mat_of 0 1 (replicate 32 false) (first 1 0) cells)

abbrev mat_2 : MatDevice
mat_2 = mat_device l (mat_of 1 1 (replicate 32 false) (first 1 0) cells)

abbrev pad_0 : PadDevice
pad_0 = pad_device l fresh_pad

abbrev pad_1 : PadDevice
pad_1 = pad_device l (pad_of 0 (first true false) (first 1 0) cells)

abbrev pad_2 : PadDevice
pad_2 = pad_device l (pad_of 1 (replicate 32 false) (first 1 0) cells)

abbrev data_bytes : List ℕ
data_bytes = (1 ∷ 1 ∷ 1 ∷ 0 ∷ []) ++ cell_bytes row

abbrev reply_bytes : List ℕ
reply_bytes = 2 ∷ 1 ∷ 1 ∷ 0 ∷ 0 ∷ []

abbrev happened : List Made
happened =
    sent row (replicate 36 0) data_bytes mat_1 (Ok 36)
    ∷ data_handed 0 (replicate 5 0) (replicate 5 0) pad_1 (Ok 0)
    ∷ replied (replicate 17 7) (row ++ (7 ∷ [])) (replicate 5 0) reply_bytes pad_2 (Ok (record { rows = 1; written = 5 }))
    ∷ reply_handed 0 mat_2 (Ok 1)
    ∷ []

pub a-row : Chain row (start mat_0 pad_0 (replicate 17 7)) happened
unfolding pick all tab leading joined distance step remove legal_cell window_fits times_fit wait_fits least_wait sound_limits sending marked passing mat_state sound_mat ready arrival replying slot_at pad_state sound_pad following
a-row = (
  (refl, record { answered = record { number = refl; value = refl }; left = refl; kept = tt; stays = λ _. refl }),
  (
    (omega arith, record { answered = record { number = refl; value = refl }; left = refl; kept = tt; stays = λ _. refl }),
    (
      (refl, record { answered = record { number = refl; value = refl }; left = refl; kept = tt; stays = λ _. refl }),
      ((omega arith, record { answered = record { number = refl; value = refl }; left = refl; kept = tt; stays = λ _. refl }), tt),
    ),
  ),
)

pub it-came : ((end_of (start mat_0 pad_0 (replicate 17 7)) happened).buffer ≡ row ++ (7 ∷ []))
    × ((end_of (start mat_0 pad_0 (replicate 17 7)) happened).counts ≡ record { sent = 1; acknowledged = 1; recorded = 1 })
unfolding pick remove following
it-came = (refl, refl)

-- Where a world stands: its devices are sound and have the link's limits, and each frame in the air is a good one. And what is to be
-- shown of each thing that happens.
use Prim.Native.Nat.{ℕ, ◌+◌, ◌*◌}
use mathlib.Core.Path.{◌≡◌, refl, sym, ◌∙◌, ap}
use mathlib.Core.Bool.{true, not}
use mathlib.Core.List.{List}
use native.Mathlib.Omega.{arith}
use lib.Dec.{eqb}
use lib.ListN.{take-append-drop}
use Rattle.limits.specs.declared.Limits.{Limits}
use Rattle.limits.specs.declared.answer.Refusal.{Refusal}
use Rattle.limits.specs.Answer.{refusal_number}
use Rattle.limits.specs.Lists.{all}
use Rattle.limits.specs.Questions.{pick}
use Rattle.limits.proofs.Laws.Choice.{pick_no}
use Rattle.limits.proofs.Laws.Promise.{refusal-not-0}
use Rattle.mat.specs.declared.Mat.{Mat}
use Rattle.pad.specs.declared.Pad.{Pad}
use Rattle.events.specs.State.{LinkState, Moved, Rows, no_rows, more_rows}
use Rattle.lists.specs.Runs.{buffer_left, continued}
use Rattle.world.specs.World.{InAir, World, Made, following}
use Rattle.world.specs.Chains.{number, events_of, numbers_of}
use Rattle.world.specs.TwoDevices.{as_link, good_data, good_reply, alike}
use Rattle.world.proofs.Laws.Steps.{Steps}
use Rattle.devices.specs.Mats as mats
use Rattle.devices.specs.Pads as pads

-- two devices with the same limits
abbrev pub world : Limits → Mat → Pad → List InAir → List InAir → Rows → List ℕ → World
world l m p ds rs n b =
    record { mat = mats.mat_device l m; pad = pads.pad_device l p; datas = ds; replies = rs; counts = n; buffer = b }

pub record Stands (l : Limits) (x : World) : Type 0 where
  pub mat-limits : x.mat.limits ≡ l
  pub pad-limits : x.pad.limits ≡ l
  pub mat-sound : mats.sound_device x.mat ≡ true
  pub pad-sound : pads.sound_device x.pad ≡ true
  pub datas : all (good_data l) x.datas ≡ true
  pub replies : all (good_reply l) x.replies ≡ true

pub record Follows (l : Limits) (supply : List ℕ) (x : World) (c : Made) : Type 0 where
  pub stands : Stands l (following x c)
  pub steps : Steps supply (as_link l x) (as_link l (following x c)) (events_of c) (numbers_of c)
  pub alike : alike c ≡ true
  pub not-4 : not (eqb (number c) 4) ≡ true

-- what changes nothing
pub still : (l : Limits) (supply : List ℕ) (x : World) (c : Made) → following x c ≡ x → Stands l x
    → Steps supply (as_link l x) (as_link l x) (events_of c) (numbers_of c) → alike c ≡ true → not (eqb (number c) 4) ≡ true → Follows l supply x c
still l supply x c h st s a n = record { stands = rw h st; steps = rw h s; alike = a; not-4 = n }

pub counts-none : (n : Rows) → more_rows n no_rows ≡ n
counts-none n =
    let zero : (k : ℕ) → k + 0 ≡ k = λ k. omega arith in
    λ i. record { sent = zero n.sent i; acknowledged = zero n.acknowledged i; recorded = zero n.recorded i }

-- a refused call counts nothing
pub refused-counts : (e : Refusal) (done n : Rows) → more_rows n (pick (eqb (refusal_number e) 0) done no_rows) ≡ n
refused-counts e done n = ap (more_rows n) (pick_no _ _ _ _ (refusal-not-0 e) refl) ∙ counts-none n

pub refused-air : (e : Refusal) (done fs : List InAir) → pick (eqb (refusal_number e) 0) done fs ≡ fs
refused-air e done fs = pick_no _ _ _ _ (refusal-not-0 e) refl

-- an event that leaves the record alone
pub beside-record : (y : Moved) (s : LinkState) (k : Rows)
    → record { state = s; counts = more_rows y.counts k; buffer = y.buffer } ≡ continued y (record { state = s; counts = k; buffer = buffer_left y })
unfolding continued
beside-record y s k = ap (λ b. record { state = s; counts = more_rows y.counts k; buffer = b }) (sym (take-append-drop (16 * y.counts.recorded) y.buffer))

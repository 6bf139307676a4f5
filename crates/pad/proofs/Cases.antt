-- A run that stops at a held row whose timer is 0, computed of the pad's rules.
use Prim.Native.Nat.{ℕ}
use mathlib.Core.Path.{◌≡◌, refl}
use mathlib.Core.List.{List, [], ◌∷◌, ◌++◌}
use lib.ListN.{drop}
use Rattle.limits.specs.declared.Limits.{Limits}
use Rattle.limits.specs.Lists.{leading, joined}
use Rattle.limits.specs.Questions.{pick, first_no}
use Rattle.limits.specs.Ring.{step}
use Rattle.pad.specs.Window.{Slot, empty, full, PadState, ready}
use Rattle.pad.specs.Rules.{run, reply_questions, replying}

abbrev limits : Limits
limits = record { window = 2; datalife = 1; replylife = 1; replywait = 1; resendwait = 4 }

-- w 2 and wanted 2
abbrev pad_with : Slot → Slot → PadState
pad_with a b = record { wanted = 2; slots = a ∷ b ∷ [] }

-- both rows are held, the second with timer 0: the reply covers the first alone
pub case-stops : (a b buffer : List ℕ)
    → (run (pad_with (full 1 a) (full 0 b)) ≡ 1)
    × (first_no (reply_questions (pad_with (full 1 a) (full 0 b)) 16) ≡ 0)
    × (first_no (reply_questions (pad_with (full 1 a) (full 0 b)) 15) ≡ 21)
    × (first_no (reply_questions (pad_with (full 0 a) (full 1 b)) 16) ≡ 20)
    × ((replying limits (pad_with (full 1 a) (full 0 b)) buffer).reply ≡ record { first = 2; last = 2 })
    × ((replying limits (pad_with (full 1 a) (full 0 b)) buffer).state ≡ record { wanted = 3; slots = full 0 b ∷ empty ∷ [] })
    × ((replying limits (pad_with (full 1 a) (full 0 b)) buffer).buffer ≡ (a ++ []) ++ drop 16 buffer)
unfolding replying leading ready joined pick step
case-stops a b buffer = (refl, refl, refl, refl, refl, refl, refl)

-- Replies that question 19 refuses, computed of the mat's rules.
use Prim.Native.Nat.{ℕ}
use mathlib.Core.Path.{◌≡◌, refl}
use mathlib.Core.List.{List, [], ◌∷◌}
use lib.ListN.{replicate}
use Rattle.limits.specs.declared.Limits.{Limits}
use Rattle.limits.specs.Questions.{pick, first_no}
use Rattle.limits.specs.Ring.{distance, step}
use Rattle.limits.specs.Tables.{Reply}
use Rattle.mat.specs.Window.{MatState}
use Rattle.mat.specs.Rules.{sending, acknowledge_questions}

abbrev limits : Limits
limits = record { window = 2; datalife = 1; replylife = 1; replywait = 1; resendwait = 4 }

abbrev fresh : MatState
fresh = record { oldest = 0; next = 0; rows = []; timers = 0 ∷ 0 ∷ [] }

abbrev supply : List ℕ
supply = replicate 32 5

-- rows 0 and 1 are outstanding
abbrev two : MatState
two = (sending limits (sending limits fresh supply).state supply).state

abbrev reply : ℕ → ℕ → Reply
reply a b = record { first = a; last = b }

-- A reply for a row that was never sent, and one read backwards over the ring's end.
pub case-span : (first_no (acknowledge_questions limits two (reply 2 2)) ≡ 19) × (first_no (acknowledge_questions limits two (reply 3 0)) ≡ 19)
unfolding sending step pick distance
case-span = (refl, refl)

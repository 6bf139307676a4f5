-- Bytes that questions 8 and 9 refuse, and lists on which mistakes show, computed of the unbounded ends.
use Prim.Native.Nat.{ℕ}
use mathlib.Core.Path.{◌≡◌, refl}
use mathlib.Core.List.{List, [], ◌∷◌}
use lib.ListN.{replicate}
use Rattle.limits.specs.declared.Limits.{Limits}
use Rattle.limits.specs.Lists.{tab, all, leading, joined}
use Rattle.limits.specs.Cells.{legal_cell}
use Rattle.limits.specs.Questions.{pick}
use Rattle.limits.specs.Tables.{remove, age}
use Rattle.limits.specs.Events.{event, events}
use Rattle.unbounded.specs.Ends.{fresh, at}
use Rattle.unbounded.specs.Rules.{after}
use Rattle.unbounded.specs.Lists.{answers}

abbrev limits : ℕ → Limits
limits w = record { window = w; datalife = 1; replylife = 1; replywait = 1; resendwait = 4 }

abbrev asked : ℕ → List ℕ → List ℕ
asked w bytes = answers (limits w) (replicate 48 5) 48 fresh (events bytes)

-- Kinds 0, 9 and 255 are unknown. Kinds 1 and 4 take no argument but 0, and kind 8 takes any but 0.
pub case-bytes : asked 2 (0 ∷ 0 ∷ 9 ∷ 0 ∷ 255 ∷ 255 ∷ 1 ∷ 1 ∷ 4 ∷ 2 ∷ 8 ∷ 0 ∷ []) ≡ 8 ∷ 8 ∷ 8 ∷ 9 ∷ 9 ∷ 9 ∷ []
unfolding answers after event pick
case-bytes = refl

-- A held row whose reply timer has run out is replied to once it arrives again.
pub case-again : asked 1 (1 ∷ 0 ∷ 3 ∷ 0 ∷ 8 ∷ 4 ∷ 4 ∷ 0 ∷ 2 ∷ 0 ∷ 3 ∷ 0 ∷ 4 ∷ 0 ∷ []) ≡ 0 ∷ 0 ∷ 0 ∷ 20 ∷ 0 ∷ 0 ∷ 0 ∷ []
unfolding answers after event pick at tab all leading joined legal_cell remove age
case-again = refl

-- A row sent again waits for its timer anew.
pub case-anew : asked 1 (1 ∷ 0 ∷ 8 ∷ 4 ∷ 2 ∷ 0 ∷ 2 ∷ 0 ∷ []) ≡ 0 ∷ 0 ∷ 0 ∷ 16 ∷ []
unfolding answers after event pick at tab all leading joined legal_cell remove age
case-anew = refl

-- The reply for row 2 marks it, though rows 0 and 1 are not yet acknowledged.
pub case-later : asked 3 (1 ∷ 0 ∷ 1 ∷ 0 ∷ 1 ∷ 0 ∷ 3 ∷ 0 ∷ 3 ∷ 0 ∷ 4 ∷ 0 ∷ 3 ∷ 0 ∷ 4 ∷ 0 ∷ 5 ∷ 1 ∷ 2 ∷ 2 ∷ 2 ∷ 1 ∷ []) ≡ 0 ∷ 0 ∷ 0 ∷ 0 ∷ 0 ∷ 0 ∷ 0 ∷ 0 ∷ 0 ∷ 15 ∷ 16 ∷ []
unfolding answers after event pick at tab all leading joined legal_cell remove age
case-later = refl

-- How many events some bytes are.
use Prim.Native.Nat.{ℕ, ◌/◌}
use mathlib.Core.Path.{◌≡◌, refl}
use mathlib.Core.List.{List, [], ◌∷◌}
use native.Mathlib.Omega.{arith}
use lib.ListN.{length}
use Rattle.limits.specs.Events.{events}

pub event-count : (bytes : List ℕ) → length (events bytes) ≡ length bytes / 2
event-count [] = refl
event-count (kind ∷ []) = refl
event-count (kind ∷ argument ∷ rest) = let h = event-count rest in omega arith

-- What a buffer holds after a write, computed of the definition.
use mathlib.Core.Path.{◌≡◌, refl}
use mathlib.Core.List.{[], ◌∷◌}
use Rattle.buffers.specs.Buffers.{wrote}

-- two bytes written into the middle of five
pub written-between : wrote 2 (8 ∷ 9 ∷ []) (1 ∷ 2 ∷ 3 ∷ 4 ∷ 5 ∷ []) ≡ 1 ∷ 2 ∷ 8 ∷ 9 ∷ 5 ∷ []
unfolding wrote
written-between = refl

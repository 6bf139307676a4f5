-- The pad (receiver) as its window: the w rows from wanted on, each held or not.
use Rattle.std.specs.Prelude.{ℕ, Bool, false, List, [], ltb}

-- a row of the window: not held, or held with its reply timer and its cells
pub data Slot : Type 0 where
  empty : Slot
  full : ℕ → List ℕ → Slot

-- `wanted` is the first number that is not recorded
pub record PadState : Type 0 where
  pub wanted : ℕ
  pub slots : List Slot

-- held with a reply timer above 0
unfoldable pub ready : Slot → Bool
ready empty = false
ready (full timer row) = ltb 0 timer

abbrev pub contents : Slot → List ℕ
contents empty = []
contents (full timer row) = row

-- A data frame that is read, and refused frames for every answer of a reader but 27, computed of the rules. Bytes are decimal.
use Prim.Native.Nat.{ℕ}
use mathlib.Core.Path.{◌≡◌, refl}
use mathlib.Core.List.{List, [], ◌∷◌, ◌++◌}
use lib.ListN.{replicate}
use Rattle.limits.specs.Questions.{pick, first_no}
use Rattle.limits.specs.Lists.{tab, all}
use Rattle.limits.specs.Cells.{legal_cell}
use Rattle.limits.specs.Limits.{window_fits}
use Rattle.frames.specs.declared.Frame.TheVariants.{Data}
use Rattle.frames.specs.Rules.{read_questions}
use Rattle.frames.specs.Meanings.{ReadAs}

-- a data frame: its 16 cells are the two in front and fourteen more
abbrev data_frame : ℕ → ℕ → ℕ → List ℕ → List ℕ
data_frame life w number two = (1 ∷ life ∷ w ∷ number ∷ two) ++ replicate 28 0

pub data-read : ReadAs (data_frame 250 32 63 (255 ∷ 15 ∷ 0 ∷ 1 ∷ []))
    (Data (record { life = 250; window = 32; «data» = record { number = 63; row = (4095 ∷ 256 ∷ []) ++ replicate 14 0 } }))
unfolding pick all tab window_fits legal_cell
data-read = record { accepted = refl; means = refl }

-- no first byte, and one that is neither 1 nor 2
pub unknown-22 : (first_no (read_questions []) ≡ 22) × (first_no (read_questions (3 ∷ 1 ∷ 2 ∷ 3 ∷ 0 ∷ [])) ≡ 22)
unfolding pick
unknown-22 = (refl, refl)

-- a byte too few and a byte too many
pub length-23 : (first_no (read_questions (2 ∷ 1 ∷ 2 ∷ 3 ∷ [])) ≡ 23) × (first_no (read_questions (data_frame 1 2 3 (0 ∷ 0 ∷ 0 ∷ 0 ∷ 0 ∷ []))) ≡ 23)
unfolding pick
length-23 = (refl, refl)

pub window-24 : (first_no (read_questions (2 ∷ 1 ∷ 0 ∷ 3 ∷ 0 ∷ [])) ≡ 24) × (first_no (read_questions (data_frame 1 33 3 (0 ∷ 0 ∷ 0 ∷ 0 ∷ []))) ≡ 24)
unfolding pick window_fits
window-24 = (refl, refl)

pub number-25 : (first_no (read_questions (2 ∷ 1 ∷ 2 ∷ 3 ∷ 4 ∷ [])) ≡ 25) × (first_no (read_questions (data_frame 1 2 4 (0 ∷ 0 ∷ 0 ∷ 0 ∷ []))) ≡ 25)
unfolding pick all window_fits
number-25 = (refl, refl)

pub life-26 : (first_no (read_questions (2 ∷ 251 ∷ 2 ∷ 3 ∷ 0 ∷ [])) ≡ 26) × (first_no (read_questions (data_frame 0 2 3 (0 ∷ 0 ∷ 0 ∷ 0 ∷ []))) ≡ 26)
unfolding pick all window_fits
life-26 = (refl, refl)

pub cell-12 : first_no (read_questions (data_frame 1 2 3 (0 ∷ 16 ∷ 0 ∷ 0 ∷ []))) ≡ 12
unfolding pick all tab window_fits legal_cell
cell-12 = refl

-- Files computed of the definitions.
use Prim.Native.Nat.{ℕ, ◌+◌}
use mathlib.Core.Path.{◌≡◌, refl}
use mathlib.Core.List.{List, [], ◌∷◌, ◌++◌}
use lib.ListN.{take, set, replicate}
use Rattle.limits.specs.Questions.{pick, first_no}
use Rattle.limits.specs.Lists.{tab, all, how_many, joined}
use Rattle.limits.specs.Cells.{legal_cell}
use Rattle.horsefile.specs.declared.Saved.{Saved}
use Rattle.horsefile.specs.Layout.{entry_at, entry_bytes, contents, body, placed, rows_of, saved_in, file_of, file_into, size_of}
use Rattle.horsefile.specs.Rules.{without_gaps, saved_once, highest, current, lookup_questions, write_questions}

abbrev saved : ℕ → ℕ → ℕ → ℕ → Saved
saved horse leg save rows = record { horse = horse; leg = leg; save = save; rows = rows }

abbrev row : List ℕ
row = 0 ∷ 255 ∷ 256 ∷ 4095 ∷ 65535 ∷ replicate 11 0

-- leg 3 of horse 258, saved with a row and then with none
abbrev twice_saved : List Saved
twice_saved = saved 258 3 1 1 ∷ saved 258 3 2 0 ∷ []

abbrev file : List ℕ
file =
    (2 ∷ 2 ∷ 1 ∷ 3 ∷ 1 ∷ 1 ∷ 0 ∷ 21 ∷ 0 ∷ 0 ∷ 0 ∷ 2 ∷ 1 ∷ 3 ∷ 2 ∷ 0 ∷ 0 ∷ 53 ∷ 0 ∷ 0 ∷ 0 ∷ [])
    ++ (0 ∷ 0 ∷ 255 ∷ 0 ∷ 0 ∷ 1 ∷ 255 ∷ 15 ∷ 255 ∷ 255 ∷ replicate 22 0)

pub laid_out : (file_of twice_saved row ≡ file) × (size_of twice_saved ≡ 53) × (file_into twice_saved row (replicate 55 9) ≡ file ++ (9 ∷ 9 ∷ []))
unfolding placed joined rows_of
laid_out = (refl, refl, refl)

-- the last start that there can be, and the greatest file
pub greatest : (entry_bytes (record { saved = saved 65535 6 255 65535; start = 132119201 }) ≡ 255 ∷ 255 ∷ 6 ∷ 255 ∷ 255 ∷ 255 ∷ 161 ∷ 250 ∷ 223 ∷ 7 ∷ [])
    × ((entry_at (255 ∷ 255 ∷ 6 ∷ 255 ∷ 255 ∷ 255 ∷ 161 ∷ 250 ∷ 223 ∷ 7 ∷ []) 0).start ≡ 132119201)
    × (size_of (replicate 63 (saved 1 1 1 65535)) + 10 ≡ 132119201) × (size_of (replicate 64 (saved 1 1 1 65535)) ≡ 134216321)
unfolding rows_of
greatest = (refl, refl, refl, refl)

-- The save without rows supersedes. A file of one entry has its row. Other legs and horses, however wide their numbers are, are not there.
pub looked_up : (first_no (lookup_questions file 258 3) ≡ 0) × (body file (current 258 3 (contents file)) ≡ [])
    × (body (file_of (saved 258 3 1 1 ∷ []) row) (current 258 3 (contents (file_of (saved 258 3 1 1 ∷ []) row))) ≡ 0 ∷ 0 ∷ 255 ∷ 0 ∷ 0 ∷ 1 ∷ 255 ∷ 15 ∷ 255 ∷ 255 ∷ replicate 22 0)
    × (first_no (lookup_questions file 258 4) ≡ 35) × (first_no (lookup_questions file 2 3) ≡ 35) × (first_no (lookup_questions file 258 0) ≡ 35)
    × (first_no (lookup_questions file 65794 3) ≡ 35) × (first_no (lookup_questions file 258 259) ≡ 35)
unfolding without_gaps saved_once highest how_many pick tab all legal_cell placed joined
looked_up = (refl, refl, refl, refl, refl, refl, refl, refl)

-- higher and lower saves in any order, of two horses: saves 2, 9 and 4 of the first, and 7 of the second
abbrev four_saves : List ℕ
four_saves = file_of (saved 5 1 2 0 ∷ saved 5 1 9 0 ∷ saved 6 1 7 0 ∷ saved 5 1 4 0 ∷ []) []

pub highest_save : ((current 5 1 (contents four_saves)).saved.save ≡ 9) × ((current 6 1 (contents four_saves)).saved.save ≡ 7)
unfolding highest pick tab placed joined
highest_save = (refl, refl)

-- question 33 of a file: no bytes; a byte behind c 0; a byte of the contents missing; a byte too few, a byte too many; legs 0 and 7; save 0; starts that differ in
-- the first and in the last byte, and that of a body without rows; a cell of 4096
pub bad_files : (first_no (lookup_questions [] 0 1) ≡ 33) × (first_no (lookup_questions (0 ∷ 0 ∷ []) 0 1) ≡ 33)
    × (first_no (lookup_questions (take 20 file) 258 3) ≡ 33) × (first_no (lookup_questions (take 52 file) 258 3) ≡ 33)
    × (first_no (lookup_questions (file ++ (0 ∷ [])) 258 3) ≡ 33) × (first_no (lookup_questions (set file 3 0) 258 3) ≡ 33)
    × (first_no (lookup_questions (set file 3 7) 258 3) ≡ 33) × (first_no (lookup_questions (set file 4 0) 258 3) ≡ 33)
    × (first_no (lookup_questions (set file 7 22) 258 3) ≡ 33) × (first_no (lookup_questions (set file 10 1) 258 3) ≡ 33)
    × (first_no (lookup_questions (set file 17 21) 258 3) ≡ 33) × (first_no (lookup_questions (set file 22 16) 258 3) ≡ 33)
unfolding without_gaps saved_once highest how_many pick tab all legal_cell
bad_files = (refl, refl, refl, refl, refl, refl, refl, refl, refl, refl, refl, refl)

-- 33 before 34 before 35; a torn cell is legal; a file without entries has no leg
pub in_turn : (first_no (lookup_questions (set (set file 14 1) 4 0) 258 3) ≡ 33) × (first_no (lookup_questions (set file 14 1) 258 3) ≡ 34)
    × (first_no (lookup_questions (set file 14 1) 7 3) ≡ 34) × (first_no (lookup_questions (set (set file 21 255) 22 255) 258 3) ≡ 0)
    × (first_no (lookup_questions (0 ∷ []) 0 1) ≡ 35)
unfolding without_gaps saved_once highest how_many pick tab all legal_cell
in_turn = (refl, refl, refl, refl, refl)

-- 64 entries are a file, and 65 are not
pub most_entries : (first_no (lookup_questions (file_of (tab 64 (λ i. saved i 1 1 0)) []) 63 1) ≡ 0)
    × (first_no (lookup_questions (file_of (tab 65 (λ i. saved i 1 1 0)) []) 63 1) ≡ 33)
unfolding without_gaps saved_once highest how_many pick tab all legal_cell placed joined
most_entries = (refl, refl)

-- the six bytes of two entries
abbrev handed : List ℕ
handed = 2 ∷ 1 ∷ 3 ∷ 1 ∷ 1 ∷ 0 ∷ 2 ∷ 1 ∷ 3 ∷ 2 ∷ 0 ∷ 0 ∷ []

-- A writer: the buffer just long enough and a byte too short; part of an entry; leg 7; save 0; a cell too few, a row too many; a cell
-- of 4096; the same save twice, and that into a short buffer. With no entries a byte is enough.
pub written : (saved_in handed ≡ twice_saved) × (first_no (write_questions handed row 53) ≡ 0) × (first_no (write_questions handed row 52) ≡ 33)
    × (first_no (write_questions (handed ++ (0 ∷ [])) row 99) ≡ 33) × (first_no (write_questions (set handed 2 7) row 53) ≡ 33)
    × (first_no (write_questions (set handed 3 0) row 53) ≡ 33) × (first_no (write_questions handed (take 15 row) 53) ≡ 33)
    × (first_no (write_questions handed (row ++ row) 99) ≡ 33) × (first_no (write_questions handed (set row 0 4096) 53) ≡ 33)
    × (first_no (write_questions (set handed 9 1) row 53) ≡ 34) × (first_no (write_questions (set handed 9 1) row 52) ≡ 33)
    × (first_no (write_questions [] [] 1) ≡ 0) × (first_no (write_questions [] [] 0) ≡ 33)
unfolding saved_once pick tab all legal_cell rows_of
written = (refl, refl, refl, refl, refl, refl, refl, refl, refl, refl, refl, refl, refl)

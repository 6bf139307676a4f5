-- Lines and pages computed of the definitions.
use Prim.Native.Nat.{ℕ}
use mathlib.Core.Path.{◌≡◌, refl}
use mathlib.Core.List.{List, [], ◌∷◌, ◌++◌}
use lib.ListN.{replicate, set}
use Rattle.limits.specs.Questions.{pick, first_no}
use Rattle.limits.specs.Lists.{tab, all, joined}
use Rattle.limits.specs.Cells.{legal_cell}
use Rattle.page.specs.Page.{shade, column, number_text, line_text, rows_on, page_text, record_fits, legal_page, page_questions}

-- the numbers where the count of digits changes: "    0", "    9", "   10", .., "99999"
pub aligned : (number_text 0 ≡ 32 ∷ 32 ∷ 32 ∷ 32 ∷ 48 ∷ []) × (number_text 9 ≡ 32 ∷ 32 ∷ 32 ∷ 32 ∷ 57 ∷ [])
    × (number_text 10 ≡ 32 ∷ 32 ∷ 32 ∷ 49 ∷ 48 ∷ []) × (number_text 99 ≡ 32 ∷ 32 ∷ 32 ∷ 57 ∷ 57 ∷ [])
    × (number_text 100 ≡ 32 ∷ 32 ∷ 49 ∷ 48 ∷ 48 ∷ []) × (number_text 999 ≡ 32 ∷ 32 ∷ 57 ∷ 57 ∷ 57 ∷ [])
    × (number_text 1000 ≡ 32 ∷ 49 ∷ 48 ∷ 48 ∷ 48 ∷ []) × (number_text 9999 ≡ 32 ∷ 57 ∷ 57 ∷ 57 ∷ 57 ∷ [])
    × (number_text 10000 ≡ 49 ∷ 48 ∷ 48 ∷ 48 ∷ 48 ∷ []) × (number_text 99999 ≡ 57 ∷ 57 ∷ 57 ∷ 57 ∷ 57 ∷ [])
unfolding column pick
aligned = (refl, refl, refl, refl, refl, refl, refl, refl, refl, refl)

-- the last cell of a shade, and the first of the next
pub shades : (shade 0 ≡ 0) × (shade 409 ≡ 0) × (shade 410 ≡ 1) × (shade 819 ≡ 1) × (shade 820 ≡ 2) × (shade 1228 ≡ 2) × (shade 1229 ≡ 3)
    × (shade 1638 ≡ 3) × (shade 1639 ≡ 4) × (shade 2047 ≡ 4) × (shade 2048 ≡ 5) × (shade 2457 ≡ 5) × (shade 2458 ≡ 6)
    × (shade 2867 ≡ 6) × (shade 2868 ≡ 7) × (shade 3276 ≡ 7) × (shade 3277 ≡ 8) × (shade 3686 ≡ 8) × (shade 3687 ≡ 9) × (shade 4095 ≡ 9)
unfolding shade
shades = (refl, refl, refl, refl, refl, refl, refl, refl, refl, refl, refl, refl, refl, refl, refl, refl, refl, refl, refl, refl)

abbrev row : List ℕ
row = 0 ∷ 409 ∷ 410 ∷ 820 ∷ 1229 ∷ 1639 ∷ 2048 ∷ 2458 ∷ 2868 ∷ 3277 ∷ 3687 ∷ 4095 ∷ 0 ∷ 0 ∷ 0 ∷ 2047 ∷ []

-- "  123 0012345678990004" and a line end
pub one_line : line_text 123 row
    ≡ (32 ∷ 32 ∷ 49 ∷ 50 ∷ 51 ∷ 32 ∷ [])
    ++ (48 ∷ 48 ∷ 49 ∷ 50 ∷ 51 ∷ 52 ∷ 53 ∷ 54 ∷ 55 ∷ 56 ∷ 57 ∷ 57 ∷ 48 ∷ 48 ∷ 48 ∷ 52 ∷ 10 ∷ [])
unfolding column shade pick
one_line = refl

-- the same with the first and the last cell torn: "  123 -01234567899000-"
pub torn_line : line_text 123 (set (set row 0 65535) 15 65535)
    ≡ (32 ∷ 32 ∷ 49 ∷ 50 ∷ 51 ∷ 32 ∷ [])
    ++ (45 ∷ 48 ∷ 49 ∷ 50 ∷ 51 ∷ 52 ∷ 53 ∷ 54 ∷ 55 ∷ 56 ∷ 57 ∷ 57 ∷ 48 ∷ 48 ∷ 48 ∷ 45 ∷ 10 ∷ [])
unfolding column shade pick
torn_line = refl

-- a record of 61 rows: page 0 has 60, page 1 has the last, and there is no page 2
pub last-page : (rows_on 61 0 ≡ 60) × (rows_on 61 1 ≡ 1) × (rows_on 61 2 ≡ 0)
    × (page_text (replicate 960 0 ++ row) 1 ≡ line_text 60 row)
unfolding rows_on pick page_text joined tab
last-page = (refl, refl, refl, refl)

-- the longest record ends with 40 rows on page 1666; 60 times the last page number here is 44 modulo 2 to the 64
pub far-pages : (rows_on 100000 1665 ≡ 60) × (rows_on 100000 1666 ≡ 40) × (rows_on 100000 1667 ≡ 0) × (rows_on 100000 307445734561825861 ≡ 0)
unfolding rows_on pick
far-pages = (refl, refl, refl, refl)

-- each question alone, and 12 before 32: part of a row, no row, a bad cell and a short buffer, a short buffer, a page that fits
pub asked : (first_no (page_questions (replicate 15 0) 0 23) ≡ 30) × (first_no (page_questions [] 0 23) ≡ 31)
    × (first_no (page_questions (4096 ∷ replicate 15 0) 0 22) ≡ 12) × (first_no (page_questions row 0 22) ≡ 32) × (first_no (page_questions row 0 23) ≡ 0)
unfolding record_fits legal_page rows_on pick tab all legal_cell
asked = (refl, refl, refl, refl, refl)

-- a bad cell on page 1 refuses that page and no other
pub other-page : (first_no (page_questions (replicate 960 0 ++ (4096 ∷ replicate 15 0)) 0 1380) ≡ 0)
    × (first_no (page_questions (replicate 960 0 ++ (4096 ∷ replicate 15 0)) 1 1380) ≡ 12)
unfolding record_fits legal_page rows_on pick tab all legal_cell
other-page = (refl, refl)

-- A page of a record: up to 60 of its rows as text, in ASCII bytes. Rows and pages count from 0.
use Rattle.std.specs.Prelude.{ℕ, ◌+◌, ◌-◌, ◌*◌, ◌/◌, ◌%◌, Bool, ◌&&◌, List, [], ◌∷◌, ◌++◌, map, eqb, leb, ltb, length, drop}
use Rattle.limits.specs.Questions.{pick, Question, ask}
use Rattle.limits.specs.Lists.{tab, all, joined}
use Rattle.limits.specs.Cells.{torn, row_at, legal_row}
use Rattle.buffers.specs.Ascii.{digit, hyphen, space, newline}

-- a cell times 10 divided by 4096, rounded down
unfoldable pub shade : ℕ → ℕ
shade cell = cell * 10 / 4096

-- what a line has for a cell: a hyphen for a torn one, else the digit of its shade
abbrev pub printed : ℕ → ℕ
printed cell = pick (eqb cell torn) hyphen (digit (shade cell))

-- n in the column of its tens, hundreds and so on (`unit`): the digit, or a space where n has none
unfoldable pub column : ℕ → ℕ → ℕ
column n unit = pick (ltb n unit) 32 (digit (n / unit % 10))

-- a number below 100,000, right-aligned in 5 columns
abbrev pub number_text : ℕ → List ℕ
number_text n = column n 10000 ∷ column n 1000 ∷ column n 100 ∷ column n 10 ∷ digit (n % 10) ∷ []

-- A line is the row's number, a space, a digit or hyphen for each cell, and a line end.
abbrev pub line_text : ℕ → List ℕ → List ℕ
line_text n row = number_text n ++ (space ++ (map printed row ++ newline))

abbrev pub rows_in : List ℕ → ℕ
rows_in cells = length cells / 16

-- How many rows page p has, of a record with so many: up to 60, from row 60 p on.
unfoldable pub rows_on : ℕ → ℕ → ℕ
rows_on rows p = pick (leb (rows - 60 * p) 60) (rows - 60 * p) 60

abbrev pub lines_from : List ℕ → ℕ → ℕ → List ℕ
lines_from cells first n = joined (tab n (λ i. line_text (first + i) (row_at cells (first + i))))

unfoldable pub page_text : List ℕ → ℕ → List ℕ
page_text cells p = lines_from cells (60 * p) (rows_on (rows_in cells) p)

abbrev pub page_bytes : List ℕ → ℕ → ℕ
page_bytes cells p = 23 * rows_on (rows_in cells) p

-- The page at the front of a buffer: the bytes behind it keep their contents.
abbrev pub page_into : List ℕ → ℕ → List ℕ → List ℕ
page_into cells p buffer = page_text cells p ++ drop (page_bytes cells p) buffer

-- question 30: whole rows, and at most 100,000
unfoldable pub record_fits : List ℕ → Bool
record_fits cells = eqb (length cells % 16) 0 && leb (rows_in cells) 100000

-- question 12: it is put to the rows of the page alone
unfoldable pub legal_page : List ℕ → ℕ → Bool
legal_page cells p = all legal_row (tab (rows_on (rows_in cells) p) (λ i. row_at cells (60 * p + i)))

-- asked of a page for a buffer of `room` bytes
abbrev pub page_questions : List ℕ → ℕ → ℕ → List Question
page_questions cells p room =
    ask 30 (record_fits cells)
    ∷ ask 31 (leb 1 (rows_on (rows_in cells) p))
    ∷ ask 12 (legal_page cells p)
    ∷ ask 32 (leb (page_bytes cells p) room)
    ∷ []

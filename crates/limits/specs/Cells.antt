-- A cell is a 16-bit reading of 0 to 4095, or that of a torn cell. A row is 16 cells.
use Rattle.std.specs.Prelude.{ℕ, ◌*◌, Bool, ◌||◌, List, take, drop, leb, eqb}
use Rattle.limits.specs.Lists.{all}

-- what a torn cell reads
abbrev pub torn : ℕ
torn = 65535

unfoldable pub legal_cell : ℕ → Bool
legal_cell c = leb c 4095 || eqb c torn

-- row i of a list of cells
abbrev pub row_at : List ℕ → ℕ → List ℕ
row_at cells i = take 16 (drop (16 * i) cells)

abbrev pub legal_row : List ℕ → Bool
legal_row row = all legal_cell row

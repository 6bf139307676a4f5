-- Bytes, and the numbers that they hold, low byte first.
use Rattle.std.specs.Prelude.{ℕ, ◌+◌, ◌*◌, ◌%◌, ◌/◌, ◌<◌, List, [], ◌∷◌, ◌++◌, get_or}
use Rattle.limits.specs.Lists.{tab}

-- byte i of a list, counted from 0, and 0 past the end
abbrev pub byte : List ℕ → ℕ → ℕ
byte bytes i = get_or bytes i 0

-- what a `&[u8]` holds
abbrev pub Bytes : List ℕ → Type 0
Bytes bytes = (i : ℕ) → byte bytes i < 256

-- Read: a number of two bytes from a place on, one of four, and n cells.
abbrev pub number2 : List ℕ → ℕ → ℕ
number2 bytes at = byte bytes at + 256 * byte bytes (at + 1)

abbrev pub number4 : List ℕ → ℕ → ℕ
number4 bytes at = number2 bytes at + 65536 * number2 bytes (at + 2)

abbrev pub cells_at : List ℕ → ℕ → ℕ → List ℕ
cells_at bytes at n = tab n (λ k. number2 bytes (at + 2 * k))

-- Written.
abbrev pub bytes2 : ℕ → List ℕ
bytes2 n = n % 256 ∷ n / 256 ∷ []

abbrev pub bytes4 : ℕ → List ℕ
bytes4 n = bytes2 (n % 65536) ++ bytes2 (n / 65536)

abbrev pub cell_bytes : List ℕ → List ℕ
cell_bytes [] = []
cell_bytes (cell ∷ cells) = bytes2 cell ++ cell_bytes cells

-- The layout of a horse's file: where each number stands, and what is written. Numbers stand low byte first.
use Rattle.std.specs.Prelude.{ℕ, ◌+◌, ◌-◌, ◌*◌, ◌/◌, List, [], ◌∷◌, ◌++◌, map, length, take, drop}
use Rattle.limits.specs.Lists.{tab, joined}
use Rattle.buffers.specs.Bytes.{byte, number2, number4, cells_at, bytes2, bytes4, cell_bytes}
use Rattle.horsefile.specs.declared.Saved.{Saved}
use Rattle.horsefile.specs.declared.Entry.{Entry}

-- What was saved, in six bytes: horse (2), leg (1), save (1), rows (2).
abbrev pub saved_at : List ℕ → ℕ → Saved
saved_at bytes at =
    record { horse = number2 bytes at; leg = byte bytes (at + 2); save = byte bytes (at + 3); rows = number2 bytes (at + 4) }

abbrev pub saved_bytes : Saved → List ℕ
saved_bytes s = bytes2 s.horse ++ (s.leg ∷ s.save ∷ bytes2 s.rows)

-- An entry of the contents has four more (ten): the start of its body, counted from the file's first byte.
abbrev pub entry_at : List ℕ → ℕ → Entry
entry_at bytes at = record { saved = saved_at bytes at; start = number4 bytes (at + 6) }

abbrev pub entry_bytes : Entry → List ℕ
entry_bytes e = saved_bytes e.saved ++ bytes4 e.start

-- A file is a byte c, c entries, and the bodies.
abbrev pub count : List ℕ → ℕ
count file = byte file 0

abbrev pub entries_in : List ℕ → ℕ → List Entry
entries_in file n = tab n (λ i. entry_at file (1 + 10 * i))

abbrev pub contents : List ℕ → List Entry
contents file = entries_in file (count file)

-- where the bodies begin in a file of n entries
abbrev pub bodies_at : ℕ → ℕ
bodies_at n = 1 + 10 * n

-- A body has 32 bytes for each row: 16 cells.
abbrev pub body_bytes : Saved → ℕ
body_bytes s = 32 * s.rows

abbrev pub body : List ℕ → Entry → List ℕ
body file e = take (body_bytes e.saved) (drop e.start file)

-- the cells of all bodies
abbrev pub cells_in : List ℕ → List ℕ
cells_in file = cells_at file (bodies_at (count file)) ((length file - bodies_at (count file)) / 2)

-- what stands in n places, `step` bytes apart, the first one at `at`
abbrev pub saved_from : List ℕ → ℕ → ℕ → ℕ → List Saved
saved_from bytes at step n = tab n (λ i. saved_at bytes (at + step * i))

-- A writer is handed the six bytes of each entry, and the cells of all rows.
abbrev pub saved_in : List ℕ → List Saved
saved_in entries = saved_from entries 0 6 (length entries / 6)

unfoldable pub rows_of : List Saved → ℕ
rows_of [] = 0
rows_of (s ∷ rest) = s.rows + rows_of rest

-- It works out the starts: each body stands where the one before it ends, the first one at `at`.
unfoldable pub placed : ℕ → List Saved → List Entry
placed at [] = []
placed at (s ∷ rest) = record { saved = s; start = at } ∷ placed (at + body_bytes s) rest

abbrev pub contents_bytes : List Saved → List ℕ
contents_bytes saved = joined (map entry_bytes (placed (bodies_at (length saved)) saved))

abbrev pub file_of : List Saved → List ℕ → List ℕ
file_of saved cells = length saved ∷ (contents_bytes saved ++ cell_bytes cells)

abbrev pub size_of : List Saved → ℕ
size_of saved = bodies_at (length saved) + 32 * rows_of saved

-- A file at the front of a buffer: the bytes behind it keep their contents.
abbrev pub file_into : List Saved → List ℕ → List ℕ → List ℕ
file_into saved cells buffer = file_of saved cells ++ drop (size_of saved) buffer

-- What is written are bytes.
use Prim.Native.Nat.{ℕ, suc, ◌+◌, ◌*◌, ◌%◌, ◌/◌, ◌≤◌}
use mathlib.Core.Path.{◌≡◌}
use mathlib.Core.Bool.{true}
use mathlib.Core.List.{List, [], ◌∷◌, ◌++◌}
use native.Mathlib.Omega.{arith}
use lib.Dec.{leb}
use lib.ListN.{length}
use borrow.Author.Tests.{leb-true}
use Rattle.limits.specs.Cells.{legal_cell}
use Rattle.limits.specs.Lists.{all, joined}
use Rattle.limits.proofs.Laws.Choice.{and_left, and_right}
use Rattle.buffers.specs.Bytes.{Bytes, bytes2, cell_bytes}
use Rattle.buffers.proofs.Laws.Bytes.{none-small, cons-small, cells-small}
use Rattle.horsefile.specs.declared.Saved.{Saved}
use Rattle.horsefile.specs.Layout.{bodies_at, body_bytes, placed, rows_of, file_of}
use Rattle.horsefile.proofs.Laws.Writing.{bytes_of}
use Rattle.horsefile.proofs.Laws.Placed.{small_saved, rows-most}

append-small : (xs ys : List ℕ) → Bytes xs → Bytes ys → Bytes (xs ++ ys)
append-small [] ys p q = q
append-small (x ∷ xs) ys p q = cons-small x (xs ++ ys) (p 0) (append-small xs ys (λ i. p (suc i)) q)

two-small : (n : ℕ) (rest : List ℕ) → n ≤ 65535 → Bytes rest → Bytes (bytes2 n ++ rest)
two-small n rest h b = cons-small (n % 256) (n / 256 ∷ rest) (omega arith) (cons-small (n / 256) rest (omega arith) b)

entries-small : (at : ℕ) (saved : List Saved) → all small_saved saved ≡ true → at + 32 * rows_of saved ≤ 4294967295 → Bytes (bytes_of (placed at saved))
unfolding all placed rows_of joined
entries-small at [] e h = none-small
entries-small at (s ∷ rest) e h =
    let here = and_left (small_saved s) _ e in
    let behind = and_right (leb s.horse 65535) _ here in
    let bytes = and_right (leb s.rows 65535) _ behind in
    let more = bytes_of (placed (at + body_bytes s) rest) in
    let start = bytes2 (at % 65536) ++ (bytes2 (at / 65536) ++ more) in
    let rows = bytes2 s.rows ++ start in
    let l = leb-true s.leg 255 (and_left (leb s.leg 255) _ bytes) in
    let v = leb-true s.save 255 (and_right (leb s.leg 255) _ bytes) in
    two-small s.horse (s.leg ∷ s.save ∷ rows) (leb-true s.horse 65535 (and_left (leb s.horse 65535) _ here))
    (cons-small s.leg (s.save ∷ rows) (omega arith)
    (cons-small s.save rows (omega arith)
    (two-small s.rows start (leb-true s.rows 65535 (and_left (leb s.rows 65535) _ behind))
    (two-small (at % 65536) (bytes2 (at / 65536) ++ more) (omega arith)
    (two-small (at / 65536) more (omega arith) (entries-small (at + body_bytes s) rest (and_right (small_saved s) _ e) (omega arith)))))))

pub file-small : (saved : List Saved) (cells : List ℕ) → all small_saved saved ≡ true → length saved ≤ 64 → all legal_cell cells ≡ true → Bytes (file_of saved cells)
file-small saved cells e few legal =
    let contents = bytes_of (placed (bodies_at (length saved)) saved) in
    let most = rows-most saved e in
    cons-small (length saved) (contents ++ cell_bytes cells) (omega arith)
    (append-small contents (cell_bytes cells) (entries-small (bodies_at (length saved)) saved e (omega arith)) (cells-small cells legal))

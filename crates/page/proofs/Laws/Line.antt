-- Laws on one line of a page.
use Prim.Native.Nat.{ℕ, ◌+◌, ◌/◌, ◌%◌, ◌≤◌, ◌<◌}
use mathlib.Core.Path.{◌≡◌, refl, sym, ◌∙◌, ap, ap₂}
use mathlib.Core.Bool.{true}
use mathlib.Core.List.{List, ◌++◌, map, append_assoc}
use native.Mathlib.Omega.{arith}
use lib.ListN.{length, get_or, set, take, drop, length-map}
use lib.Seq.{take_all}
use borrow.Rule.Slice.PartMut.{put_mid}
use Rattle.std.proofs.lemmas.Slice.{put_mid-paste}
use borrow.Author.Tests.{lt-ltb, le-ltb}
use Rattle.limits.specs.Cells.{legal_cell, legal_row}
use Rattle.limits.specs.Lists.{tab}
use Rattle.limits.proofs.Laws.Choice.{pick_yes, pick_no}
use Rattle.limits.proofs.Laws.Lists.{all-at, all_read}
use Rattle.buffers.specs.Ascii.{space}
use Rattle.buffers.specs.Buffers.{wrote}
use Rattle.buffers.proofs.Laws.Buffers.{wrote_on, wrote-byte}
use Rattle.page.specs.Page.{printed, column, number_text, line_text}

pub column-space : (n unit : ℕ) → n < unit → 32 ≡ column n unit
unfolding column
column-space n unit h = sym (pick_yes _ _ _ _ (lt-ltb n unit h) refl)

pub column-digit : (n unit : ℕ) → unit ≤ n → 48 + n / unit % 10 ≡ column n unit
unfolding column
column-digit n unit h = sym (pick_no _ _ _ _ (le-ltb n unit h) refl)

-- a part of the buffer that holds the text
pub part_wrote : (at n : ℕ) (xs ys text : List ℕ) → ys ≡ text → n ≡ length text → put_mid at n xs ys ≡ wrote at text xs
unfolding wrote
part_wrote at n xs ys text e q =
    put_mid-paste at n xs ys text n e refl q
    ∙ append_assoc (take at xs) (take n text) (drop (at + n) xs)
    ∙ ap₂ (λ t k. take at xs ++ (t ++ drop (at + k) xs)) (take_all n text (omega arith)) q

pub cell-legal : (row : List ℕ) → length row ≡ 16 → legal_row row ≡ true → (i : ℕ) → i < 16 → legal_cell (get_or row i 0) ≡ true
cell-legal row l e i h = all-at legal_cell row i 0 (omega arith) e

-- the characters of a row's cells
pub row_wrote : (at n : ℕ) (xs ys row : List ℕ) → length row ≡ 16 → ys ≡ tab 16 (λ k. printed (get_or row k 0)) → n ≡ 16
    → put_mid at n xs ys ≡ wrote at (map printed row) xs
row_wrote at n xs ys row l e q = part_wrote at n xs ys (map printed row) (e ∙ all_read printed 0 row 16 l) (let m = length-map row printed in omega arith)

pub line_wrote : (xs ys zs row : List ℕ) (at n : ℕ) → length row ≡ 16 → ys ≡ wrote at (number_text n ++ space) xs → zs ≡ wrote (at + 6) (map printed row) ys
    → at + 22 < length zs → set zs (at + 22) 10 ≡ wrote at (line_text n row) xs
line_wrote xs ys zs row at n l e q h =
    wrote-byte at ((number_text n ++ space) ++ map printed row) xs zs (at + 22) 10
    (q ∙ ap (wrote (at + 6) (map printed row)) e ∙ wrote_on at (number_text n ++ space) (map printed row) xs)
    (let m = length-map row printed in omega arith) h

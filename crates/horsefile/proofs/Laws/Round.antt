-- Laws on whole files: what was written is read, and what is read was written.
use Prim.Native.Nat.{ℕ, suc, ◌+◌, ◌-◌, ◌*◌, ◌%◌, ◌/◌, ◌≤◌}
use mathlib.Core.Path.{◌≡◌, refl, sym, ◌∙◌, ap, ap₂}
use mathlib.Core.Bool.{true}
use mathlib.Core.List.{List, [], ◌∷◌, ◌++◌, map, append-nil}
use native.Mathlib.Omega.{arith}
use lib.ListN.{length, take, drop, length-append, length-drop, take-append-drop}
use lib.Seq.{take_all}
use borrow.Author.Tests.{le-leb, eq-eqb}
use Rattle.limits.specs.Cells.{legal_cell}
use Rattle.limits.specs.Lists.{all, joined}
use Rattle.limits.proofs.Laws.Choice.{both}
use Rattle.limits.proofs.Laws.Lists.{length-tab}
use Rattle.buffers.specs.Bytes.{byte, Bytes, cell_bytes, number2}
use Rattle.buffers.proofs.Laws.Bytes.{length-cells, cells-read, cells-written}
use Rattle.horsefile.specs.declared.Saved.{Saved}
use Rattle.horsefile.specs.declared.Entry.{Entry}
use Rattle.horsefile.specs.Layout.{count, contents, entries_in, bodies_at, saved_at, saved_bytes, saved_from, entry_at, entry_bytes, cells_in, saved_in, rows_of, placed, contents_bytes, file_of, size_of}
use Rattle.horsefile.specs.Rules.{legal_entry, without_gaps, file_fits, saved_of, write_fits}
use Rattle.horsefile.proofs.Laws.Asked.{Fits}
use Rattle.horsefile.proofs.Laws.Current.{saved-entries}
use Rattle.horsefile.proofs.Laws.Writing.{bytes_of, length-entries}
use Rattle.horsefile.proofs.Laws.Entries.{saved-behind, entry-behind, saved-written, entry-written}
use Rattle.horsefile.proofs.Laws.Items.{items-read, length-items, items-written}
use Rattle.horsefile.proofs.Laws.Placed.{saved-again, entry-again, length-placed, saved-placed, placed-gaps, gaps-placed, gaps-size}

-- A file that was written.
module _ (saved : List Saved) (cells : List ℕ) where
  abbrev pub file : List ℕ
  file = file_of saved cells

  abbrev pub entries : List Entry
  entries = placed (bodies_at (length saved)) saved

  front_bytes : bodies_at (length saved) ≡ length (length saved ∷ bytes_of entries)
  front_bytes = let l = length-entries (bodies_at (length saved)) saved in omega arith

  contents-read : contents file ≡ entries
  contents-read =
      ap (entries_in file) (sym (length-placed (bodies_at (length saved)) saved))
      ∙ items-read entry_at entry_bytes 10 entry-behind entry-again (λ x. refl) entries (length saved ∷ []) (cell_bytes cells)

  pub saved-read : saved_of (contents file) ≡ saved
  saved-read = ap saved_of contents-read ∙ saved-placed (bodies_at (length saved)) saved

  module _ (counted : length cells ≡ 16 * rows_of saved) where
    pub file-size : length file ≡ size_of saved
    file-size =
        let a = length-append (bytes_of entries) (cell_bytes cells) in
        let l = length-entries (bodies_at (length saved)) saved in
        let c = length-cells cells in
        omega arith

    pub cells-again : cells_in file ≡ cells
    cells-again =
        let s = file-size in
        cells-read (length saved ∷ bytes_of entries) cells (bodies_at (length saved)) ((length file - bodies_at (length saved)) / 2) front_bytes (omega arith)

    pub fits-again : length saved ≤ 64 → all legal_entry saved ≡ true → all legal_cell cells ≡ true → file_fits file ≡ true
    fits-again few legal cells_legal =
        let s = file-size in
        both _ _ (le-leb (length saved) 64 few)
        (both _ _ (le-leb (bodies_at (length saved)) (length file) (omega arith))
        (both _ _ (ap (all legal_entry) saved-read ∙ legal)
        (both _ _ (ap (λ es. without_gaps (bodies_at (length saved)) es (length file)) contents-read ∙ placed-gaps (bodies_at (length saved)) saved (length file) s)
        (ap (all legal_cell) cells-again ∙ cells_legal))))

-- six bytes of each entry
abbrev pub six_bytes : List Saved → List ℕ
six_bytes saved = joined (map saved_bytes saved)

pub six-written : (entries : List ℕ) → Bytes entries → length entries % 6 ≡ 0 → six_bytes (saved_in entries) ≡ entries
six-written entries small whole =
    items-written saved_at saved_bytes 6 entries 0 (λ k h. saved-written entries small k h) (length entries / 6) (omega arith)
    ∙ take_all (6 * (length entries / 6)) entries (omega arith)

length-six : (saved : List Saved) → length (six_bytes saved) ≡ 6 * length saved
length-six saved = length-items saved_at saved_bytes 6 (λ x. refl) saved

six-read : (saved : List Saved) → saved_in (six_bytes saved) ≡ saved
six-read saved =
    let l = length-six saved in
    ap₂ (λ bytes n. saved_from bytes 0 6 n) (sym (append-nil (six_bytes saved))) (let p : length (six_bytes saved) / 6 ≡ length saved = omega arith in p)
    ∙ items-read saved_at saved_bytes 6 saved-behind saved-again (λ x. refl) saved [] []

-- A file that was read.
module _ (file : List ℕ) (small : Bytes file) (f : Fits file) where
  abbrev pub read : List Saved
  read = saved_of (contents file)

  length-read : length read ≡ count file
  length-read = ap length (saved-entries file (count file)) ∙ length-tab (count file) (λ i. saved_at file (1 + 10 * i))

  bodies-size : length file ≡ bodies_at (count file) + 32 * rows_of read
  bodies-size = gaps-size (length file) (bodies_at (count file)) (contents file) f.gaps

  whole-file : (bytes : List ℕ) (n : ℕ) → 1 ≤ length bytes → byte bytes 0 ∷ (take n (drop 1 bytes) ++ drop (1 + n) bytes) ≡ bytes
  whole-file [] n h = absurd (omega arith)
  whole-file (x ∷ rest) n h = ap (x ∷◌) (ap (λ k. take n rest ++ drop k (x ∷ rest)) {x = 1 + n} {y = suc n} (omega arith) ∙ take-append-drop n rest)

  contents-written : contents_bytes read ≡ take (10 * count file) (drop 1 file)
  contents-written =
      let l = f.long in
      ap bytes_of (ap (λ n. placed (bodies_at n) read) length-read ∙ gaps-placed (length file) (bodies_at (count file)) (contents file) f.gaps)
      ∙ items-written entry_at entry_bytes 10 file 1 (λ k h. entry-written file small k h) (count file) (omega arith)

  bodies-written : cell_bytes (cells_in file) ≡ drop (bodies_at (count file)) file
  bodies-written =
      let s = bodies-size in
      let l = length-drop (bodies_at (count file)) file in
      cells-written file (bodies_at (count file)) ((length file - bodies_at (count file)) / 2) small (omega arith)
      ∙ take_all (2 * ((length file - bodies_at (count file)) / 2)) (drop (bodies_at (count file)) file) (omega arith)

  pub file-again : file_of read (cells_in file) ≡ file
  file-again =
      let l = f.long in
      ap₂ (λ c rest. c ∷ rest) length-read (ap₂ ◌++◌ contents-written bodies-written) ∙ whole-file file (10 * count file) (omega arith)

  pub six-again : saved_in (six_bytes read) ≡ read
  six-again = six-read read

  pub writes-again : write_fits (six_bytes read) (cells_in file) (length file) ≡ true
  writes-again =
      let s = bodies-size in
      let l = length-six read in
      let n = length-read in
      let few = f.few in
      let r = six-again in
      let t = length-tab ((length file - bodies_at (count file)) / 2) (λ k. number2 file (bodies_at (count file) + 2 * k)) in
      both _ _ (eq-eqb (length (six_bytes read) % 6) 0 (omega arith))
      (both _ _ (le-leb (length (six_bytes read) / 6) 64 (omega arith))
      (both _ _ (ap (all legal_entry) r ∙ f.entries_legal)
      (both _ _ (eq-eqb (length (cells_in file)) (16 * rows_of (saved_in (six_bytes read))) (let q = ap rows_of r in omega arith))
      (both _ _ f.legal (le-leb (size_of (saved_in (six_bytes read))) (length file) (let q = ap size_of r in omega arith))))))

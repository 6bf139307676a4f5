-- Laws on the lines of a page, and on its questions.
use Prim.Native.Nat.{ℕ, zero, suc, ◌+◌, ◌-◌, ◌*◌, ◌/◌, ◌%◌, ◌≤◌, ◌<◌, min}
use mathlib.Core.Path.{◌≡◌, refl, sym, ◌∙◌, ap, ap₂}
use mathlib.Core.Bool.{Bool, true, false}
use mathlib.Core.List.{List, [], ◌∷◌, ◌++◌, append_assoc, append-nil, map}
use native.Mathlib.Omega.{arith}
use lib.Dec.{eqb, leb}
use lib.ListN.{length, take, drop, length-append, length-map}
use borrow.Author.Tests.{le-leb, lt-leb, leb-true}
use Rattle.limits.specs.Cells.{row_at, legal_cell, legal_row}
use Rattle.limits.specs.Lists.{tab, all, joined}
use Rattle.limits.specs.Questions.{ask, first_no}
use Rattle.limits.proofs.Laws.Choice.{pick_yes, pick_no, split, and_right}
use Rattle.limits.proofs.Laws.Lists.{all-tab-at, tab-more, joined-append}
use Rattle.limits.proofs.Laws.Questions.{each}
use Rattle.rows.proofs.Laws.Cells.{length_part, row-lent, legal-rows}
use Rattle.buffers.specs.Buffers.{wrote}
use Rattle.buffers.proofs.Laws.Buffers.{wrote_on, wrote-front}
use Rattle.page.specs.Page.{printed, line_text, rows_in, rows_on, lines_from, page_text, page_bytes, page_into, record_fits, legal_page, page_questions}

-- how many rows a page has
pub on-last : (rows p : ℕ) → rows - 60 * p ≤ 60 → rows - 60 * p ≡ rows_on rows p
unfolding rows_on
on-last rows p h = sym (pick_yes _ _ _ _ (le-leb _ 60 h) refl)

pub on-full : (rows p : ℕ) → 60 < rows - 60 * p → 60 ≡ rows_on rows p
unfolding rows_on
on-full rows p h = sym (pick_no _ _ _ _ (lt-leb _ 60 h) refl)

pub on-least : (rows p : ℕ) → min (rows - 60 * p) 60 ≡ rows_on rows p
on-least rows p =
    split (rows - 60 * p) 60
    (λ k. let least : min (rows - 60 * p) 60 ≡ rows - 60 * p = omega arith in least ∙ on-last rows p k)
    (λ k. let least : min (rows - 60 * p) 60 ≡ 60 = omega arith in least ∙ on-full rows p k)

pub on_fits : (rows p n : ℕ) → n ≡ rows_on rows p → 1 ≤ n → 60 * p + n ≤ rows
on_fits rows p n e h =
    split (rows - 60 * p) 60
    (λ k. let q = on-last rows p k in omega arith)
    (λ k. let q = on-full rows p k in omega arith)

pub fits-rows : (cells : List ℕ) → record_fits cells ≡ true → length cells / 16 ≤ 100000
unfolding record_fits
fits-rows cells e = leb-true (length cells / 16) 100000 (and_right (eqb (length cells % 16) 0) _ e)

-- every line is 23 bytes
pub length-line : (n : ℕ) (row : List ℕ) → length row ≡ 16 → length (line_text n row) ≡ 23
length-line n row l = let m = length-map row printed in let k = length-append (map printed row) (10 ∷ []) in omega arith

module _ (cells : List ℕ) (first : ℕ) where
  more-lines : (n : ℕ) → lines_from cells first (n + 1) ≡ lines_from cells first n ++ line_text (first + n) (row_at cells (first + n))
  unfolding joined
  more-lines n =
      ap joined (tab-more n _)
      ∙ joined-append (tab n (λ i. line_text (first + i) (row_at cells (first + i)))) _
      ∙ ap (lines_from cells first n ++◌) (append-nil _)

  pub length-lines : (n : ℕ) → 16 * (first + n) ≤ length cells → length (lines_from cells first n) ≡ 23 * n
  unfolding tab joined
  length-lines zero h = refl
  length-lines (suc n) h =
      ap (λ k. length (lines_from cells first k)) {x = suc n} {y = n + 1} (omega arith)
      ∙ ap length (more-lines n)
      ∙ length-append (lines_from cells first n) _
      ∙ (let l = length-lines n (omega arith) in let m = length-line (first + n) (row_at cells (first + n)) (length_part cells (16 * (first + n)) (omega arith)) in omega arith)

  -- lines behind lines
  pub lines-on : (n m : ℕ) → lines_from cells first (n + m) ≡ lines_from cells first n ++ lines_from cells (first + n) m
  unfolding tab joined
  lines-on n zero = ap (lines_from cells first) {x = n + 0} {y = n} (omega arith) ∙ sym (append-nil _)
  lines-on n (suc m) =
      ap (lines_from cells first) {x = n + suc m} {y = n + m + 1} (omega arith)
      ∙ more-lines (n + m)
      ∙ ap₂ (λ k front. front ++ line_text k (row_at cells k)) {x = first + (n + m)} {y = first + n + m} (omega arith) (lines-on n m)
      ∙ append_assoc (lines_from cells first n) _ _
      ∙ ap (lines_from cells first n ++◌) (append-joined m)
    where
      append-joined : (m : ℕ) → lines_from cells (first + n) m ++ line_text (first + n + m) (row_at cells (first + n + m)) ≡ lines_from cells (first + n) (suc m)
      append-joined m = sym (joined-append (tab m (λ i. line_text (first + n + i) (row_at cells (first + n + i)))) _ ∙ ap (lines_from cells (first + n) m ++◌) (append-nil _))

  -- a turn of the loop
  pub lines-turn : (xs ys zs row : List ℕ) (i at : ℕ) → ys ≡ wrote 0 (lines_from cells first i) xs → at ≡ 23 * i → 16 * (first + i) ≤ length cells
      → row ≡ row_at cells (first + i) → zs ≡ wrote at (line_text (first + i) row) ys → zs ≡ wrote 0 (lines_from cells first (i + 1)) xs
  lines-turn xs ys zs row i at e q h r w =
      w
      ∙ ap (λ row. wrote at (line_text (first + i) row) ys) r
      ∙ ap₂ (λ n l. wrote n (line_text (first + i) (row_at cells (first + i))) l) {x = at} {y = 0 + length (lines_from cells first i)} (let l = length-lines i h in omega arith) e
      ∙ wrote_on 0 (lines_from cells first i) _ xs
      ∙ ap (λ t. wrote 0 t xs) (sym (more-lines i))

-- the questions, in their order: `n` is how many rows the page has
module _ (cells : List ℕ) (p room : ℕ) where
  pub bad-length : record_fits cells ≡ false → 30 ≡ first_no (page_questions cells p room)
  bad-length e = sym (pick_no _ _ _ _ e refl)

  module _ (fits : record_fits cells ≡ true) (n : ℕ) (on : n ≡ rows_on (rows_in cells) p) where
    pub no-page : n < 1 → 31 ≡ first_no (page_questions cells p room)
    no-page h = sym (pick_yes _ _ _ _ fits (pick_no _ _ _ _ (ap (leb 1) (sym on) ∙ lt-leb 1 n h) refl))

    -- `legal` is what the loop over the page's cells says of them
    module _ (some : 1 ≤ n) (legal : Bool) (asked : legal ≡ all legal_cell (take (16 * (60 * p) + 16 * n - 16 * (60 * p)) (drop (16 * (60 * p)) cells))) where
      legal-is : legal ≡ legal_page cells p
      unfolding legal_page
      legal-is =
          asked
          ∙ ap (λ k. all legal_cell (take k (drop (16 * (60 * p)) cells))) {x = 16 * (60 * p) + 16 * n - 16 * (60 * p)} {y = 16 * n} (omega arith)
          ∙ legal-rows cells 16 (60 * p) n
          ∙ ap (λ k. all legal_row (tab k (λ i. row_at cells (60 * p + i)))) on

      behind : (k : ℕ) → first_no (ask 12 (legal_page cells p) ∷ ask 32 (leb (page_bytes cells p) room) ∷ []) ≡ k → k ≡ first_no (page_questions cells p room)
      behind k e = sym (pick_yes _ _ _ _ fits (pick_yes _ _ _ _ (ap (leb 1) (sym on) ∙ le-leb 1 n some) e))

      pub bad-cell : legal ≡ false → 12 ≡ first_no (page_questions cells p room)
      bad-cell e = behind 12 (pick_no _ _ _ _ (sym legal-is ∙ e) refl)

      pub short : legal ≡ true → room < 23 * n → 32 ≡ first_no (page_questions cells p room)
      short e h = behind 32 (pick_yes _ _ _ _ (sym legal-is ∙ e) (pick_no _ _ _ _ (lt-leb (page_bytes cells p) room (let q = on in omega arith)) refl))

      pub all_yes : legal ≡ true → 23 * n ≤ room → 0 ≡ first_no (page_questions cells p room)
      all_yes e h = behind 0 (pick_yes _ _ _ _ (sym legal-is ∙ e) (pick_yes _ _ _ _ (le-leb (page_bytes cells p) room (let q = on in omega arith)) refl))

-- a page that passed all questions is whole rows of the record, and fits the buffer
pub record Passed (cells : List ℕ) (p room : ℕ) : Type 0 where
  pub rows : rows_in cells ≤ 100000
  pub some : 1 ≤ rows_on (rows_in cells) p
  pub legal : legal_page cells p ≡ true
  pub fits : 23 * rows_on (rows_in cells) p ≤ room

pub passed : (cells : List ℕ) (p room : ℕ) → first_no (page_questions cells p room) ≡ 0 → Passed cells p room
unfolding all
passed cells p room e =
    let q = each (page_questions cells p room) refl e in
    record { rows = fits-rows cells q.0; some = leb-true 1 _ q.1.0; legal = q.1.1.0; fits = leb-true _ room q.1.1.1.0 }

-- its rows are legal, in the words that the lines require
pub page-rows-legal : (cells : List ℕ) (p n : ℕ) → legal_page cells p ≡ true → n ≡ rows_on (rows_in cells) p → all legal_row (tab n (λ i. row_at cells (60 * p + i))) ≡ true
unfolding legal_page
page-rows-legal cells p n e on = ap (λ n. all legal_row (tab n (λ i. row_at cells (60 * p + i)))) on ∙ e

-- row i of these, lent as a part
pub row-ready : (cells : List ℕ) (first n i : ℕ) → 16 * (first + n) ≤ length cells → all legal_row (tab n (λ k. row_at cells (first + k))) ≡ true → i < n
    → (length (take (16 * (first + i) + 16 - 16 * (first + i)) (drop (16 * (first + i)) cells)) ≡ 16)
    × (legal_row (take (16 * (first + i) + 16 - 16 * (first + i)) (drop (16 * (first + i)) cells)) ≡ true)
row-ready cells first n i fits legal h =
    let part = row-lent cells (first + i) in
    (ap length part ∙ length_part cells (16 * (first + i)) (omega arith), ap legal_row part ∙ all-tab-at legal_row n (λ k. row_at cells (first + k)) legal i h)

-- the page's lines at the front of the buffer
pub page-done : (cells xs ys : List ℕ) (p n : ℕ) → Passed cells p (length xs) → n ≡ rows_on (rows_in cells) p → ys ≡ wrote 0 (lines_from cells (60 * p) n) xs
    → ys ≡ page_into cells p xs
unfolding page_text
page-done cells xs ys p n h on e =
    let f = on_fits (rows_in cells) p n on (let s = h.some in omega arith) in
    e
    ∙ wrote-front (lines_from cells (60 * p) n) xs
    ∙ ap (λ k. lines_from cells (60 * p) n ++ drop k xs) (length-lines cells (60 * p) n (omega arith))
    ∙ ap (λ k. lines_from cells (60 * p) k ++ drop (23 * k) xs) on

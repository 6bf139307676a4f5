-- Laws on rows of 16 cells.
use Prim.Native.Nat.{ℕ, zero, suc, ◌+◌, ◌-◌, ◌*◌, ◌≤◌, ◌<◌}
use mathlib.Core.Path.{◌≡◌, sym, ◌∙◌, ap, ap₂}
use mathlib.Core.Bool.{◌&&◌}
use mathlib.Core.List.{List}
use native.Mathlib.Numerals.{add-one}
use native.Mathlib.Nat.{mul-add, mul-zero, mul-suc}
use native.Mathlib.Omega.{arith}
use lib.ListN.{length, get_or, take, drop, length-take, length-drop}
use lib.Seq.{ext_get_or, get_or-take, get_or-drop, take-add, drop-drop}
use Rattle.limits.specs.Cells.{row_at, legal_cell, legal_row}
use Rattle.limits.specs.Lists.{tab, all}
use Rattle.limits.proofs.Laws.Choice.{split}
use Rattle.limits.proofs.Laws.Lists.{all_append, all-next}
use Rattle.rows.specs.Arrays.{changed, from_to, pasted, written}
use Rattle.rows.proofs.Laws.Changed.{length-changed, changed-at, changed-other, inside, below, above}

pub length_part : (cells : List ℕ) (at : ℕ) → at + 16 ≤ length cells → length (take 16 (drop at cells)) ≡ 16
length_part cells at h = length-take 16 (drop at cells) ∙ (let l = length-drop at cells in omega arith)

pub length-row_at : (cells : List ℕ) (p : ℕ) → length cells ≡ 512 → p < 32 → length (row_at cells p) ≡ 16
length-row_at cells p l h = length_part cells (16 * p) (omega arith)

pub length-written : (at : ℕ) (row cells : List ℕ) → length (written at row cells) ≡ length cells
unfolding written
length-written at row cells = length-changed 0 _ _ cells

-- sixteen words are a row
pub pasted-row : (at : ℕ) (row cells next : List ℕ) → length row ≡ 16 → next ≡ pasted at row cells → next ≡ written at row cells
unfolding pasted written
pasted-row at row cells next l e = e ∙ ap (λ n. changed 0 (from_to at (at + n)) (λ i. get_or row (i - at) 0) cells) l

-- the row that was written, and any row apart from it
pub written_row : (at : ℕ) (row cells : List ℕ) → at + 16 ≤ length cells → length row ≡ 16 → take 16 (drop at (written at row cells)) ≡ row
unfolding written
written_row at row cells h l =
    ext_get_or 0 _ row (length_part (written at row cells) at (let n = length-written at row cells in omega arith) ∙ sym l)
    (λ i k. let n = length_part (written at row cells) at (let n = length-written at row cells in omega arith) in
    get_or-take 16 (drop at (written at row cells)) i 0 (omega arith)
    ∙ get_or-drop at (written at row cells) i 0
    ∙ changed-at 0 _ _ cells (at + i) (omega arith) (inside at (at + 16) (at + i) (omega arith) (omega arith))
    ∙ ap (λ j. get_or row j 0) {x = at + i - at} {y = i} (omega arith))

pub written_same : (p : ℕ) (row cells : List ℕ) → length cells ≡ 512 → p < 32 → length row ≡ 16 → row_at (written (16 * p) row cells) p ≡ row
written_same p row cells n h l = written_row (16 * p) row cells (omega arith) l

pub written-other : (p q : ℕ) (row cells : List ℕ) → length cells ≡ 512 → q < 32 → (q ≡ p → ⊥) → row_at (written (16 * p) row cells) q ≡ row_at cells q
unfolding written
written-other p q row cells n h ne =
    ext_get_or 0 _ (row_at cells q) (length-row_at (written (16 * p) row cells) q (length-written (16 * p) row cells ∙ n) h ∙ sym (length-row_at cells q n h))
    (λ i k. let m = length-row_at (written (16 * p) row cells) q (length-written (16 * p) row cells ∙ n) h in
    get_or-take 16 (drop (16 * q) (written (16 * p) row cells)) i 0 (omega arith)
    ∙ get_or-drop (16 * q) (written (16 * p) row cells) i 0
    ∙ changed-other 0 _ _ cells (16 * q + i)
    (split q p (λ o. below (16 * p) (16 * p + 16) (16 * q + i) (omega arith)) (λ o. above (16 * p) (16 * p + 16) (16 * q + i) (omega arith)))
    ∙ sym (get_or-take 16 (drop (16 * q) cells) i 0 (omega arith) ∙ get_or-drop (16 * q) cells i 0))

-- the cells of rows of w that stand one behind the other
pub legal-rows : (cells : List ℕ) (w a n : ℕ) → all legal_cell (take (w * n) (drop (w * a) cells)) ≡ all legal_row (tab n (λ i. take w (drop (w * (a + i)) cells)))
unfolding tab all
legal-rows cells w a zero = ap (λ k. all legal_cell (take k (drop (w * a) cells))) (mul-zero w)
legal-rows cells w a (suc n) =
    ap (λ k. all legal_cell (take k (drop (w * a) cells))) (mul-suc w n)
    ∙ ap (all legal_cell) (take-add (w * n) w (drop (w * a) cells))
    ∙ all_append legal_cell (take (w * n) (drop (w * a) cells)) (take w (drop (w * n) (drop (w * a) cells)))
    ∙ ap₂ ◌&&◌ (legal-rows cells w a n)
    (ap (λ l. legal_row (take w l)) (drop-drop (w * n) (w * a) cells)
    ∙ ap (λ k. legal_row (take w (drop k cells))) (sym (mul-add w a n)))
    ∙ sym (all-next legal_row n (λ i. take w (drop (w * (a + i)) cells)))
    ∙ ap (λ k. all legal_row (tab k (λ i. take w (drop (w * (a + i)) cells)))) (add-one n)

-- from row a to before row b
pub legal-part : (cells : List ℕ) (a b : ℕ)
    → all legal_cell (take (16 * b - 16 * a) (drop (16 * a) cells)) ≡ all legal_row (tab (b - a) (λ i. row_at cells (a + i)))
legal-part cells a b =
    ap (λ k. all legal_cell (take k (drop (16 * a) cells))) {x = 16 * b - 16 * a} {y = 16 * (b - a)} (omega arith) ∙ legal-rows cells 16 a (b - a)

-- one row, lent as a part
pub row-lent : (cells : List ℕ) (i : ℕ) → take (16 * i + 16 - 16 * i) (drop (16 * i) cells) ≡ row_at cells i
row-lent cells i = ap (λ n. take n (drop (16 * i) cells)) {x = 16 * i + 16 - 16 * i} {y = 16} (omega arith)

pub legal-one : (cells : List ℕ) (i : ℕ) → all legal_cell (take (16 * i + 16 - 16 * i) (drop (16 * i) cells)) ≡ legal_row (row_at cells i)
legal-one cells i = ap legal_row (row-lent cells i)

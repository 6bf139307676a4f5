-- Every line is 23 bytes, a page of n rows is 23 n, and the pages one behind the other have each row once, for all input.
use Prim.Native.Nat.{ℕ, zero, suc, ◌+◌, ◌-◌, ◌*◌, ◌≤◌}
use mathlib.Core.Path.{◌≡◌, refl, sym, ◌∙◌, ap, ap₂}
use mathlib.Core.List.{List, ◌++◌, append-nil}
use native.Mathlib.Omega.{arith}
use lib.ListN.{length}
use Rattle.limits.specs.Lists.{tab, joined}
use Rattle.limits.proofs.Laws.Choice.{split}
use Rattle.limits.proofs.Laws.Lists.{joined-append}
use Rattle.page.specs.Page.{line_text, rows_in, rows_on, lines_from, page_text, page_bytes}
use Rattle.page.proofs.Laws.Page.{on-last, on-full, on_fits, length-line, length-lines, lines-on}

pub line-bytes : (n : ℕ) (row : List ℕ) → length row ≡ 16 → length (line_text n row) ≡ 23
line-bytes n row l = length-line n row l

pub page-bytes : (cells : List ℕ) (p : ℕ) → length (page_text cells p) ≡ page_bytes cells p
unfolding page_text tab joined
page-bytes cells p =
    split 1 (rows_on (rows_in cells) p)
    (λ h. let f = on_fits (rows_in cells) p _ refl h in length-lines cells (60 * p) _ (omega arith))
    (λ h. let none : rows_on (rows_in cells) p ≡ 0 = omega arith in
    ap (λ k. length (lines_from cells (60 * p) k)) none ∙ ap (23 *◌) (sym none))

-- the first k pages
pages-to : (cells : List ℕ) (k : ℕ) → joined (tab k (page_text cells)) ≡ lines_from cells 0 (rows_in cells - (rows_in cells - 60 * k))
unfolding page_text tab joined
pages-to cells zero = ap (lines_from cells 0) {x = 0} {y = rows_in cells - (rows_in cells - 60 * 0)} (omega arith)
pages-to cells (suc k) =
    joined-append (tab k (page_text cells)) _
    ∙ ap₂ ◌++◌ (pages-to cells k) (append-nil _)
    ∙ split (60 * k) (rows_in cells)
    (λ h. ap (λ n. lines_from cells 0 n ++ lines_from cells (60 * k) (rows_on (rows_in cells) k)) {x = rows_in cells - (rows_in cells - 60 * k)} {y = 60 * k} (omega arith)
    ∙ ap (λ first. lines_from cells 0 (60 * k) ++ lines_from cells first (rows_on (rows_in cells) k)) {x = 60 * k} {y = 0 + 60 * k} (omega arith)
    ∙ sym (lines-on cells 0 (60 * k) (rows_on (rows_in cells) k))
    ∙ ap (lines_from cells 0) (behind (rows_in cells) k h))
    (λ h. let none : rows_on (rows_in cells) k ≡ 0 = sym (on-last (rows_in cells) k (omega arith)) ∙ omega arith in
    ap (λ n. lines_from cells 0 (rows_in cells - (rows_in cells - 60 * k)) ++ lines_from cells (60 * k) n) none
    ∙ append-nil _
    ∙ ap (lines_from cells 0) {x = rows_in cells - (rows_in cells - 60 * k)} {y = rows_in cells - (rows_in cells - 60 * suc k)} (omega arith))
  where
    behind : (rows k : ℕ) → 60 * k ≤ rows → 60 * k + rows_on rows k ≡ rows - (rows - 60 * suc k)
    behind rows k h =
        split (rows - 60 * k) 60
        (λ q. let n = on-last rows k q in omega arith)
        (λ q. let n = on-full rows k q in omega arith)

pub all-pages : (cells : List ℕ) (k : ℕ) → rows_in cells ≤ 60 * k → joined (tab k (page_text cells)) ≡ lines_from cells 0 (rows_in cells)
all-pages cells k h = pages-to cells k ∙ ap (lines_from cells 0) {x = rows_in cells - (rows_in cells - 60 * k)} {y = rows_in cells} (omega arith)

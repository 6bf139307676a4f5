-- The table of first cells gives each cell from 0 to 4095 its shade, and so does the loop over it.
use Prim.Native.Nat.{ℕ, zero, suc, ◌+◌, ◌*◌, ◌/◌, ◌≤◌, ◌<◌, min}
use mathlib.Core.Path.{◌≡◌, refl, sym, ◌∙◌, ap, ap₂}
use mathlib.Core.Bool.{Bool}
use native.Mathlib.Omega.{arith}
use lib.Dec.{leb, ltb}
use lib.ListN.{get_or}
use borrow.Author.Tests.{lt-ltb, le-ltb, le-leb, lt-leb}
use Rattle.std.specs.Int.{from_bool}
use Rattle.limits.specs.Lists.{tab, how_many}
use Rattle.limits.specs.Questions.{pick}
use Rattle.limits.proofs.Laws.Choice.{split, pick_yes, pick_no, pick-cases, as-number}
use Rattle.limits.proofs.Laws.Lists.{length-tab, tab-self, how_many-next, how_many-most}
use Rattle.page.specs.declared.line.TheConstants.{FIRST_CELLS}
use Rattle.page.specs.Page.{shade}

-- The first cell of shade k is the least whose tenfold is at least 4096 k: 4096 k / 10, rounded up.
abbrev first_cell : ℕ → ℕ
first_cell k = (4096 * k + 9) / 10

from-first : (k cell : ℕ) → first_cell k ≤ cell → k ≤ shade cell
unfolding shade
from-first k cell h = omega arith

before-first : (k cell : ℕ) → cell < first_cell k → shade cell < k
unfolding shade
before-first k cell h = omega arith

-- the table holds those of shades 1 to 9
first-cells : FIRST_CELLS ≡ tab 9 (λ i. first_cell (i + 1))
unfolding tab
first-cells = refl

-- A cell is at or past the first cell of shade i + 1 just where its shade is above i.
first-reached : (i cell : ℕ) → leb (first_cell (i + 1)) cell ≡ ltb i (shade cell)
first-reached i cell =
    split (first_cell (i + 1)) cell
    (λ h. le-leb _ _ h ∙ sym (lt-ltb i (shade cell) (let q = from-first (i + 1) cell h in omega arith)))
    (λ h. lt-leb _ _ h ∙ sym (le-ltb i (shade cell) (let q = before-first (i + 1) cell h in omega arith)))

-- Where f i passes for the i below s and no others, s of the first n pass, or all n where there are fewer.
count-below : (p : ℕ → Bool) (f : ℕ → ℕ) (s : ℕ) → ((i : ℕ) → p (f i) ≡ ltb i s) → (n : ℕ) → how_many p (tab n f) ≡ min n s
unfolding tab how_many
count-below p f s h zero = omega arith
count-below p f s h (suc n) =
    ap (λ k. how_many p (tab k f)) {x = suc n} {y = n + 1} (omega arith)
    ∙ how_many-next p n f
    ∙ ap₂ (λ a b. a + pick b 1 0) (count-below p f s h n) (h n)
    ∙ next
  where
    next : min n s + pick (ltb n s) 1 0 ≡ min (suc n) s
    next =
        split s n
        (λ k. ap (min n s +◌) (pick_no (ltb n s) 1 0 0 (le-ltb n s k) refl) ∙ omega arith)
        (λ k. ap (min n s +◌) (pick_yes (ltb n s) 1 0 1 (lt-ltb n s k) refl) ∙ omega arith)

-- How many entries of the table are at most a cell is its shade, by the rule.
pub shade-by-table : (cell : ℕ) → cell ≤ 4095 → how_many (λ first. leb first cell) FIRST_CELLS ≡ shade cell
unfolding shade
shade-by-table cell h =
    ap (how_many (λ first. leb first cell)) first-cells
    ∙ count-below (λ first. leb first cell) (λ i. first_cell (i + 1)) (shade cell) (λ i. first-reached i cell) 9
    ∙ omega arith

module _ (cell : ℕ) where
  -- what the loop over the table has counted before entry i
  abbrev pub counted : ℕ → ℕ
  counted i = how_many (λ first. leb first cell) (tab i (λ k. get_or FIRST_CELLS k 0))

  pub count-turn : (i n e : ℕ) → n ≡ counted i → e ≡ from_bool (leb (get_or FIRST_CELLS i 0) cell) → n + e ≡ counted (i + 1)
  count-turn i n e so this =
      ap₂ ◌+◌ so (this ∙ as-number (leb (get_or FIRST_CELLS i 0) cell)) ∙ sym (how_many-next (λ first. leb first cell) i (λ k. get_or FIRST_CELLS k 0))

  pub count-most : (i n e : ℕ) (b : Bool) → n ≡ counted i → e ≡ from_bool b → i < 9 → n + e ≤ 9
  count-most i n e b so this h =
      let most = how_many-most (λ first. leb first cell) (tab i (λ k. get_or FIRST_CELLS k 0)) in
      let l = length-tab i (λ k. get_or FIRST_CELLS k 0) in
      let one : pick b 1 0 ≤ 1 = pick-cases (λ m. m ≤ 1) b 1 0 (λ q. omega arith) (λ q. omega arith) in
      let a = as-number b in omega arith

  pub count-done : (i n : ℕ) → n ≡ counted i → i ≡ 9 → cell ≤ 4095 → (n ≡ shade cell) × (n ≤ 9)
  unfolding shade
  count-done i n so end h =
      let e = so ∙ ap counted end ∙ ap (how_many (λ first. leb first cell)) (tab-self FIRST_CELLS 9 0 refl) ∙ shade-by-table cell h in
      (e, omega (arith, e))

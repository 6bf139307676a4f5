-- Laws on lists put one behind the other, and on rows written behind one another.
use Prim.Native.Nat.{ℕ, ◌+◌, ◌-◌, ◌*◌, ◌≤◌}
use mathlib.Core.Path.{◌≡◌, refl, sym, ◌∙◌, ap, ap₂}
use mathlib.Core.List.{List, [], ◌∷◌, ◌++◌, append-nil}
use native.Mathlib.Omega.{arith}
use lib.ListN.{length, get_or, drop, length-append, length-drop, get_or-append}
use lib.Seq.{ext_get_or, get_or-append-add, get_or-drop}
use Rattle.limits.specs.Lists.{tab, joined}
use Rattle.limits.proofs.Laws.Choice.{split}
use Rattle.limits.proofs.Laws.Lists.{tab-more, joined-append}
use Rattle.rows.specs.Arrays.{written}
use Rattle.rows.proofs.Laws.Cells.{length-written}
use Rattle.rows.proofs.Laws.Changed.{changed-at, changed-other, inside, below, above}

module _ {A : Type 0} where
  pub joined-none : (f : ℕ → List A) → joined (tab 0 f) ≡ []
  unfolding joined tab
  joined-none f = refl

  pub joined-more : (n : ℕ) (f : ℕ → List A) → joined (tab (n + 1) f) ≡ joined (tab n f) ++ f n
  unfolding joined
  joined-more n f = ap joined (tab-more n f) ∙ joined-append (tab n f) (f n ∷ []) ∙ ap (joined (tab n f) ++◌) (append-nil (f n))

-- a row written behind a front that was written before
pub written-seam : (at : ℕ) (row xs ys : List ℕ) → length xs ≡ at → length row ≡ 16 → at + 16 ≤ length ys
    → written at row (xs ++ drop at ys) ≡ (xs ++ row) ++ drop (at + 16) ys
unfolding written
written-seam at row xs ys l n h =
    ext_get_or 0 _ _ (before ∙ sym after)
    (λ j k. split at j
    (λ a. split (at + 16) j
    (λ b. changed-other 0 _ _ (xs ++ drop at ys) j (above at (at + 16) j b)
    ∙ ap (λ i. get_or (xs ++ drop at ys) i 0) {x = j} {y = length xs + (j - at)} (omega arith)
    ∙ get_or-append-add xs (drop at ys) (j - at) 0
    ∙ get_or-drop at ys (j - at) 0
    ∙ ap (λ i. get_or ys i 0) {x = at + (j - at)} {y = at + 16 + (j - (at + 16))} (omega arith)
    ∙ sym (ap (λ i. get_or ((xs ++ row) ++ drop (at + 16) ys) i 0) {x = j} {y = length (xs ++ row) + (j - (at + 16))} (let q = length-append xs row in omega arith)
    ∙ get_or-append-add (xs ++ row) (drop (at + 16) ys) (j - (at + 16)) 0
    ∙ get_or-drop (at + 16) ys (j - (at + 16)) 0))
    (λ b. changed-at 0 _ _ (xs ++ drop at ys) j (let q = length-append xs (drop at ys) in let r = length-drop at ys in omega arith) (inside at (at + 16) j a b)
    ∙ sym (get_or-append (xs ++ row) (drop (at + 16) ys) 0 j (let q = length-append xs row in omega arith)
    ∙ ap (λ i. get_or (xs ++ row) i 0) {x = j} {y = length xs + (j - at)} (omega arith)
    ∙ get_or-append-add xs row (j - at) 0)))
    (λ a. changed-other 0 _ _ (xs ++ drop at ys) j (below at (at + 16) j a)
    ∙ get_or-append xs (drop at ys) 0 j (omega arith)
    ∙ sym (get_or-append (xs ++ row) (drop (at + 16) ys) 0 j (let q = length-append xs row in omega arith) ∙ get_or-append xs row 0 j (omega arith))))
  where
    before : length (written at row (xs ++ drop at ys)) ≡ length ys
    before = length-written at row (xs ++ drop at ys) ∙ length-append xs (drop at ys) ∙ (let q = length-drop at ys in omega arith)

    after : length ((xs ++ row) ++ drop (at + 16) ys) ≡ length ys
    after = length-append (xs ++ row) (drop (at + 16) ys) ∙ (let q = length-append xs row in let r = length-drop (at + 16) ys in omega arith)

-- the loop that writes rows behind one another: its start, a turn, and its end
module _ (f : ℕ → List ℕ) (ys : List ℕ) where
  pub rows_start : ys ≡ joined (tab 0 f) ++ drop (16 * 0) ys
  rows_start = sym (ap (◌++ ys) (joined-none f))

  pub rows_none : length (joined (tab 0 f)) ≡ 16 * 0
  rows_none = ap length (joined-none f)

  module _ (i : ℕ) (row : List ℕ) (q : row ≡ f i) (n : length row ≡ 16) (l : length (joined (tab i f)) ≡ 16 * i) where
    pub rows-turn : (buffer : List ℕ) → buffer ≡ joined (tab i f) ++ drop (16 * i) ys → 16 * (i + 1) ≤ length ys
        → written (16 * i) row buffer ≡ joined (tab (i + 1) f) ++ drop (16 * (i + 1)) ys
    rows-turn buffer e h =
        ap (written (16 * i) row) e
        ∙ written-seam (16 * i) row (joined (tab i f)) ys l n (omega arith)
        ∙ ap₂ (λ xs k. xs ++ drop k ys) (ap (joined (tab i f) ++◌) q ∙ sym (joined-more i f)) (let z : 16 * i + 16 ≡ 16 * (i + 1) = omega arith in z)

    pub rows_more : length (joined (tab (i + 1) f)) ≡ 16 * (i + 1)
    rows_more = ap length (joined-more i f ∙ ap (joined (tab i f) ++◌) (sym q)) ∙ length-append (joined (tab i f)) row ∙ omega arith

  pub rows_end : (i n : ℕ) (buffer : List ℕ) → buffer ≡ joined (tab i f) ++ drop (16 * i) ys → i ≡ n → buffer ≡ joined (tab n f) ++ drop (16 * n) ys
  rows_end i n buffer e q = rw q at e

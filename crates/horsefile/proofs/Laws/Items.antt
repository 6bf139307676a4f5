-- Laws on items of equal width, one behind the other: read as they were written, and written as they were read.
use Prim.Native.Nat.{ℕ, zero, suc, ◌+◌, ◌*◌, ◌≤◌, ◌<◌}
use mathlib.Core.Path.{◌≡◌, refl, sym, ◌∙◌, ap, ap₂}
use mathlib.Core.List.{List, [], ◌∷◌, ◌++◌, map, map-append, append_assoc, append-nil}
use native.Mathlib.Nat.{mul-suc}
use native.Mathlib.Omega.{arith}
use lib.ListN.{length, get_or, take, drop, length-append}
use lib.Seq.{take-add, drop-drop}
use Rattle.limits.specs.Lists.{tab, joined}
use Rattle.limits.proofs.Laws.Lists.{is-tab, joined-append}

module _ {A : Type 0} (read : List ℕ → ℕ → A) (write : A → List ℕ) (width : ℕ) where
  module _
      (behind : (front bytes : List ℕ) (n m : ℕ) → n ≡ length front + m → read (front ++ bytes) n ≡ read bytes m)
      (again : (x : A) (rest : List ℕ) → read (write x ++ rest) 0 ≡ x)
      (wide : (x : A) → length (write x) ≡ width) where
    item-at : (xs : List A) (tail : List ℕ) (i : ℕ) (d : A) → i < length xs
        → read (joined (map write xs) ++ tail) (width * i) ≡ get_or xs i d
    unfolding joined
    item-at [] tail i d h = absurd (omega arith)
    item-at (x ∷ xs) tail zero d h =
        ap₂ read (append_assoc (write x) (joined (map write xs)) tail) (omega arith) ∙ again x _
    item-at (x ∷ xs) tail (suc i) d h =
        ap₂ read (append_assoc (write x) (joined (map write xs)) tail) (mul-suc width i)
        ∙ behind (write x) (joined (map write xs) ++ tail) _ (width * i) (let w = wide x in omega arith)
        ∙ item-at xs tail i d (omega arith)

    pub items-read : (xs : List A) (front tail : List ℕ)
        → tab (length xs) (λ i. read (front ++ (joined (map write xs) ++ tail)) (length front + width * i)) ≡ xs
    items-read xs front tail =
        sym (is-tab xs (length xs) _ (read [] 0) refl (λ i h. sym (behind front _ _ (width * i) refl ∙ item-at xs tail i (read [] 0) h)))

  pub length-items : ((x : A) → length (write x) ≡ width) → (xs : List A) → length (joined (map write xs)) ≡ width * length xs
  unfolding joined
  length-items wide [] = omega arith
  length-items wide (x ∷ xs) =
      let w = wide x in
      let l = length-items wide xs in
      let m = mul-suc width (length xs) in
      let a = length-append (write x) (joined (map write xs)) in
      omega arith

  pub items-written : (s : List ℕ) (at : ℕ) (writes : (k : ℕ) → k + width ≤ length s → write (read s k) ≡ take width (drop k s)) (n : ℕ)
      → at + width * n ≤ length s → joined (map write (tab n (λ i. read s (at + width * i)))) ≡ take (width * n) (drop at s)
  unfolding tab joined
  items-written s at writes zero h = ap (λ k. take k (drop at s)) {x = 0} {y = width * 0} (omega arith)
  items-written s at writes (suc n) h =
      let m = mul-suc width n in
      ap joined (map-append write (tab n (λ i. read s (at + width * i))) (read s (at + width * n) ∷ []))
      ∙ joined-append (map write (tab n (λ i. read s (at + width * i)))) (write (read s (at + width * n)) ∷ [])
      ∙ ap₂ ◌++◌ (items-written s at writes n (omega arith)) (append-nil (write (read s (at + width * n))) ∙ writes (at + width * n) (omega arith))
      ∙ ap (λ l. take (width * n) (drop at s) ++ take width l) (sym (drop-drop (width * n) at s))
      ∙ sym (take-add (width * n) width (drop at s))
      ∙ ap (λ k. take k (drop at s)) (sym m)

-- A list over the places of w numbers in a row tells what stands at every place below w, and no more.
use Prim.Native.Nat.{ℕ, ◌+◌, ◌%◌, ◌<◌}
use mathlib.Core.Path.{◌≡◌, refl, sym, ◌∙◌, ap}
use native.Mathlib.Nat.{mod-lt, mod-add-mod}
use native.Mathlib.Omega.{arith}
use lib.ListN.{get_or}
use Rattle.limits.specs.Lists.{tab}
use Rattle.limits.specs.Ring.{distance, place}
use Rattle.limits.proofs.Laws.Lists.{get_or-tab, tab-ext}
use Rattle.limits.proofs.Laws.Ring.{distance-below, distance_is}

-- place p is that of number x + ahead w x p
abbrev pub ahead : ℕ → ℕ → ℕ → ℕ
ahead w x p = distance w (place w x) p

module _ (w x p : ℕ) (h : p < w) where
  pub ahead-below : ahead w x p < w
  ahead-below = distance-below w (x % w) p (mod-lt x (omega arith)) h

  pub ahead-is : place w (x + ahead w x p) ≡ p
  ahead-is = sym (mod-add-mod x w (ahead w x p)) ∙ distance_is w (x % w) p (mod-lt x (omega arith)) h

module _ {A : Type 0} (f g : ℕ → A) where
  -- equal lists have equal elements
  pub tab-at : (n m : ℕ) → n ≡ m → tab n f ≡ tab m g → (i : ℕ) → i < n → f i ≡ g i
  tab-at n m q e i h =
      sym (get_or-tab n f i (f 0) h) ∙ ap (λ xs. get_or xs i (f 0)) e ∙ get_or-tab m g i (f 0) (omega arith)

  pub tab-same : (n m : ℕ) → n ≡ m → ((i : ℕ) → i < n → f i ≡ g i) → tab n f ≡ tab m g
  tab-same n m q e = tab-ext n f g e ∙ ap (λ k. tab k g) q

-- the same of a list over places, from number x on
module _ {A : Type 0} (f g : ℕ → A) (w x y : ℕ) (q : x ≡ y) where
  pub places-at : tab w (λ i. f (place w (x + i))) ≡ tab w (λ i. g (place w (y + i))) → (p : ℕ) → p < w → f p ≡ g p
  places-at e p h =
      ap f (sym (ahead-is w x p h))
      ∙ tab-at (λ i. f (place w (x + i))) (λ i. g (place w (y + i))) w w refl e (ahead w x p) (ahead-below w x p h)
      ∙ ap (λ z. g (place w (z + ahead w x p))) (sym q)
      ∙ ap g (ahead-is w x p h)

  pub places_same : ((p : ℕ) → p < w → f p ≡ g p) → tab w (λ i. f (place w (x + i))) ≡ tab w (λ i. g (place w (y + i)))
  places_same e =
      tab-ext w _ _ (λ i h. e (place w (x + i)) (mod-lt (x + i) (omega arith)) ∙ ap (λ z. g (place w (z + i))) q)

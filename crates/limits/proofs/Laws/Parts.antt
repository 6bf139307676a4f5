-- Laws on what is left of a list from an index on, on one more element among others, and on the elements' images.
use Prim.Native.Nat.{ℕ, ◌+◌, ◌≤◌, ◌<◌}
use mathlib.Core.Path.{◌≡◌, refl, sym, ◌∙◌, ap, ap₂}
use mathlib.Core.Bool.{Bool, true, false}
use mathlib.Core.List.{List, [], ◌∷◌, ◌++◌, map}
use native.Mathlib.Omega.{arith}
use lib.ListN.{drop}
use Rattle.std.proofs.lemmas.List.{drop_more, drop_all}
use Rattle.limits.specs.Questions.{pick}
use Rattle.limits.specs.Lists.{tab, all, how_many}
use Rattle.limits.proofs.Laws.Choice.{pick_yes, pick_no, pick-cases, and_left, and_right, and-no-left, and-goes-on}
use Rattle.limits.proofs.Laws.Lists.{length-tab, get_or-tab}

-- a loop over f 0 to f (n - 1) that leaves at the first element that does not pass: x is the next one, and what is left follows it
module _ {A : Type 0} (n : ℕ) (f : ℕ → A) (i : ℕ) where
  pub rest-none : n ≤ i → drop i (tab n f) ≡ []
  rest-none h = let l = length-tab n f in drop_all i (tab n f) (omega arith)

  pub all-end : (p : A → Bool) → n ≤ i → true ≡ all p (drop i (tab n f))
  unfolding all
  all-end p h = ap (all p) (sym (rest-none h))

  module _ (x : A) (e : x ≡ f i) (h : i < n) where
    pub rest-next : drop i (tab n f) ≡ x ∷ drop (i + 1) (tab n f)
    rest-next =
        let l = length-tab n f in
        drop_more (tab n f) i (f 0) (omega arith) ∙ ap (λ y. y ∷ drop (i + 1) (tab n f)) (get_or-tab n f i (f 0) h ∙ sym e)

    module _ (p : A → Bool) where
      pub all-turn : p x ≡ true → all p (drop i (tab n f)) ≡ all p (drop (i + 1) (tab n f))
      unfolding all
      all-turn q = ap (all p) rest-next ∙ sym (and-goes-on (p x) _ q)

      pub all-stop : p x ≡ false → false ≡ all p (drop i (tab n f))
      unfolding all
      all-stop q = sym (ap (all p) rest-next ∙ and-no-left (p x) _ q)

-- one more among others
module _ {A : Type 0} (p : A → Bool) where
  pub how_many-there : (xs ys : List A) (x : A) → p x ≡ true → 1 ≤ how_many p (xs ++ (x ∷ ys))
  unfolding how_many
  how_many-there [] ys x e = let n = pick_yes (p x) (how_many p ys + 1) (how_many p ys) _ e refl in omega arith
  how_many-there (y ∷ xs) ys x e =
      let h = how_many-there xs ys x e in
      pick-cases (λ n. 1 ≤ n) (p y) (how_many p (xs ++ (x ∷ ys)) + 1) (how_many p (xs ++ (x ∷ ys))) (λ q. omega arith) (λ q. h)

  pub how_many-other : (xs ys : List A) (x : A) → p x ≡ false → how_many p (xs ++ (x ∷ ys)) ≡ how_many p (xs ++ ys)
  unfolding how_many
  how_many-other [] ys x e = pick_no (p x) (how_many p ys + 1) (how_many p ys) _ e refl
  how_many-other (y ∷ xs) ys x e = ap (λ n. pick (p y) (n + 1) n) (how_many-other xs ys x e)

  pub all-there : (xs ys : List A) (x : A) → all p (xs ++ (x ∷ ys)) ≡ true → p x ≡ true
  unfolding all
  all-there [] ys x e = and_left (p x) _ e
  all-there (y ∷ xs) ys x e = all-there xs ys x (and_right (p y) _ e)

-- a test of the elements' images
module _ {A B : Type 0} (p : B → Bool) (f : A → B) where
  pub how_many-map : (xs : List A) → how_many p (map f xs) ≡ how_many (λ x. p (f x)) xs
  unfolding how_many
  how_many-map [] = refl
  how_many-map (x ∷ xs) = ap₂ (λ more same. pick (p (f x)) more same) (ap (◌+ 1) (how_many-map xs)) (how_many-map xs)

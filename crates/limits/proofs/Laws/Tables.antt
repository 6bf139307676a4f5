-- Laws on tables of messages whose elements are given by index.
use Prim.Native.Nat.{ℕ, zero, suc, ◌+◌, ◌-◌, ◌≤◌, ◌<◌}
use mathlib.Core.Path.{◌≡◌, refl, sym, ◌∙◌, ap, ap₂}
use mathlib.Core.List.{List, [], ◌∷◌, ◌++◌, append-nil}
use native.Mathlib.Numerals.{add-one}
use native.Mathlib.Omega.{arith}
use lib.Dec.{leb}
use borrow.Author.Tests.{le-leb, lt-leb}
use lib.ListN.{length}
use Rattle.limits.specs.Lists.{tab}
use Rattle.limits.specs.Tables.{Message, put, remove, age, aged}
use Rattle.limits.proofs.Laws.Choice.{split, test, pick_yes, pick_no}
use Rattle.limits.proofs.Laws.Lists.{length-tab, tab-more, tab-ext}

module _ {A : Type 0} where
  -- removing the last element of a list, or one before it
  remove-last : (xs : List A) (x : A) → remove (length xs) (xs ++ (x ∷ [])) ≡ xs
  unfolding remove
  remove-last [] x = refl
  remove-last (y ∷ xs) x = ap (y ∷◌) (remove-last xs x)

  remove-before : (p : ℕ) (xs : List A) (x : A) → p < length xs → remove p (xs ++ (x ∷ [])) ≡ remove p xs ++ (x ∷ [])
  unfolding remove
  remove-before p [] x h = absurd (omega arith)
  remove-before zero (y ∷ xs) x h = refl
  remove-before (suc p) (y ∷ xs) x h = ap (y ∷◌) (remove-before p xs x (omega arith))

  remove-at-end : (n : ℕ) (f g : ℕ → A) → ((i : ℕ) → i < n → g i ≡ f i) → remove n (tab n f ++ (f n ∷ [])) ≡ tab n g
  unfolding remove tab
  remove-at-end n f g low =
      ap (λ k. remove k (tab n f ++ (f n ∷ []))) (sym (length-tab n f)) ∙ remove-last (tab n f) (f n) ∙ tab-ext n f g (λ i h. sym (low i h))

  remove-suc : (n p : ℕ) (f g : ℕ → A) → p ≤ n → ((i : ℕ) → i < p → g i ≡ f i) → ((i : ℕ) → p ≤ i → i < n → g i ≡ f (suc i))
      → remove p (tab (suc n) f) ≡ tab n g
  unfolding remove tab
  remove-suc zero p f g h low high =
      ap (λ k. remove k (tab 1 f)) {x = p} {y = 0} (omega arith) ∙ remove-at-end 0 f g (λ i k. absurd (omega arith))
  remove-suc (suc n) p f g h low high =
      split (suc n) p
      (λ k. ap (λ j. remove j (tab (suc (suc n)) f)) {x = p} {y = suc n} (omega arith) ∙ remove-at-end (suc n) f g (λ i j. low i (omega arith)))
      (λ k. remove-before p (tab (suc n) f) (f (suc n)) (let l = length-tab (suc n) f in omega arith)
      ∙ ap₂ (λ xs x. xs ++ (x ∷ [])) (remove-suc n p f g (omega arith) low (λ i a b. high i a (omega arith))) (sym (high n (omega arith) (omega arith))))

  -- element p left and those behind it moved up by one
  pub remove-tab : (n p : ℕ) (f g : ℕ → A) → p ≤ n → ((i : ℕ) → i < p → g i ≡ f i) → ((i : ℕ) → p ≤ i → i < n → g i ≡ f (i + 1))
      → remove p (tab (n + 1) f) ≡ tab n g
  unfolding tab
  remove-tab n p f g h low high = rw add-one (remove-suc n p f g h low (λ i a b. high i a b ∙ ap f (add-one i)))

  -- one element more
  pub put-tab : (n : ℕ) (f g : ℕ → A) (m : A) → ((i : ℕ) → i < n → g i ≡ f i) → g n ≡ m → tab (n + 1) g ≡ put m (tab n f)
  put-tab n f g m low last = tab-more n g ∙ ap₂ (λ xs x. xs ++ (x ∷ [])) (tab-ext n g f low) last

module _ {B : Type 0} (d : ℕ) where
  pub age-append : (xs ys : List (Message B)) → age d (xs ++ ys) ≡ age d xs ++ age d ys
  unfolding age
  age-append [] ys = refl
  age-append (x ∷ xs) ys =
      test (leb x.life d)
      (λ e. pick_yes _ _ _ _ e (age-append xs ys) ∙ ap (◌++ age d ys) (sym (pick_yes _ _ _ _ e refl)))
      (λ e. pick_no _ _ _ _ e (ap (record { body = x.body; life = x.life - d } ∷◌) (age-append xs ys)) ∙ ap (◌++ age d ys) (sym (pick_no _ _ _ _ e refl)))

  age-more : (i : ℕ) (f : ℕ → Message B) → age d (tab (i + 1) f) ≡ age d (tab i f) ++ age d (f i ∷ [])
  unfolding age
  age-more i f = ap (age d) (tab-more i f) ∙ age-append (tab i f) (f i ∷ [])

  -- a turn of the loop that drops message i
  pub age-drops : (k i : ℕ) (f g : ℕ → Message B) → tab k g ≡ age d (tab i f) → (f i).life ≤ d → tab k g ≡ age d (tab (i + 1) f)
  unfolding age tab
  age-drops k i f g e h =
      e ∙ sym (append-nil (age d (tab i f))) ∙ ap (age d (tab i f) ++◌) (sym (pick_yes _ _ _ _ (le-leb (f i).life d h) refl)) ∙ sym (age-more i f)

  -- a turn that moves it to place k, with what is left of its life
  pub age-moves : (k i : ℕ) (f g g' : ℕ → Message B) → tab k g ≡ age d (tab i f) → d < (f i).life → ((j : ℕ) → j < k → g' j ≡ g j)
      → g' k ≡ record { body = (f i).body; life = (f i).life - d } → tab (k + 1) g' ≡ age d (tab (i + 1) f)
  unfolding age
  age-moves k i f g g' e h low last =
      tab-more k g'
      ∙ ap₂ (λ xs x. xs ++ (x ∷ [])) (tab-ext k g' g low ∙ e) last
      ∙ ap (age d (tab i f) ++◌) (sym (pick_no _ _ _ _ (lt-leb (f i).life d h) refl))
      ∙ sym (age-more i f)

  -- the n messages from i on move to place k as they are, each with what is left of its life
  pub age-run : (n k i : ℕ) (f g g' : ℕ → Message B) → tab k g ≡ age d (tab i f) → ((j : ℕ) → j < n → d < (f (i + j)).life)
      → ((j : ℕ) → j < k → g' j ≡ g j) → ((j : ℕ) → j < n → g' (k + j) ≡ aged d (f (i + j))) → tab (k + n) g' ≡ age d (tab (i + n) f)
  age-run zero k i f g g' e h low run =
      ap (λ m. tab m g') {x = k + 0} {y = k} (omega arith) ∙ tab-ext k g' g low ∙ e ∙ ap (λ m. age d (tab m f)) {x = i} {y = i + 0} (omega arith)
  age-run (suc n) k i f g g' e h low run =
      ap (λ m. tab m g') {x = k + suc n} {y = k + n + 1} (omega arith)
      ∙ age-moves (k + n) (i + n) f g' g'
      (age-run n k i f g g' e (λ j b. h j (omega arith)) low (λ j b. run j (omega arith)))
      (h n (omega arith))
      (λ j b. refl)
      (run n (omega arith))
      ∙ ap (λ m. age d (tab m f)) {x = i + n + 1} {y = i + suc n} (omega arith)

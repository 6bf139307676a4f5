-- Laws on lists given by index (`tab`) and on tests of every element (`all`).
use Prim.Native.Nat.{ℕ, zero, suc, ◌+◌, ◌-◌, ◌≤◌, ◌<◌}
use mathlib.Core.Path.{◌≡◌, refl, sym, ◌∙◌, ap, ap₂}
use mathlib.Core.Bool.{Bool, true, false, ◌&&◌, and_assoc, and-true}
use mathlib.Core.List.{List, [], ◌∷◌, ◌++◌, map, map-append, append_assoc}
use native.Mathlib.Numerals.{add-one}
use native.Mathlib.Omega.{arith}
use lib.Dec.{eqb, ltb}
use borrow.Author.Tests.{eqb-true, eqb-false, lt-ltb, le-ltb}
use lib.ListN.{length, take, drop, get_or, set, replicate, length-append, length-take, length-drop, length-set, length-replicate, take-append-drop, get_or-append, get_or-replicate}
use lib.Seq.{get_or_at, get_or-append-add, ext_get_or, get_or-drop, get_or-take, get_or-set_same, get_or-set_other}
use Rattle.limits.specs.Lists.{tab, all, leading, how_many, joined}
use Rattle.limits.specs.Questions.{pick}
use Rattle.limits.proofs.Laws.Choice.{and_left, and_right, and-swap, both, split, test, pick_yes, pick_no, pick-cases}

module _ {A : Type 0} where
  pub length-tab : (n : ℕ) (f : ℕ → A) → length (tab n f) ≡ n
  unfolding tab
  length-tab zero f = refl
  length-tab (suc n) f = length-append (tab n f) (f n ∷ []) ∙ (let e = length-tab n f in omega arith)

  pub tab-more : (n : ℕ) (f : ℕ → A) → tab (n + 1) f ≡ tab n f ++ (f n ∷ [])
  unfolding tab
  tab-more n f = rw add-one

  pub get_or-tab : (n : ℕ) (f : ℕ → A) (i : ℕ) (d : A) → i < n → get_or (tab n f) i d ≡ f i
  unfolding tab
  get_or-tab zero f i d h = absurd (omega arith)
  get_or-tab (suc n) f i d h =
      go (get_or-tab n f i d) (length-tab n f)
    where
      go : (i < n → get_or (tab n f) i d ≡ f i) → length (tab n f) ≡ n → get_or (tab n f ++ (f n ∷ [])) i d ≡ f i
      go ih len =
          split n i
          (λ k. ap (λ j. get_or (tab n f ++ (f n ∷ [])) j d) {x = i} {y = n} (omega arith) ∙ get_or_at (tab n f) (f n) [] d n len ∙ ap f {x = n} {y = i} (omega arith))
          (λ k. get_or-append (tab n f) (f n ∷ []) d i (omega arith) ∙ ih k)

  pub tab-ext : (n : ℕ) (f g : ℕ → A) → ((i : ℕ) → i < n → f i ≡ g i) → tab n f ≡ tab n g
  unfolding tab
  tab-ext zero f g h = refl
  tab-ext (suc n) f g h = ap₂ (λ xs x. xs ++ (x ∷ [])) (tab-ext n f g (λ i k. h i (omega arith))) (h n (omega arith))

  -- a list is given by its elements
  pub is-tab : (xs : List A) (n : ℕ) (f : ℕ → A) (d : A) → length xs ≡ n → ((i : ℕ) → i < n → get_or xs i d ≡ f i) → xs ≡ tab n f
  is-tab xs n f d len h =
      ext_get_or d xs (tab n f) (len ∙ sym (length-tab n f)) (λ i k. h i (omega arith) ∙ sym (get_or-tab n f i d (omega arith)))

  pub replicate-tab : (n : ℕ) (x : A) → replicate n x ≡ tab n (λ i. x)
  replicate-tab n x = is-tab (replicate n x) n (λ i. x) x (length-replicate n x) (λ i h. get_or-replicate n i x x h)

  pub drop-tab : (k n : ℕ) (f : ℕ → A) → drop k (tab n f) ≡ tab (n - k) (λ i. f (k + i))
  drop-tab k n f =
      is-tab (drop k (tab n f)) (n - k) (λ i. f (k + i)) (f 0) (length-drop k (tab n f) ∙ ap (◌- k) (length-tab n f))
      (λ i h. get_or-drop k (tab n f) i (f 0) ∙ get_or-tab n f (k + i) (f 0) (omega arith))

  pub take-tab : (k n : ℕ) (f : ℕ → A) → k ≤ n → take k (tab n f) ≡ tab k f
  take-tab k n f h =
      is-tab (take k (tab n f)) k f (f 0) (length-take k (tab n f) ∙ (let e = length-tab n f in omega arith))
      (λ i j. get_or-take k (tab n f) i (f 0) j ∙ get_or-tab n f i (f 0) (omega arith))

  pub split-tab : (k n : ℕ) (f : ℕ → A) → k ≤ n → tab n f ≡ tab k f ++ tab (n - k) (λ i. f (k + i))
  split-tab k n f h = sym (take-append-drop k (tab n f)) ∙ ap₂ ◌++◌ (take-tab k n f h) (drop-tab k n f)

  pub append-tab : (n m : ℕ) (f g : ℕ → A) → tab n f ++ tab m g ≡ tab (n + m) (λ i. pick (ltb i n) (f i) (g (i - n)))
  append-tab n m f g =
      is-tab (tab n f ++ tab m g) (n + m) (λ i. pick (ltb i n) (f i) (g (i - n))) (f 0)
      (length-append (tab n f) (tab m g) ∙ ap₂ ◌+◌ (length-tab n f) (length-tab m g))
      (λ i h. split n i
      (λ k. ap (λ j. get_or (tab n f ++ tab m g) j (f 0)) {x = i} {y = length (tab n f) + (i - n)} (let l = length-tab n f in omega arith)
      ∙ get_or-append-add (tab n f) (tab m g) (i - n) (f 0)
      ∙ get_or-tab m g (i - n) (f 0) (omega arith)
      ∙ sym (pick_no (ltb i n) (f i) (g (i - n)) _ (le-ltb i n k) refl))
      (λ k. get_or-append (tab n f) (tab m g) (f 0) i (let l = length-tab n f in omega arith)
      ∙ get_or-tab n f i (f 0) k
      ∙ sym (pick_yes (ltb i n) (f i) (g (i - n)) _ (lt-ltb i n k) refl)))

  pub set-tab : (n : ℕ) (f : ℕ → A) (k : ℕ) (x : A) → set (tab n f) k x ≡ tab n (λ i. pick (eqb i k) x (f i))
  set-tab n f k x =
      is-tab (set (tab n f) k x) n (λ i. pick (eqb i k) x (f i)) (f 0) (length-set (tab n f) k x ∙ length-tab n f)
      (λ i h. test (eqb i k)
      (λ e. ap (λ j. get_or (set (tab n f) k x) j (f 0)) (eqb-true i k e)
      ∙ get_or-set_same (tab n f) k x (f 0) (let l = length-tab n f in let q = eqb-true i k e in omega arith)
      ∙ sym (pick_yes (eqb i k) x (f i) x e refl))
      (λ e. get_or-set_other (tab n f) k i x (f 0) (eqb-false i k e) ∙ get_or-tab n f i (f 0) h ∙ sym (pick_no (eqb i k) x (f i) (f i) e refl)))

  module _ (p : A → Bool) where
    pub all_append : (xs ys : List A) → all p (xs ++ ys) ≡ (all p xs && all p ys)
    unfolding all
    all_append [] ys = refl
    all_append (x ∷ xs) ys = ap (p x &&◌) (all_append xs ys) ∙ sym (and_assoc (p x) (all p xs) (all p ys))

    -- a turn of a loop that tests every element
    pub all-next : (n : ℕ) (f : ℕ → A) → all p (tab (n + 1) f) ≡ (all p (tab n f) && p (f n))
    unfolding all
    all-next n f = ap (all p) (tab-more n f) ∙ all_append (tab n f) (f n ∷ []) ∙ ap (all p (tab n f) &&◌) (and-true (p (f n)))

    pub all_more : (n : ℕ) (f : ℕ → A) → all p (tab n f) ≡ true → p (f n) ≡ true → all p (tab (n + 1) f) ≡ true
    all_more n f e h = all-next n f ∙ both (all p (tab n f)) (p (f n)) e h

    pub all-tab : (n : ℕ) (f : ℕ → A) → ((i : ℕ) → i < n → p (f i) ≡ true) → all p (tab n f) ≡ true
    unfolding tab all
    all-tab zero f h = refl
    all-tab (suc n) f h = rw add-one at (all_more n f (all-tab n f (λ i k. h i (omega arith))) (h n (omega arith)))

    pub all-tab-at : (n : ℕ) (f : ℕ → A) → all p (tab n f) ≡ true → (i : ℕ) → i < n → p (f i) ≡ true
    unfolding tab all
    all-tab-at zero f e i h = absurd (omega arith)
    all-tab-at (suc n) f e i h =
        split n i
        (λ k. ap (λ j. p (f j)) {x = i} {y = n} (omega arith) ∙ and_left (p (f n)) true (and_right (all p (tab n f)) _ joined))
        (λ k. all-tab-at n f (and_left (all p (tab n f)) (p (f n) && true) joined) i k)
      where
        joined : (all p (tab n f) && (p (f n) && true)) ≡ true
        joined = sym (all_append (tab n f) (f n ∷ [])) ∙ e

-- what passes counts 1
one-more : (b : Bool) (n : ℕ) → pick b (n + 1) n ≡ pick b 1 0 + n
one-more b n =
    test b
    (λ e. pick_yes b (n + 1) n (1 + n) e (omega arith) ∙ ap (◌+ n) (sym (pick_yes b 1 0 1 e refl)))
    (λ e. pick_no b (n + 1) n (0 + n) e (omega arith) ∙ ap (◌+ n) (sym (pick_no b 1 0 0 e refl)))

module _ {A : Type 0} (p : A → Bool) where
  how_many-behind : (xs : List A) (x : A) → how_many p (xs ++ (x ∷ [])) ≡ how_many p xs + pick (p x) 1 0
  unfolding how_many
  how_many-behind [] x = one-more (p x) 0 ∙ omega arith
  how_many-behind (y ∷ ys) x =
      one-more (p y) (how_many p (ys ++ (x ∷ [])))
      ∙ ap (pick (p y) 1 0 +◌) (how_many-behind ys x)
      ∙ (let e = one-more (p y) (how_many p ys) in omega arith)

  -- a turn of a loop that counts
  pub how_many-next : (n : ℕ) (f : ℕ → A) → how_many p (tab (n + 1) f) ≡ how_many p (tab n f) + pick (p (f n)) 1 0
  how_many-next n f = ap (how_many p) (tab-more n f) ∙ how_many-behind (tab n f) (f n)

  pub how_many-most : (xs : List A) → how_many p xs ≤ length xs
  unfolding how_many
  how_many-most [] = omega arith
  how_many-most (x ∷ xs) =
      let h = how_many-most xs in
      pick-cases (λ n. n ≤ length (x ∷ xs)) (p x) (how_many p xs + 1) (how_many p xs) (λ e. omega arith) (λ e. omega arith)

pub all_map : {A B : Type 0} (p : B → Bool) (f : A → B) (xs : List A) → all p (map f xs) ≡ all (λ x. p (f x)) xs
unfolding all
all_map p f [] = refl
all_map p f (x ∷ xs) = ap (p (f x) &&◌) (all_map p f xs)

pub map-tab : {A B : Type 0} (g : A → B) (n : ℕ) (f : ℕ → A) → map g (tab n f) ≡ tab n (λ i. g (f i))
unfolding tab
map-tab g zero f = refl
map-tab g (suc n) f = map-append g (tab n f) (f n ∷ []) ∙ ap (◌++ (g (f n) ∷ [])) (map-tab g n f)

-- a loop over the indexes below n that tests each: where it starts
module _ {A : Type 0} (p : A → Bool) (f : ℕ → A) where
  pub all_start : all p (tab 0 f) ≡ true
  unfolding tab all
  all_start = refl

  -- the same of a loop that gathers its tests in a flag: where it starts, a turn, and where it ends
  pub flag-start : true ≡ all p (tab 0 f)
  flag-start = sym all_start

  pub flag-turn : (i : ℕ) (flag next : Bool) → flag ≡ all p (tab i f) → next ≡ (flag && p (f i)) → next ≡ all p (tab (i + 1) f)
  flag-turn i flag next e q = q ∙ ap (◌&& p (f i)) e ∙ sym (all-next p i f)

  pub flag-end : (n i : ℕ) (flag : Bool) → flag ≡ all p (tab i f) → i ≡ n → flag ≡ all p (tab n f)
  flag-end n i flag e q = rw q at e

-- two tests of every element, gathered apart
module _ {A B C : Type 0} (p : A → Bool) (q : B → Bool) (r : C → Bool) (f : ℕ → A) (g : ℕ → B) (h : ℕ → C) where
  pub all_both : (n : ℕ) → ((i : ℕ) → i < n → (p (f i) && q (g i)) ≡ r (h i)) → (all p (tab n f) && all q (tab n g)) ≡ all r (tab n h)
  unfolding tab all
  all_both zero e = refl
  all_both (suc n) e =
      rw add-one at
      (ap₂ ◌&&◌ (all-next p n f) (all-next q n g)
      ∙ and-swap (all p (tab n f)) (p (f n)) (all q (tab n g)) (q (g n))
      ∙ ap₂ ◌&&◌ (all_both n (λ i k. e i (omega arith))) (e n (omega arith))
      ∙ sym (all-next r n h))

-- a list by its own elements
pub tab-self : {A : Type 0} (xs : List A) (n : ℕ) (d : A) → length xs ≡ n → tab n (λ i. get_or xs i d) ≡ xs
tab-self xs n d l = sym (is-tab xs n (λ i. get_or xs i d) d l (λ i h. refl))

-- a list read by g, element by element
pub all_read : {A B : Type 0} (g : A → B) (d : A) (xs : List A) (n : ℕ) → length xs ≡ n → tab n (λ k. g (get_or xs k d)) ≡ map g xs
all_read g d xs n l = sym (map-tab g n (λ k. get_or xs k d)) ∙ ap (map g) (tab-self xs n d l)

module _ {A : Type 0} (p : A → Bool) where
  leading-is-list : (xs : List A) (k : ℕ) (d : A) → k ≤ length xs → ((i : ℕ) → i < k → p (get_or xs i d) ≡ true) → (k < length xs → p (get_or xs k d) ≡ false)
      → leading p xs ≡ k
  unfolding leading
  leading-is-list [] k d h yes-part no_part = omega arith
  leading-is-list (x ∷ xs) zero d h yes-part no_part = pick_no _ _ _ _ (no_part (omega arith)) refl
  leading-is-list (x ∷ xs) (suc k) d h yes-part no_part =
      pick_yes _ _ _ _ (yes-part 0 (omega arith))
      (let e = leading-is-list xs k d (omega arith) (λ i j. yes-part (suc i) (omega arith)) (λ j. no_part (omega arith)) in omega arith)

  -- the first k pass and element k, if there is one, does not
  pub leading-is : (n : ℕ) (f : ℕ → A) (k : ℕ) → k ≤ n → ((i : ℕ) → i < k → p (f i) ≡ true) → (k < n → p (f k) ≡ false) → leading p (tab n f) ≡ k
  leading-is n f k h front next =
      leading-is-list (tab n f) k (f 0) (let l = length-tab n f in omega arith)
      (λ i j. ap p (get_or-tab n f i (f 0) (omega arith)) ∙ front i j)
      (λ j. let o : k < n = (let l = length-tab n f in omega arith) in ap p (get_or-tab n f k (f 0) o) ∙ next o)

  leading-cons : (x : A) (xs : List A) (i : ℕ) → i < leading p (x ∷ xs) → (p x ≡ true) × (i < leading p xs + 1)
  unfolding leading
  leading-cons x xs i h =
      test (p x)
      (λ e. (e, rw (pick_yes (p x) (leading p xs + 1) 0 (leading p xs + 1) e refl) at h))
      (λ e. let z = pick_no (p x) (leading p xs + 1) 0 0 e refl in absurd (omega arith))

  leading-list-at : (xs : List A) (d : A) (i : ℕ) → i < leading p xs → p (get_or xs i d) ≡ true
  unfolding leading
  leading-list-at [] d i h = absurd (omega arith)
  leading-list-at (x ∷ xs) d zero h = (leading-cons x xs zero h).0
  leading-list-at (x ∷ xs) d (suc i) h = leading-list-at xs d i (let q = leading-cons x xs (suc i) h in omega arith)

  pub leading-most : (xs : List A) → leading p xs ≤ length xs
  unfolding leading
  leading-most [] = omega arith
  leading-most (x ∷ xs) = pick-cases (λ n. n ≤ suc (length xs)) (p x) _ _ (λ _. let h = leading-most xs in omega arith) (λ _. omega arith)

  leading-list-end : (xs : List A) (d : A) → leading p xs < length xs → p (get_or xs (leading p xs) d) ≡ false
  unfolding leading
  leading-list-end [] d h = absurd (omega arith)
  leading-list-end (x ∷ xs) d h =
      go (leading-list-end xs d)
    where
      go : (leading p xs < length xs → p (get_or xs (leading p xs) d) ≡ false) → p (get_or (x ∷ xs) (leading p (x ∷ xs)) d) ≡ false
      go ih =
          test (p x)
          (λ e. let q = pick_yes (p x) (leading p xs + 1) 0 (suc (leading p xs)) e (add-one (leading p xs)) in
          ap (λ n. p (get_or (x ∷ xs) n d)) q ∙ ih (omega arith))
          (λ e. ap (λ n. p (get_or (x ∷ xs) n d)) (pick_no (p x) (leading p xs + 1) 0 0 e refl) ∙ e)

  pub leading_end : (n : ℕ) (f : ℕ → A) → leading p (tab n f) < n → p (f (leading p (tab n f))) ≡ false
  leading_end n f h =
      ap p (sym (get_or-tab n f (leading p (tab n f)) (f 0) h)) ∙ leading-list-end (tab n f) (f 0) (let l = length-tab n f in omega arith)

  -- what is known of the front
  pub leading_at : (n : ℕ) (f : ℕ → A) (i : ℕ) → i < leading p (tab n f) → p (f i) ≡ true
  leading_at n f i h =
      let m = leading-most (tab n f) in let l = length-tab n f in
      ap p (sym (get_or-tab n f i (f 0) (omega arith))) ∙ leading-list-at (tab n f) (f 0) i h

-- two lists whose elements pass alike
pub leading-agree : {A B : Type 0} (p : A → Bool) (q : B → Bool) (n : ℕ) (f : ℕ → A) (g : ℕ → B) → ((i : ℕ) → i < n → p (f i) ≡ q (g i))
    → leading p (tab n f) ≡ leading q (tab n g)
leading-agree p q n f g same =
    let most = leading-most q (tab n g) in let l = length-tab n g in
    leading-is p n f (leading q (tab n g)) (omega arith)
    (λ i h. same i (omega arith) ∙ leading_at q n g i h)
    (λ h. same (leading q (tab n g)) h ∙ leading_end q n g h)

pub all-at : {A : Type 0} (p : A → Bool) (xs : List A) (i : ℕ) (d : A) → i < length xs → all p xs ≡ true → p (get_or xs i d) ≡ true
all-at p xs i d h e = all-tab-at p (length xs) (λ j. get_or xs j d) (ap (all p) (tab-self xs (length xs) d refl) ∙ e) i h

-- lists one behind the other
module _ {A : Type 0} where
  pub joined-append : (xs ys : List (List A)) → joined (xs ++ ys) ≡ joined xs ++ joined ys
  unfolding joined
  joined-append [] ys = refl
  joined-append (x ∷ xs) ys = ap (x ++◌) (joined-append xs ys) ∙ sym (append_assoc x (joined xs) (joined ys))

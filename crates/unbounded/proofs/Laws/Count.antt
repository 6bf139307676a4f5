-- Laws on tables of messages: a property of every message, and how many messages pass a test.
use Prim.Native.Nat.{ℕ, zero, suc, ◌+◌, ◌-◌, ◌≤◌, ◌<◌}
use mathlib.Core.Path.{◌≡◌, refl, ap}
use mathlib.Core.Bool.{Bool, true, false}
use mathlib.Core.List.{List, [], ◌∷◌}
use native.Mathlib.Omega.{arith}
use lib.Dec.{leb}
use borrow.Author.Tests.{leb-false}
use lib.ListN.{length, get_or}
use Rattle.limits.specs.Questions.{pick}
use Rattle.limits.specs.Tables.{Message, put, remove, age}
use Rattle.limits.proofs.Laws.Choice.{pick_yes, pick_no, pick-cases, split}

-- every element has the property
unfoldable pub All : {A : Type 0} → (A → Type 0) → List A → Type 0
All P [] = Unit {0}
All P (x ∷ xs) = P x × All P xs

module _ {A : Type 0} (P : A → Type 0) where
  pub all_none : All P []
  unfolding All
  all_none = tt

  pub all-put : (x : A) (xs : List A) → All P xs → P x → All P (put x xs)
  unfolding All
  all-put x [] a h = (h, tt)
  all-put x (y ∷ xs) a h = (a.0, all-put x xs a.1 h)

  pub all_remove : (p : ℕ) (xs : List A) → All P xs → All P (remove p xs)
  unfolding All remove
  all_remove p [] a = a
  all_remove zero (x ∷ xs) a = a.1
  all_remove (suc p) (x ∷ xs) a = (a.0, all_remove p xs a.1)

  pub all-at : (p : ℕ) (xs : List A) (d : A) → All P xs → p < length xs → P (get_or xs p d)
  unfolding All
  all-at p [] d a h = absurd (omega arith)
  all-at zero (x ∷ xs) d a h = a.0
  all-at (suc p) (x ∷ xs) d a h = all-at p xs d a.1 (omega arith)

  pub all-imp : (Q : A → Type 0) (xs : List A) → ((x : A) → P x → Q x) → All P xs → All Q xs
  unfolding All
  all-imp Q [] f a = a
  all-imp Q (x ∷ xs) f a = (f x a.0, all-imp Q xs f a.1)

pub all-age : {B : Type 0} (P Q : Message B → Type 0) (d : ℕ) (xs : List (Message B))
    → ((x : Message B) → d < x.life → P x → Q (record { body = x.body; life = x.life - d })) → All P xs → All Q (age d xs)
unfolding All age
all-age P Q d [] f a = a
all-age P Q d (x ∷ xs) f a =
    pick-cases (All Q) (leb x.life d) _ _
    (λ e. all-age P Q d xs f a.1)
    (λ e. (f x (leb-false x.life d e) a.0, all-age P Q d xs f a.1))

-- 1 for a test that is passed
unfoldable pub one : Bool → ℕ
one b = pick b 1 0

pub one-yes : (b : Bool) → b ≡ true → one b ≡ 1
unfolding one
one-yes b e = pick_yes b 1 0 1 e refl

pub one-no : (b : Bool) → b ≡ false → one b ≡ 0
unfolding one
one-no b e = pick_no b 1 0 0 e refl

-- how many messages pass a test of their body
unfoldable pub count : {B : Type 0} → (B → Bool) → List (Message B) → ℕ
count q [] = 0
count q (x ∷ xs) = one (q x.body) + count q xs

module _ {B : Type 0} (q : B → Bool) where
  pub count_none : count q [] ≡ 0
  unfolding count
  count_none = refl

  pub count-put : (x : Message B) (xs : List (Message B)) → count q (put x xs) ≡ count q xs + one (q x.body)
  unfolding count
  count-put x [] = omega arith
  count-put x (y ∷ xs) = let h = count-put x xs in omega arith

  pub count-remove : (p : ℕ) (xs : List (Message B)) (d : Message B) → p < length xs
      → count q (remove p xs) + one (q (get_or xs p d).body) ≡ count q xs
  unfolding count remove
  count-remove p [] d h = absurd (omega arith)
  count-remove zero (x ∷ xs) d h = omega arith
  count-remove (suc p) (x ∷ xs) d h = let r = count-remove p xs d (omega arith) in omega arith

  pub count-age : (d : ℕ) (xs : List (Message B)) → count q (age d xs) ≤ count q xs
  unfolding count age
  count-age d [] = omega arith
  count-age d (x ∷ xs) =
      let h = count-age d xs in
      pick-cases (λ ys. count q ys ≤ one (q x.body) + count q xs) (leb x.life d) _ _ (λ e. omega arith) (λ e. omega arith)

  pub count_no : (P : Message B → Type 0) (xs : List (Message B)) → All P xs → ((x : Message B) → P x → q x.body ≡ false) → count q xs ≡ 0
  unfolding count All
  count_no P [] a f = refl
  count_no P (x ∷ xs) a f = let h = count_no P xs a.1 f in let z = one-no (q x.body) (f x a.0) in omega arith

-- f 0 + .. + f (n - 1)
unfoldable pub sum : ℕ → (ℕ → ℕ) → ℕ
sum zero f = 0
sum (suc n) f = sum n f + f n

pub sum-add : (n : ℕ) (f g : ℕ → ℕ) → sum n (λ j. f j + g j) ≡ sum n f + sum n g
unfolding sum
sum-add zero f g = refl
sum-add (suc n) f g = let h = sum-add n f g in omega arith

pub sum-most : (n : ℕ) (f : ℕ → ℕ) → ((j : ℕ) → j < n → f j ≤ 1) → sum n f ≤ n
unfolding sum
sum-most zero f h = omega arith
sum-most (suc n) f h = let a = sum-most n f (λ j k. h j (omega arith)) in let b = h n (omega arith) in omega arith

-- a summand is no more than the sum
pub sum-least : (n : ℕ) (f : ℕ → ℕ) (j : ℕ) → j < n → f j ≤ sum n f
unfolding sum
sum-least zero f j h = absurd (omega arith)
sum-least (suc n) f j h =
    split n j (λ k. let e = ap f {x = j} {y = n} (omega arith) in omega arith) (λ k. let a = sum-least n f j k in omega arith)

-- Pigeonhole: each message passes one of n tests, so there are no more messages than the counts of the tests add up to.
pub pigeonhole : {B : Type 0} (n : ℕ) (q : ℕ → B → Bool) (test_of : B → ℕ) (xs : List (Message B)) (d : Message B)
    → ((p : ℕ) → p < length xs → (test_of (get_or xs p d).body < n) × (q (test_of (get_or xs p d).body) (get_or xs p d).body ≡ true))
    → length xs ≤ sum n (λ j. count (q j) xs)
unfolding count
pigeonhole n q test_of [] d h = omega arith
pigeonhole n q test_of (x ∷ xs) d h =
    let rest = pigeonhole n q test_of xs d (λ p k. h (suc p) (omega arith)) in
    let here = h 0 (omega arith) in
    let a = sum-add n (λ j. one (q j x.body)) (λ j. count (q j) xs) in
    let b = sum-least n (λ j. one (q j x.body)) (test_of x.body) here.0 in
    let y = one-yes (q (test_of x.body) x.body) here.1 in
    omega arith

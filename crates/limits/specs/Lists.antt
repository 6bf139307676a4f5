-- Lists by index, and tests of every element.
use Rattle.std.specs.Prelude.{ℕ, zero, suc, ◌+◌, Bool, true, ◌&&◌, List, [], ◌∷◌, ◌++◌}
use Rattle.limits.specs.Questions.{pick}

-- f 0, f 1, .., f (n - 1)
unfoldable pub tab : {A : Type 0} → ℕ → (ℕ → A) → List A
tab zero f = []
tab (suc n) f = tab n f ++ (f n ∷ [])

unfoldable pub all : {A : Type 0} → (A → Bool) → List A → Bool
all p [] = true
all p (x ∷ xs) = p x && all p xs

-- how many elements at the front pass the test, up to the first that does not
unfoldable pub leading : {A : Type 0} → (A → Bool) → List A → ℕ
leading p [] = 0
leading p (x ∷ xs) = pick (p x) (leading p xs + 1) 0

-- how many elements pass the test
unfoldable pub how_many : {A : Type 0} → (A → Bool) → List A → ℕ
how_many p [] = 0
how_many p (x ∷ xs) = pick (p x) (how_many p xs + 1) (how_many p xs)

-- the lists one behind the other
unfoldable pub joined : {A : Type 0} → List (List A) → List A
joined [] = []
joined (xs ∷ rest) = xs ++ joined rest

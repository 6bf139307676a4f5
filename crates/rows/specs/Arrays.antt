-- What the helpers do to an array: a row written, entries that fall, a gap closed, a span of the ring set to one value.
use Rattle.std.specs.Prelude.{ℕ, ◌+◌, ◌-◌, Bool, false, ◌&&◌, List, leb, ltb, length, get_or}
use Rattle.limits.specs.Lists.{tab}
use Rattle.limits.specs.Questions.{pick}
use Rattle.limits.specs.Ring.{distance}

-- the list with `new i` at each index i that passes the test; `d` stands for what lies past its end
unfoldable pub changed : {A : Type 0} → A → (ℕ → Bool) → (ℕ → A) → List A → List A
changed d test new xs = tab (length xs) (λ i. pick (test i) (new i) (get_or xs i d))

abbrev pub from_to : ℕ → ℕ → ℕ → Bool
from_to a b i = leb a i && ltb i b

-- `words` at `at`, however many they are
unfoldable pub pasted : ℕ → List ℕ → List ℕ → List ℕ
pasted at words = changed 0 (from_to at (at + length words)) (λ i. get_or words (i - at) 0)

-- `row` at `at`
unfoldable pub written : ℕ → List ℕ → List ℕ → List ℕ
written at row = changed 0 (from_to at (at + 16)) (λ i. get_or row (i - at) 0)

-- the first n entries less d, and no less than 0
unfoldable pub fallen : ℕ → ℕ → List ℕ → List ℕ
fallen n d xs = changed 0 (from_to 0 n) (λ i. get_or xs i 0 - d) xs

-- a gap of `width` entries at `at` closed, in the first `end`
unfoldable pub closed : ℕ → ℕ → ℕ → List ℕ → List ℕ
closed at width end xs = changed 0 (from_to at (end - width)) (λ i. get_or xs (i + width) 0) xs

-- `value` at the places of the `count` numbers from place `at` on, in a ring of w places
unfoldable pub span_set : ℕ → ℕ → ℕ → Bool → List Bool → List Bool
span_set w at count value = changed false (λ p. ltb p w && ltb (distance w at p) count) (λ p. value)

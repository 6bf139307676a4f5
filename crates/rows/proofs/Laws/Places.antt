-- Laws on arrays whose places stand for numbers modulo w.
use Prim.Native.Nat.{ℕ, ◌+◌, ◌-◌, ◌%◌, ◌≤◌, ◌<◌}
use mathlib.Core.Path.{◌≡◌, refl, sym, ◌∙◌, ap, ap₂}
use mathlib.Core.Bool.{Bool, true, false, not, ◌&&◌}
use mathlib.Core.List.{List, ◌++◌}
use native.Mathlib.Omega.{arith}
use native.Mathlib.Nat.{mod-lt, mod-eq_of_lt, mod_self, mod-add-mod}
use lib.Dec.{eqb, ltb}
use borrow.Author.Tests.{lt-ltb, le-ltb, eqb-true, eqb-false, not-true}
use lib.ListN.{length, get_or, set}
use lib.Seq.{get_or-set_same, get_or-set_other}
use Rattle.limits.specs.Lists.{tab, all}
use Rattle.limits.specs.Questions.{pick}
use Rattle.limits.specs.Ring.{distance}
use Rattle.limits.proofs.Laws.Choice.{split, test, pick_yes, pick_no, and-no-left, and-no-right, both}
use Rattle.limits.proofs.Laws.Lists.{split-tab, tab-ext, all_append, all-tab-at}
use Rattle.limits.proofs.Laws.Ring.{mod-once, distance-on, distance-round, distance-step, distance_is, place-distance, place-inj}
use Rattle.rows.specs.Arrays.{from_to, span_set}
use Rattle.rows.proofs.Laws.Changed.{length-changed, changed-at, changed-other, changed-none, changed-more, inside, below, above}

pub length-span : (w at count : ℕ) (value : Bool) (xs : List Bool) → length (span_set w at count value xs) ≡ length xs
unfolding span_set
length-span w at count value xs = length-changed false _ _ xs

pub span-start : (w at : ℕ) (value : Bool) (xs : List Bool) → xs ≡ span_set w at 0 value xs
unfolding span_set
span-start w at value xs = sym (changed-none false _ _ xs (λ i h. and-no-right (ltb i w) _ (le-ltb (distance w at i) 0 (omega arith))))

-- one more in the span: a number at distance D joins where D is the span's length
one_more : (D i : ℕ) → (D ≡ i → ⊥) → ltb D (i + 1) ≡ ltb D i
one_more D i ne =
    split i D
    (λ h. le-ltb D (i + 1) (let q : D ≡ i → ⊥ = ne in omega arith) ∙ sym (le-ltb D i h))
    (λ h. lt-ltb D (i + 1) (omega arith) ∙ sym (lt-ltb D i h))

-- a turn of the loop: the place of number at + i joins the span
pub span-turn : (w at i : ℕ) (value : Bool) (xs ys : List Bool) → at < w → i < w → ys ≡ span_set w at i value xs
    → set ys ((at + i) % w) value ≡ span_set w at (i + 1) value xs
unfolding span_set
span-turn w at i value xs ys h k e =
    rw e
    (changed-more false (λ p. ltb p w && ltb (distance w at p) i) (λ p. ltb p w && ltb (distance w at p) (i + 1)) (λ p. value) xs ((at + i) % w)
    (both _ _ (lt-ltb _ _ (mod-lt (at + i) (omega arith))) (lt-ltb (distance w at ((at + i) % w)) (i + 1) (let q = distance-step w at i h k in omega arith)))
    (λ p _ ne. split w p
    (λ o. and-no-left _ _ (le-ltb p w o) ∙ sym (and-no-left _ _ (le-ltb p w o)))
    (λ o. ap (ltb p w &&◌) (one_more (distance w at p) i (λ q. ne (sym (ap (λ j. (at + j) % w) (sym q) ∙ distance_is w at p h o)))))))

-- the place behind `at`, where that is the last one and where it is not
pub behind-last : (w at : ℕ) → at + 1 ≡ w → 0 ≡ (at + 1) % w
behind-last w at e = sym (ap (◌% w) e ∙ mod_self w)

pub behind : (w at : ℕ) → at + 1 < w → at + 1 ≡ (at + 1) % w
behind w at h = sym (mod-eq_of_lt h)

-- the next place
pub next_place : (w from i at to : ℕ) → at ≡ (from + i) % w → to ≡ (at + 1) % w → to ≡ (from + (i + 1)) % w
next_place w from i at to e q = q ∙ ap (λ a. (a + 1) % w) e ∙ mod-add-mod (from + i) w 1 ∙ ap (◌% w) {x = from + i + 1} {y = from + (i + 1)} (omega arith)

pub place-below : (w a : ℕ) → 1 ≤ w → a % w < w
place-below w a h = mod-lt a h

pub next-below : (w at to : ℕ) → at < w → to ≡ (at + 1) % w → to < w
next-below w at to h e = rw e (mod-lt (at + 1) (omega arith))

pub span-turn-at : (w from i at : ℕ) (value : Bool) (xs ys : List Bool) → from < w → i < w → at ≡ (from + i) % w → ys ≡ span_set w from i value xs
    → set ys at value ≡ span_set w from (i + 1) value xs
span-turn-at w from i at value xs ys h k q e = rw q (span-turn w from i value xs ys h k e)

module _ (w o d k : ℕ) (h : d < w) (j : k < w) where
  -- an array after a store at the place of number o + d, read at the place of number o + k
  pub set-place : {A : Type 0} (xs : List A) (v e : A) → w ≤ length xs → get_or (set xs ((o + d) % w) v) ((o + k) % w) e ≡ pick (eqb k d) v (get_or xs ((o + k) % w) e)
  set-place xs v e l =
      test (eqb k d)
      (λ q. ap (λ i. get_or (set xs ((o + d) % w) v) ((o + i) % w) e) (eqb-true k d q)
      ∙ get_or-set_same xs ((o + d) % w) v e (let b = mod-lt (o + d) {m = w} (omega arith) in omega arith)
      ∙ sym (pick_yes _ _ _ _ q refl))
      (λ q. get_or-set_other xs ((o + d) % w) ((o + k) % w) v e (λ z. eqb-false k d q (place-inj w o k d j h z)) ∙ sym (pick_no _ _ _ _ q refl))

  -- and after a span of c numbers from o + d on was set
  pub span-place : (c : ℕ) (v : Bool) (xs : List Bool) → w ≤ length xs → d + c ≤ w
      → get_or (span_set w ((o + d) % w) c v xs) ((o + k) % w) false ≡ pick (from_to d (d + c) k) v (get_or xs ((o + k) % w) false)
  unfolding span_set
  span-place c v xs l fits =
      split d k
      (λ s. let q = distance-on w d k s j in
      split (d + c) k
      (λ a. out (omega arith) ∙ sym (pick_no _ _ _ _ (above d (d + c) k a) refl))
      (λ a. changed-at false _ _ xs ((o + k) % w) (let e = b in omega arith) (both _ _ (lt-ltb _ _ b) (lt-ltb _ _ (near (omega arith)))) ∙ sym (pick_yes _ _ _ _ (inside d (d + c) k s a) refl)))
      (λ s. let q = distance-round w d k s h in out (omega arith) ∙ sym (pick_no _ _ _ _ (below d (d + c) k s) refl))
    where
      b : (o + k) % w < w
      b = mod-lt (o + k) (omega arith)

      near : distance w d k < c → distance w ((o + d) % w) ((o + k) % w) < c
      near n = rw (place-distance w o d k h j) n

      out : c ≤ distance w d k → get_or (span_set w ((o + d) % w) c v xs) ((o + k) % w) false ≡ get_or xs ((o + k) % w) false
      out n = changed-other false _ _ xs _ (and-no-right (ltb ((o + k) % w) w) _ (le-ltb (distance w ((o + d) % w) ((o + k) % w)) c (rw (place-distance w o d k h j) n)))

pub first-place : (w from : ℕ) → from < w → from ≡ (from + 0) % w
first-place w from h = sym (ap (◌% w) {x = from + 0} {y = from} (omega arith) ∙ mod-eq_of_lt h)

-- `count` places round the ring are two spans: to the ring's end, and from place 0 on the `over` places beyond it
module _ {A : Type 0} (w from count over : ℕ) (h : from < w) (k : count ≤ w) (e : over ≡ from + count - w) (f : ℕ → A) where
  pub round-tab : tab count (λ i. f ((from + i) % w)) ≡ tab (count - over) (λ i. f (from + i)) ++ tab over f
  round-tab =
      split-tab (count - over) count (λ i. f ((from + i) % w)) (omega arith)
      ∙ ap₂ ◌++◌ (tab-ext (count - over) _ _ (λ i j. ap f (mod-eq_of_lt (omega arith))))
      (ap (λ n. tab n (λ i. f ((from + (count - over + i)) % w))) {x = count - (count - over)} {y = over} (omega arith)
      ∙ tab-ext over _ f (λ i j. ap f (mod-once (from + (count - over + i)) w (omega arith) (omega arith) ∙ omega arith)))

  -- a test of each, gathered from the two spans
  pub round-all : (p : A → Bool) (a b r : Bool) → a ≡ all p (tab (from + count - over - from) (λ i. f (from + i)))
      → b ≡ all p (tab (over - 0) (λ i. f (0 + i))) → r ≡ (a && b) → r ≡ all p (tab count (λ i. f ((from + i) % w)))
  round-all p a b r q s t =
      t
      ∙ ap₂ ◌&&◌ (q ∙ ap (λ n. all p (tab n (λ i. f (from + i)))) {x = from + count - over - from} {y = count - over} (omega arith))
      (s ∙ ap (λ n. all p (tab n (λ i. f (0 + i)))) {x = over - 0} {y = over} (omega arith) ∙ ap (all p) (tab-ext over _ f (λ i j. ap f {x = 0 + i} {y = i} (omega arith))))
      ∙ sym (all_append p (tab (count - over) (λ i. f (from + i))) (tab over f))
      ∙ ap (all p) (sym round-tab)

-- where none of the first n marks is set, each is off
pub none-at : (xs : List Bool) (n : ℕ) (flag : Bool) → flag ≡ all not (tab (n - 0) (λ i. get_or xs (0 + i) false)) → flag ≡ true
    → (i : ℕ) → i < n → get_or xs i false ≡ false
none-at xs n flag e q i h =
    ap (λ j. get_or xs j false) {x = i} {y = 0 + i} (omega arith)
    ∙ not-true _ (all-tab-at not (n - 0) (λ j. get_or xs (0 + j) false) (sym e ∙ q) i (omega arith))

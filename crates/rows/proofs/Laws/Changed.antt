-- Laws on a list that is changed at the indexes that pass a test.
use Prim.Native.Nat.{ℕ, ◌+◌, ◌-◌, ◌≤◌, ◌<◌}
use mathlib.Core.Path.{◌≡◌, refl, sym, ◌∙◌, ap}
use mathlib.Core.Bool.{Bool, true, false}
use mathlib.Core.List.{List, ◌++◌}
use native.Mathlib.Omega.{arith}
use lib.Dec.{leb, ltb, eqb}
use lib.ListN.{length, get_or, take, drop, set, length-set, length-append, length-take, length-drop, get_or-append, get_or-eq_default}
use lib.Seq.{get_or-set_same, get_or-set_other, get_or-take, get_or-drop, get_or-append_right}
use borrow.Rule.Slice.PartMut.{put_mid, same_len_mid}
use borrow.Author.Tests.{lt-ltb, le-ltb, le-leb, lt-leb, eqb-true, eqb-false}
use Rattle.limits.specs.Questions.{pick}
use Rattle.limits.proofs.Laws.Choice.{pick_yes, pick_no, both, and-no-left, and-no-right, split, test}
use Rattle.limits.proofs.Laws.Lists.{length-tab, get_or-tab, is-tab}
use Rattle.rows.specs.Arrays.{changed, from_to, pasted, closed}

module _ {A : Type 0} (d : A) where
  pub length-changed : (at : ℕ → Bool) (new : ℕ → A) (xs : List A) → length (changed d at new xs) ≡ length xs
  unfolding changed
  length-changed at new xs = length-tab (length xs) _

  pub changed-at : (at : ℕ → Bool) (new : ℕ → A) (xs : List A) (i : ℕ) → i < length xs → at i ≡ true → get_or (changed d at new xs) i d ≡ new i
  unfolding changed
  changed-at at new xs i h e = get_or-tab (length xs) _ i d h ∙ pick_yes _ _ _ _ e refl

  pub changed-other : (at : ℕ → Bool) (new : ℕ → A) (xs : List A) (i : ℕ) → at i ≡ false → get_or (changed d at new xs) i d ≡ get_or xs i d
  unfolding changed
  changed-other at new xs i e =
      split (length xs) i
      (λ h. get_or-eq_default (changed d at new xs) d (let l = length-changed at new xs in omega arith) ∙ sym (get_or-eq_default xs d h))
      (λ h. get_or-tab (length xs) _ i d h ∙ pick_no _ _ _ _ e refl)

  -- nothing is changed yet
  pub changed-none : (at : ℕ → Bool) (new : ℕ → A) (xs : List A) → ((i : ℕ) → i < length xs → at i ≡ false) → changed d at new xs ≡ xs
  unfolding changed
  changed-none at new xs h = sym (is-tab xs (length xs) _ d refl (λ i k. sym (pick_no _ _ _ _ (h i k) refl)))

  -- a store at k takes one test to the next
  pub changed-more : (at at' : ℕ → Bool) (new : ℕ → A) (xs : List A) (k : ℕ) → at' k ≡ true → ((i : ℕ) → i < length xs → (i ≡ k → ⊥) → at' i ≡ at i)
      → set (changed d at new xs) k (new k) ≡ changed d at' new xs
  unfolding changed
  changed-more at at' new xs k hit others =
      is-tab (set (changed d at new xs) k (new k)) (length xs) _ d (length-set (changed d at new xs) k (new k) ∙ length-changed at new xs)
      (λ i h. test (eqb i k)
      (λ e. ap (λ j. get_or (set (changed d at new xs) k (new k)) j d) (eqb-true i k e)
      ∙ get_or-set_same (changed d at new xs) k (new k) d (let l = length-changed at new xs in let q = eqb-true i k e in omega arith)
      ∙ ap new (sym (eqb-true i k e))
      ∙ sym (pick_yes _ _ _ _ (ap at' (eqb-true i k e) ∙ hit) refl))
      (λ e. get_or-set_other (changed d at new xs) k i (new k) d (eqb-false i k e)
      ∙ get_or-tab (length xs) _ i d h
      ∙ ap (λ b. pick b (new i) (get_or xs i d)) (sym (others i h (eqb-false i k e)))))

pub inside : (a b i : ℕ) → a ≤ i → i < b → from_to a b i ≡ true
inside a b i h k = both (leb a i) (ltb i b) (le-leb a i h) (lt-ltb i b k)

pub below : (a b i : ℕ) → i < a → from_to a b i ≡ false
below a b i h = and-no-left (leb a i) (ltb i b) (lt-leb a i h)

pub above : (a b i : ℕ) → b ≤ i → from_to a b i ≡ false
above a b i h = and-no-right (leb a i) (ltb i b) (le-ltb i b h)

-- a list of which the part from a to before b is written keeps its length
pub put-length : {A : Type 0} (xs : List A) (a b : ℕ) (ys : List A) → a ≤ b → b ≤ length xs → length ys ≡ b - a → length (put_mid a (b - a) xs ys) ≡ length xs
put-length xs a b ys h k l = same_len_mid a (b - a) xs ys (l ∙ sym (length-take (b - a) (drop a xs) ∙ (let e = length-drop a xs in omega arith)))

module _ {A : Type 0} (d : A) (new : ℕ → A) (xs : List A) where
  -- by index
  pub is-range : (a b : ℕ) (ys : List A) → length ys ≡ length xs → ((i : ℕ) → a ≤ i → i < b → get_or ys i d ≡ new i)
      → ((i : ℕ) → i < a → get_or ys i d ≡ get_or xs i d) → ((i : ℕ) → b ≤ i → get_or ys i d ≡ get_or xs i d) → ys ≡ changed d (from_to a b) new xs
  unfolding changed
  is-range a b ys l part low high =
      is-tab ys (length xs) _ d l
      (λ i h. split a i
      (λ s. split b i
      (λ t. high i t ∙ sym (pick_no _ _ _ _ (above a b i t) refl))
      (λ t. part i s t ∙ sym (pick_yes _ _ _ _ (inside a b i s t) refl)))
      (λ s. low i s ∙ sym (pick_no _ _ _ _ (below a b i s) refl)))

  -- the part from a to before b, written as a whole
  pub put-range : (a b : ℕ) (ys : List A) → a ≤ b → b ≤ length xs → length ys ≡ b - a → ((i : ℕ) → i < b - a → get_or ys i d ≡ new (a + i))
      → put_mid a (b - a) xs ys ≡ changed d (from_to a b) new xs
  put-range a b ys h k l e =
      is-range a b (put_mid a (b - a) xs ys) (put-length xs a b ys h k l)
      (λ i s t. behind i s ∙ get_or-append ys rest d (i - a) (omega arith) ∙ e (i - a) (omega arith) ∙ ap new (omega arith))
      (λ i s. get_or-append (take a xs) (ys ++ rest) d i (let f = front in omega arith) ∙ get_or-take a xs i d s)
      (λ i s. behind i (omega arith) ∙ get_or-append_right ys rest (i - a) d (omega arith)
      ∙ get_or-drop (b - a) (drop a xs) (i - a - length ys) d ∙ get_or-drop a xs (b - a + (i - a - length ys)) d ∙ ap (λ j. get_or xs j d) (omega arith))
    where
      rest : List A
      rest = drop (b - a) (drop a xs)

      front : length (take a xs) ≡ a
      front = length-take a xs ∙ omega arith

      behind : (i : ℕ) → a ≤ i → get_or (take a xs ++ (ys ++ rest)) i d ≡ get_or (ys ++ rest) (i - a) d
      behind i s = let f = front in get_or-append_right (take a xs) (ys ++ rest) i d (omega arith) ∙ ap (λ j. get_or (ys ++ rest) j d) (omega arith)

  -- and the part below b
  pub put-front : (b : ℕ) (ys : List A) → b ≤ length xs → length ys ≡ b → ((i : ℕ) → i < b → get_or ys i d ≡ new i) → ys ++ drop b xs ≡ changed d (from_to 0 b) new xs
  put-front b ys k l e =
      is-range 0 b (ys ++ drop b xs) (length-append ys (drop b xs) ∙ (let n = length-drop b xs in omega arith))
      (λ i s t. get_or-append ys (drop b xs) d i (omega arith) ∙ e i t)
      (λ i s. absurd (omega arith))
      (λ i s. get_or-append_right ys (drop b xs) i d (omega arith) ∙ get_or-drop b xs (i - length ys) d ∙ ap (λ j. get_or xs j d) (omega arith))

-- an array into which words were copied, by index
module _ (at : ℕ) (words xs : List ℕ) where
  pub pasted-low : (i : ℕ) → i < at → get_or (pasted at words xs) i 0 ≡ get_or xs i 0
  unfolding pasted
  pasted-low i h = changed-other 0 _ _ xs i (below at (at + length words) i h)

  pub pasted_at : (k : ℕ) → k < length words → at + length words ≤ length xs → get_or (pasted at words xs) (at + k) 0 ≡ get_or words k 0
  unfolding pasted
  pasted_at k h l =
      changed-at 0 _ _ xs (at + k) (omega arith) (inside at (at + length words) (at + k) (omega arith) (omega arith))
      ∙ ap (λ j. get_or words j 0) {x = at + k - at} {y = k} (omega arith)

-- an array in which a gap was closed, by index
module _ (at width end : ℕ) (xs : List ℕ) where
  pub length-closed : length (closed at width end xs) ≡ length xs
  unfolding closed
  length-closed = length-changed 0 _ _ xs

  pub closed-low : (i : ℕ) → i < at → get_or (closed at width end xs) i 0 ≡ get_or xs i 0
  unfolding closed
  closed-low i h = changed-other 0 _ _ xs i (below at (end - width) i h)

  pub closed-high : (i : ℕ) → end ≤ length xs → at ≤ i → i + width < end → get_or (closed at width end xs) i 0 ≡ get_or xs (i + width) 0
  unfolding closed
  closed-high i l h k = changed-at 0 _ _ xs i (omega arith) (inside at (end - width) i h (omega arith))

  pub closed-behind : (i : ℕ) → end ≤ i + width → get_or (closed at width end xs) i 0 ≡ get_or xs i 0
  unfolding closed
  closed-behind i h = changed-other 0 _ _ xs i (above at (end - width) i (omega arith))

  -- where there is no gap, nothing moves
  pub closed_none : width ≡ 0 → xs ≡ closed at width end xs
  unfolding closed changed
  closed_none e =
      is-tab xs (length xs) _ 0 refl
      (λ i h. sym
      (test (from_to at (end - width) i)
      (λ q. pick_yes _ _ _ _ q (ap (λ j. get_or xs j 0) {x = i + width} {y = i} (omega arith)))
      (λ q. pick_no _ _ _ _ q refl)))

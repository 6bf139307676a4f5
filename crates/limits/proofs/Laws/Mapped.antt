-- A table whose messages are each read by f: its length, its elements, and what leaves, comes and ages.
use Prim.Native.Nat.{ℕ, zero, suc, ◌+◌, ◌-◌, ◌<◌}
use mathlib.Core.Path.{◌≡◌, refl, sym, ◌∙◌, ap}
use mathlib.Core.List.{List, [], ◌∷◌, map, map-append}
use native.Mathlib.Omega.{arith}
use lib.Dec.{leb}
use lib.ListN.{length, get_or, length-append}
use Rattle.limits.specs.Tables.{Message, on_body, put, remove, age}
use Rattle.limits.proofs.Laws.Choice.{test, pick_yes, pick_no}

pub length-put : {A : Type 0} (x : A) (xs : List A) → length (put x xs) ≡ length xs + 1
length-put x xs = length-append xs (x ∷ [])

module _ {A B : Type 0} (f : A → B) where
  pub table_at : (xs : List A) (p : ℕ) (d : A) (d' : B) → p < length xs → get_or (map f xs) p d' ≡ f (get_or xs p d)
  table_at [] p d d' h = absurd (omega arith)
  table_at (x ∷ xs) zero d d' h = refl
  table_at (x ∷ xs) (suc p) d d' h = table_at xs p d d' (omega arith)

  pub table-remove : (p : ℕ) (xs : List A) → remove p (map f xs) ≡ map f (remove p xs)
  unfolding remove
  table-remove p [] = refl
  table-remove zero (x ∷ xs) = refl
  table-remove (suc p) (x ∷ xs) = ap (f x ∷◌) (table-remove p xs)

  pub table-put : (x : A) (xs : List A) → put (f x) (map f xs) ≡ map f (put x xs)
  table-put x xs = sym (map-append f xs (x ∷ []))

module _ {B C : Type 0} (g : B → C) (d : ℕ) where
  pub table-age : (xs : List (Message B)) → age d (map (on_body g) xs) ≡ map (on_body g) (age d xs)
  unfolding age
  table-age [] = refl
  table-age (x ∷ xs) =
      test (leb x.life d)
      (λ e. pick_yes _ _ _ _ e (table-age xs) ∙ ap (map (on_body g)) (sym (pick_yes _ _ _ _ e refl)))
      (λ e. pick_no _ _ _ _ e (ap (record { body = g x.body; life = x.life - d } ∷◌) (table-age xs)) ∙ ap (map (on_body g)) (sym (pick_no _ _ _ _ e refl)))

-- Laws on what one more among those that were saved changes.
use Prim.Native.Nat.{ℕ, ◌≤◌, ◌<◌}
use mathlib.Core.Path.{◌≡◌, refl, sym, ◌∙◌, ap}
use mathlib.Core.Bool.{true, false}
use mathlib.Core.List.{List, [], ◌∷◌, ◌++◌}
use native.Mathlib.Omega.{arith}
use borrow.Author.Tests.{eq-eqb, ltb-true, lt-ltb, le-ltb}
use Rattle.limits.specs.Lists.{all}
use Rattle.limits.specs.Questions.{pick}
use Rattle.limits.proofs.Laws.Choice.{pick_yes, pick_no, pick-cases, test, both, and_left, and_right, and-no-left, and-no-right}
use Rattle.limits.proofs.Laws.Lists.{all_append}
use Rattle.horsefile.specs.declared.Saved.{Saved}
use Rattle.horsefile.specs.Rules.{of_leg, supersedes, highest}
use Rattle.horsefile.specs.Meanings.{Kept, lower, nothing_kept, under_highest}

module _ {X : Type 0} (saved : X → Saved) (horse leg : ℕ) where
  highest-append : (xs ys : List X) (best : X) → highest saved horse leg best (xs ++ ys) ≡ highest saved horse leg (highest saved horse leg best xs) ys
  unfolding highest
  highest-append [] ys best = refl
  highest-append (x ∷ xs) ys best = highest-append xs ys (pick (supersedes horse leg (saved x) (saved best)) x best)

  -- one of another horse or leg changes nothing
  pub highest-other : (xs ys : List X) (x best : X) → of_leg horse leg (saved x) ≡ false
      → highest saved horse leg best (xs ++ (x ∷ ys)) ≡ highest saved horse leg best (xs ++ ys)
  unfolding highest
  highest-other xs ys x best e =
      highest-append xs (x ∷ ys) best
      ∙ ap (λ b. highest saved horse leg b ys) (pick_no _ x (highest saved horse leg best xs) _ (and-no-left (of_leg horse leg (saved x)) _ e) refl)
      ∙ sym (highest-append xs ys best)

-- one under a higher save than all others of its horse and leg
module _ (k : Kept) where
  below : (o : Kept) → lower k.saved o ≡ true → of_leg k.saved.horse k.saved.leg o.saved ≡ true → o.saved.save < k.saved.save
  below o e q = ltb-true o.saved.save k.saved.save (rw q at e)

  abbrev best_of : Kept → List Kept → Kept
  best_of best xs = highest (λ (o : Kept). o.saved) k.saved.horse k.saved.leg best xs

  stays-below : (xs : List Kept) (best : Kept) → all (lower k.saved) xs ≡ true → best.saved.save < k.saved.save → (best_of best xs).saved.save < k.saved.save
  unfolding highest all
  stays-below [] best e h = h
  stays-below (x ∷ xs) best e h =
      stays-below xs _ (and_right (lower k.saved x) _ e)
      (pick-cases (λ (o : Kept). o.saved.save < k.saved.save) (supersedes k.saved.horse k.saved.leg x.saved best.saved) x best
      (λ s. below x (and_left (lower k.saved x) _ e) (and_left (of_leg k.saved.horse k.saved.leg x.saved) _ s))
      (λ s. h))

  stays-highest : (xs : List Kept) → all (lower k.saved) xs ≡ true → best_of k xs ≡ k
  unfolding highest all
  stays-highest [] e = refl
  stays-highest (x ∷ xs) e =
      ap (λ b. best_of b xs)
      (pick_no (supersedes k.saved.horse k.saved.leg x.saved k.saved) x k k
      (test (of_leg k.saved.horse k.saved.leg x.saved)
      (λ o. and-no-right (of_leg k.saved.horse k.saved.leg x.saved) _ (le-ltb k.saved.save x.saved.save (let b = below x (and_left (lower k.saved x) _ e) o in omega arith)))
      (λ o. and-no-left (of_leg k.saved.horse k.saved.leg x.saved) _ o))
      refl)
      ∙ stays-highest xs (and_right (lower k.saved x) _ e)

  pub highest-new : (front behind : List Kept) → 1 ≤ k.saved.save → all (lower k.saved) (front ++ behind) ≡ true
      → under_highest k.saved.horse k.saved.leg (front ++ (k ∷ behind)) ≡ k
  unfolding highest
  highest-new front behind h e =
      let parts = sym (all_append (lower k.saved) front behind) ∙ e in
      highest-append (λ (o : Kept). o.saved) k.saved.horse k.saved.leg front (k ∷ behind) nothing_kept
      ∙ ap (λ b. best_of b behind)
      (pick_yes (supersedes k.saved.horse k.saved.leg k.saved (best_of nothing_kept front).saved) k (best_of nothing_kept front) k
      (both (of_leg k.saved.horse k.saved.leg k.saved) _ (both _ _ (eq-eqb k.saved.horse k.saved.horse refl) (eq-eqb k.saved.leg k.saved.leg refl))
      (lt-ltb (best_of nothing_kept front).saved.save k.saved.save (stays-below front nothing_kept (and_left (all (lower k.saved) front) _ parts) h)))
      refl)
      ∙ stays-highest behind (and_right (all (lower k.saved) front) _ parts)

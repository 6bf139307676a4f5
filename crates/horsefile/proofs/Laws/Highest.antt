-- Laws on the highest save: it is one of the list, and no other is higher.
use Prim.Native.Nat.{ℕ, ◌≤◌}
use mathlib.Core.Path.{◌≡◌, refl, ◌∙◌}
use mathlib.Core.Bool.{Bool, true, not, ◌||◌}
use mathlib.Core.List.{List, [], ◌∷◌}
use native.Mathlib.Omega.{arith}
use lib.Dec.{leb}
use borrow.Author.Tests.{le-leb, ltb-true, ltb-false}
use Rattle.limits.specs.Lists.{all}
use Rattle.limits.specs.Questions.{pick}
use Rattle.limits.proofs.Laws.Choice.{pick-cases, both, and_right, and-goes-on, implies}
use Rattle.horsefile.specs.declared.Saved.{Saved}
use Rattle.horsefile.specs.Rules.{of_leg, supersedes, highest}

module _ {X : Type 0} (saved : X → Saved) (horse leg : ℕ) where
  rises : (xs : List X) (best : X) → (saved best).save ≤ (saved (highest saved horse leg best xs)).save
  unfolding highest
  rises [] best = omega arith
  rises (x ∷ xs) best =
      let up = pick-cases (λ y. (saved best).save ≤ (saved y).save) (supersedes horse leg (saved x) (saved best)) x best
      (λ s. let l = ltb-true (saved best).save (saved x).save (and_right (of_leg horse leg (saved x)) _ s) in omega arith) (λ s. omega arith) in
      let on = rises xs (pick (supersedes horse leg (saved x) (saved best)) x best) in
      omega arith

  abbrev pub no_higher : ℕ → X → Bool
  no_higher save x = not (of_leg horse leg (saved x)) || leb (saved x).save save

  pub none-higher : (xs : List X) (best : X) → all (no_higher (saved (highest saved horse leg best xs)).save) xs ≡ true
  unfolding highest all
  none-higher [] best = refl
  none-higher (x ∷ xs) best =
      let next = pick (supersedes horse leg (saved x) (saved best)) x best in
      let top = (saved (highest saved horse leg next xs)).save in
      both (no_higher top x) _
      (implies (of_leg horse leg (saved x)) (leb (saved x).save top)
      (λ o. le-leb (saved x).save top
      (let up = pick-cases (λ y. (saved x).save ≤ (saved y).save) (supersedes horse leg (saved x) (saved best)) x best
      (λ s. omega arith) (λ s. ltb-false (saved best).save (saved x).save (and-goes-on (of_leg horse leg (saved x)) _ o ∙ s)) in
      let on = rises xs next in
      omega arith)))
      (none-higher xs next)

-- Laws on `pick`, on tests and on lists of questions.
use Prim.Native.Nat.{ℕ, ◌≤◌, ◌<◌}
use mathlib.Core.Path.{◌≡◌, refl, sym, ◌∙◌}
use mathlib.Core.Bool.{Bool, true, false, not, ◌&&◌, ◌||◌, and_assoc}
use lib.Dec.{leb}
use borrow.Author.Tests.{leb-true, leb-false}
use Rattle.std.specs.Int.{from_bool}
use Rattle.limits.specs.Questions.{pick}

pub pick_yes : {A : Type 0} (b : Bool) (x y z : A) → b ≡ true → x ≡ z → pick b x y ≡ z
unfolding pick
pick_yes b x y z e h = rw e h

pub pick_no : {A : Type 0} (b : Bool) (x y z : A) → b ≡ false → y ≡ z → pick b x y ≡ z
unfolding pick
pick_no b x y z e h = rw e h

pub pick-cases : {A : Type 0} (P : A → Type 0) (b : Bool) (x y : A) → (b ≡ true → P x) → (b ≡ false → P y) → P (pick b x y)
unfolding pick
pick-cases P true x y f g = f refl
pick-cases P false x y f g = g refl

pub pick-map : {A B : Type 0} (f : A → B) (b : Bool) (x y : A) → pick b (f x) (f y) ≡ f (pick b x y)
unfolding pick
pick-map f true x y = refl
pick-map f false x y = refl

-- a truth value as a number
pub as-number : (b : Bool) → from_bool b ≡ pick b 1 0
unfolding pick
as-number true = refl
as-number false = refl

-- by cases on a computed truth value
pub test : {X : Type 0} (b : Bool) → (b ≡ true → X) → (b ≡ false → X) → X
test true f g = f refl
test false f g = g refl

-- by cases on an order
pub split : {X : Type 0} (a b : ℕ) → (a ≤ b → X) → (b < a → X) → X
split a b f g = test (leb a b) (λ e. f (leb-true a b e)) (λ e. g (leb-false a b e))

pub and_left : (a b : Bool) → (a && b) ≡ true → a ≡ true
and_left true b e = refl
and_left false b e = e

pub and_right : (a b : Bool) → (a && b) ≡ true → b ≡ true
and_right true b e = e
and_right false b e = absurd (eqb-clash e)
  where
    eqb-clash : false ≡ true → ⊥
    eqb-clash p = mathlib.Core.Bool.false≢true p

pub both : (a b : Bool) → a ≡ true → b ≡ true → (a && b) ≡ true
both a b p q = rw p q

pub clash : (b : Bool) → b ≡ true → b ≡ false → ⊥
clash true p q = mathlib.Core.Bool.true≢false q
clash false p q = mathlib.Core.Bool.false≢true p

pub and-no-left : (a b : Bool) → a ≡ false → (a && b) ≡ false
and-no-left a b e = rw e

pub and-no-right : (a b : Bool) → b ≡ false → (a && b) ≡ false
and-no-right true b e = e
and-no-right false b e = refl

pub and-swap : (a b x y : Bool) → ((a && b) && (x && y)) ≡ ((a && x) && (b && y))
and-swap true true x y = refl
and-swap true false x y = sym (and-no-right x false refl)
and-swap false b x y = refl

-- what `a && b` returns, by the value of `a`
pub and-goes-on : (a b : Bool) → a ≡ true → b ≡ (a && b)
and-goes-on a b e = rw e

pub and-stops : (a b : Bool) → a ≡ false → a ≡ (a && b)
and-stops a b e = rw e

-- the same where `a && b` is one flag
pub pair-goes-on : (a b z flag : Bool) → flag ≡ (a && b) → flag ≡ true → z ≡ (a && (b && z))
pair-goes-on a b z flag e q = and-goes-on (a && b) z (sym e ∙ q) ∙ and_assoc a b z

pub pair-stops : (a b z flag : Bool) → flag ≡ (a && b) → flag ≡ false → flag ≡ (a && (b && z))
pair-stops a b z flag e q = e ∙ and-stops (a && b) z (sym e ∙ q) ∙ and_assoc a b z

pub implies : (a b : Bool) → (a ≡ true → b ≡ true) → (not a || b) ≡ true
implies true b f = f refl
implies false b f = refl

pub or-goes-on : (a b : Bool) → a ≡ false → b ≡ (a || b)
or-goes-on a b e = rw e

pub or-stops : (a b : Bool) → a ≡ true → a ≡ (a || b)
or-stops a b e = rw e

-- question 4, passed, in its parts
pub two : (a b : Bool) → (a && b) ≡ true → (a ≡ true) × (b ≡ true)
two a b e = (and_left a b e, and_right a b e)

pub three : (a b z : Bool) → (a && (b && z)) ≡ true → (a ≡ true) × (b ≡ true) × (z ≡ true)
three a b z e = (and_left a (b && z) e, and_left b z (and_right a (b && z) e), and_right b z (and_right a (b && z) e))

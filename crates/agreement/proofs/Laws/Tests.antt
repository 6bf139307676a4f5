-- Tests of orders that hold together have the same value.
use Prim.Native.Nat.{ℕ, ◌≤◌, ◌<◌}
use mathlib.Core.Path.{◌≡◌, sym, ◌∙◌}
use native.Mathlib.Omega.{arith}
use lib.Dec.{leb, ltb}
use borrow.Author.Tests.{le-leb, lt-leb, lt-ltb, le-ltb}
use Rattle.limits.proofs.Laws.Choice.{split}

module _ (a b x y : ℕ) where
  pub leb-leb : (a ≤ b → x ≤ y) → (x ≤ y → a ≤ b) → leb a b ≡ leb x y
  leb-leb f g =
      split a b
      (λ h. le-leb a b h ∙ sym (le-leb x y (f h)))
      (λ h. lt-leb a b h ∙ sym (lt-leb x y (split x y (λ k. let q = g k in absurd (omega arith)) (λ k. k))))

  pub ltb-leb : (a < b → x ≤ y) → (x ≤ y → a < b) → ltb a b ≡ leb x y
  ltb-leb f g =
      split b a
      (λ h. le-ltb a b h ∙ sym (lt-leb x y (split x y (λ k. let q = g k in absurd (omega arith)) (λ k. k))))
      (λ h. lt-ltb a b h ∙ sym (le-leb x y (f h)))

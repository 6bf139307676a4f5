-- A law on arrays that a function of the index makes.
use Prim.Native.Nat.{ℕ, zero, suc, ◌+◌, ◌≤◌, ◌<◌}
use denote.Param.Members.{Mut}
use mathlib.Core.Path.{◌≡◌, refl, ◌∙◌, subst}
use mathlib.Core.List.{List}
use native.Mathlib.Omega.{arith}
use Rattle.std.specs.Prelude.{slice_index_or}
use Rattle.std.specs.Fn.{Called}
use Rattle.std.specs.Array.{IsFromFnResult, IsFromFnResultFrom}
use Rattle.limits.specs.Lists.{tab}
use Rattle.limits.proofs.Laws.Choice.{split}
use Rattle.limits.proofs.Laws.Lists.{is-tab}

-- what `array::from_fn` makes, where each call gives f and leaves the closure as it was
module _ {F A : Type 0} (g : Mut F (ℕ × Unit {0}) A) (f : ℕ → A) (c : F) (step : (k : ℕ) (x : A) (c' : F) → Called g c (k, tt) x c' → (x ≡ f k) × (c' ≡ c)) where
  made-from : (xs : List A) (i n : ℕ) (c' : F) → c' ≡ c → IsFromFnResultFrom g c' xs i n → (j : ℕ) → i ≤ j → j < i + n → (d : A) → slice_index_or xs j d ≡ f j
  made-from xs i zero c' e h j a b d = absurd (omega arith)
  made-from xs i (suc n) c' e h j a b d =
      let call = step i h.1 h.0 (subst (λ u. Called g u (i, tt) h.1 h.0) e h.3) in
      split j i
      (λ k. subst (λ m. slice_index_or xs m d ≡ f m) {x = i} {y = j} (omega arith) (h.2.1 d ∙ call.0))
      (λ k. made-from xs (i + 1) n h.0 call.1 h.4 j (omega arith) (omega arith) d)

  pub made : (xs : List A) (n : ℕ) → IsFromFnResult g c xs n → xs ≡ tab n f
  made xs n h = is-tab xs n f (f 0) h.long (λ k l. made-from xs 0 n c refl h.each k (omega arith) (omega arith) (f 0))

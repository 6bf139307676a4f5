-- A function changed at one number.
use Prim.Native.Nat.{ℕ}
use mathlib.Core.Path.{◌≡◌, refl, sym, ap}
use lib.Dec.{eqb}
use borrow.Author.Tests.{eqb-true}
use Rattle.limits.proofs.Laws.Choice.{test, pick_yes, pick_no}
use Rattle.unbounded.specs.Ends.{at}

-- changed to the value it had
pub at_own : {A : Type 0} (m : ℕ) (f : ℕ → A) (k : ℕ) → at m (f m) f k ≡ f k
unfolding at
at_own m f k =
    test (eqb k m)
    (λ e. pick_yes (eqb k m) (f m) (f k) (f k) e (ap f (sym (eqb-true k m e))))
    (λ e. pick_no (eqb k m) (f m) (f k) (f k) e refl)

-- A list whose front is dropped and that is filled up behind.
use Prim.Native.Nat.{ℕ, ◌+◌, ◌-◌, ◌≤◌}
use mathlib.Core.Path.{◌≡◌, ◌∙◌, ap, ap₂}
use mathlib.Core.List.{◌++◌}
use native.Mathlib.Omega.{arith}
use lib.Dec.{ltb}
use lib.ListN.{drop, replicate}
use Rattle.limits.specs.Lists.{tab}
use Rattle.limits.specs.Questions.{pick}
use Rattle.limits.proofs.Laws.Lists.{replicate-tab, drop-tab, append-tab}

-- the front of n elements dropped, and n put behind
pub shifted : {A : Type 0} (w n : ℕ) (f : ℕ → A) (x : A) → n ≤ w → drop n (tab w f) ++ replicate n x ≡ tab w (λ i. pick (ltb i (w - n)) (f (n + i)) x)
shifted w n f x h =
    ap₂ ◌++◌ (drop-tab n w f) (replicate-tab n x)
    ∙ append-tab (w - n) n (λ i. f (n + i)) (λ i. x)
    ∙ ap (λ k. tab k (λ i. pick (ltb i (w - n)) (f (n + i)) x)) {x = w - n + n} {y = w} (omega arith)

-- Numbers without end, read modulo n: how far they lie apart on the ring, and steps on it.
use Prim.Native.Nat.{ℕ, ◌+◌, ◌-◌, ◌%◌, ◌≤◌, ◌<◌}
use mathlib.Core.Path.{◌≡◌, sym, ◌∙◌, ap}
use native.Mathlib.Nat.{mod-lt, mod-add-mod, add-mod_right}
use native.Mathlib.Omega.{arith}
use Rattle.limits.specs.Ring.{distance, step}
use Rattle.limits.proofs.Laws.Ring.{distance-step}

pub step-modulo : (n a k : ℕ) → step n (a % n) k ≡ (a + k) % n
unfolding step
step-modulo n a k = mod-add-mod a n k

-- b lies less than n on from a
pub distance-modulo : (n a b : ℕ) → a ≤ b → b < a + n → distance n (a % n) (b % n) ≡ b - a
distance-modulo n a b h k =
    ap (distance n (a % n)) (sym (mod-add-mod a n (b - a) ∙ ap (◌% n) {x = a + (b - a)} {y = b} (omega arith)))
    ∙ distance-step n (a % n) (b - a) (mod-lt a (omega arith)) (omega arith)

-- b lies at most n back from a
pub distance-modulo-back : (n a b : ℕ) → b < a → a ≤ b + n → distance n (a % n) (b % n) ≡ b + n - a
distance-modulo-back n a b h k = ap (distance n (a % n)) (sym (add-mod_right b n)) ∙ distance-modulo n a (b + n) k (omega arith)

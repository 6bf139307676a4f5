-- Laws of numbers modulo n and of places modulo w.
use Prim.Native.Nat.{ℕ, ◌+◌, ◌-◌, ◌*◌, ◌%◌, ◌≤◌, ◌<◌}
use mathlib.Core.Path.{◌≡◌, sym, ◌∙◌, ap}
use native.Mathlib.Nat.{mod-lt, mod-eq_of_lt, mod-eq-sub-mod, add-mod_right, mod-add-mod, mod-mod_of_dvd, dvd-mul_left}
use native.Mathlib.Omega.{arith}
use Rattle.limits.specs.Ring.{distance, step, place}
use Rattle.limits.proofs.Laws.Choice.{split}

pub mod-once : (x n : ℕ) → n ≤ x → x < n + n → x % n ≡ x - n
mod-once x n h k = mod-eq-sub-mod h ∙ mod-eq_of_lt (omega arith)

-- the three functions by one comparison
pub distance-on : (n a b : ℕ) → a ≤ b → b < n → distance n a b ≡ b - a
unfolding distance
distance-on n a b h k = ap (◌% n) {x = b + n - a} {y = b - a + n} (omega arith) ∙ add-mod_right (b - a) n ∙ mod-eq_of_lt (omega arith)

pub distance-round : (n a b : ℕ) → b < a → a < n → distance n a b ≡ b + n - a
unfolding distance
distance-round n a b h k = mod-eq_of_lt (omega arith)

pub distance-below : (n a b : ℕ) → a < n → b < n → distance n a b < n
unfolding distance
distance-below n a b h k = mod-lt (b + n - a) (omega arith)

-- a distance that was computed, whichever way it was taken
pub gap_below : (gap n a b : ℕ) → gap ≡ distance n a b → a < n → b < n → gap < n
gap_below gap n a b e h k = let d = distance-below n a b h k in omega arith

pub step-below : (n a k : ℕ) → a + k < n → step n a k ≡ a + k
unfolding step
step-below n a k h = mod-eq_of_lt h

pub step-round : (n a k : ℕ) → n ≤ a + k → a + k < n + n → step n a k ≡ a + k - n
unfolding step
step-round n a k h j = mod-once (a + k) n h j

pub place-low : (w a : ℕ) → a < w → place w a ≡ a
place-low w a h = mod-eq_of_lt h

pub place-high : (w a : ℕ) → w ≤ a → a < 2 * w → place w a ≡ a - w
place-high w a h k = mod-once a w h (omega arith)

-- the number i on from a lies at distance i, and no other does
pub distance-step : (n a i : ℕ) → a < n → i < n → distance n a ((a + i) % n) ≡ i
distance-step n a i h k =
    split n (a + i)
    (λ o. ap (distance n a) (mod-once (a + i) n o (omega arith)) ∙ distance-round n a (a + i - n) (omega arith) h ∙ omega arith)
    (λ o. ap (distance n a) (mod-eq_of_lt o) ∙ distance-on n a (a + i) (omega arith) o ∙ omega arith)

pub distance_is : (n a b : ℕ) → a < n → b < n → (a + distance n a b) % n ≡ b
distance_is n a b h k =
    split a b
    (λ o. ap (◌% n) {x = a + distance n a b} {y = b} (let d = distance-on n a b o k in omega arith) ∙ mod-eq_of_lt k)
    (λ o. ap (◌% n) {x = a + distance n a b} {y = b + n} (let d = distance-round n a b o h in omega arith) ∙ add-mod_right b n ∙ mod-eq_of_lt k)

-- a number modulo 2w has the place of the number itself
pub place-of-step : (w a k j : ℕ) → (step (2 * w) a k + j) % w ≡ (a + (k + j)) % w
unfolding step
place-of-step w a k j =
    sym (mod-add-mod ((a + k) % (2 * w)) w j)
    ∙ ap (λ x. (x + j) % w) (mod-mod_of_dvd w (a + k) (dvd-mul_left w 2))
    ∙ mod-add-mod (a + k) w j
    ∙ ap (◌% w) {x = a + k + j} {y = a + (k + j)} (omega arith)

-- within a window of w numbers from o on, the distance of two places is that of the numbers
pub place-distance : (w o d k : ℕ) → d < w → k < w → distance w ((o + d) % w) ((o + k) % w) ≡ distance w d k
place-distance w o d k h j =
    ap (distance w ((o + d) % w)) (sym on) ∙ distance-step w ((o + d) % w) (distance w d k) (mod-lt (o + d) (omega arith)) (distance-below w d k h j)
  where
    reached : (o + (d + distance w d k)) % w ≡ (o + k) % w
    reached =
        split d k
        (λ s. let q = distance-on w d k s j in ap (λ x. (o + x) % w) {x = d + distance w d k} {y = k} (omega arith))
        (λ s. let q = distance-round w d k s h in ap (◌% w) {x = o + (d + distance w d k)} {y = o + k + w} (omega arith) ∙ add-mod_right (o + k) w)

    on : ((o + d) % w + distance w d k) % w ≡ (o + k) % w
    on = mod-add-mod (o + d) w (distance w d k) ∙ ap (◌% w) {x = o + d + distance w d k} {y = o + (d + distance w d k)} (omega arith) ∙ reached

pub place-inj : (w o d k : ℕ) → d < w → k < w → (o + d) % w ≡ (o + k) % w → d ≡ k
place-inj w o d k h j e =
    let b = mod-lt (o + k) {m = w} (omega arith) in
    let z : distance w d k ≡ 0 =
    sym (place-distance w o d k h j) ∙ ap (λ x. distance w x ((o + k) % w)) e ∙ distance-on w ((o + k) % w) ((o + k) % w) (omega arith) b ∙ omega arith in
    split d k
    (λ s. let q = distance-on w d k s j in omega arith)
    (λ s. let q = distance-round w d k s h in omega arith)

-- the distance to a number further on, and from one
pub distance-on-by : (n a b k : ℕ) → a < n → b < n → distance n a b + k < n → distance n a (step n b k) ≡ distance n a b + k
unfolding step
distance-on-by n a b k h j fits =
    ap (distance n a)
    (ap (λ x. (x + k) % n) (sym (distance_is n a b h j))
    ∙ mod-add-mod (a + distance n a b) n k
    ∙ ap (◌% n) {x = a + distance n a b + k} {y = a + (distance n a b + k)} (omega arith))
    ∙ distance-step n a (distance n a b + k) h fits

pub distance-from : (n a b k : ℕ) → a < n → b < n → k ≤ distance n a b → distance n (step n a k) b ≡ distance n a b - k
unfolding step
distance-from n a b k h j o =
    let below = distance-below n a b h j in
    ap (distance n ((a + k) % n))
    (sym
    (mod-add-mod (a + k) n (distance n a b - k)
    ∙ ap (◌% n) {x = a + k + (distance n a b - k)} {y = a + distance n a b} (omega arith)
    ∙ distance_is n a b h j))
    ∙ distance-step n ((a + k) % n) (distance n a b - k) (mod-lt (a + k) (omega arith)) (omega arith)

pub step_fits : (n a k : ℕ) → 1 ≤ n → step n a k < n
unfolding step
step_fits n a k h = mod-lt (a + k) h

-- the place of a number, told by its distance from a
pub place-by-distance : (w a b j : ℕ) → a < 2 * w → b < 2 * w → (b + j) % w ≡ (a + (distance (2 * w) a b + j)) % w
unfolding step
place-by-distance w a b j h k =
    ap (λ x. (x + j) % w) (sym (distance_is (2 * w) a b h k)) ∙ place-of-step w a (distance (2 * w) a b) j

pub place-at-distance : (w a b : ℕ) → a < 2 * w → b < 2 * w → b % w ≡ (a + distance (2 * w) a b) % w
place-at-distance w a b h k =
    ap (◌% w) {x = b} {y = b + 0} (omega arith)
    ∙ place-by-distance w a b 0 h k
    ∙ ap (◌% w) {x = a + (distance (2 * w) a b + 0)} {y = a + distance (2 * w) a b} (omega arith)

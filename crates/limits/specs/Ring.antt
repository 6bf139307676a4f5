-- Numbers modulo n (sequence numbers), and the place of a number in an array of w rows.
use Rattle.std.specs.Prelude.{ℕ, ◌+◌, ◌-◌, ◌%◌}

-- how far b lies on from a
unfoldable pub distance : ℕ → ℕ → ℕ → ℕ
distance n a b = (b + n - a) % n

-- the number k on from a
unfoldable pub step : ℕ → ℕ → ℕ → ℕ
step n a k = (a + k) % n

abbrev pub place : ℕ → ℕ → ℕ
place w a = a % w

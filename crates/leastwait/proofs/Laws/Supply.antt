-- The rows of a supply that is long enough and legal, and the numbers of rows.
use Prim.Native.Nat.{ℕ, ◌+◌, ◌*◌, ◌%◌, ◌≤◌}
use mathlib.Core.Path.{◌≡◌, sym, ◌∙◌, ap}
use mathlib.Core.Bool.{Bool, true}
use mathlib.Core.List.{List, ◌++◌}
use native.Mathlib.Omega.{arith}
use lib.ListN.{take, drop, take-append-drop}
use lib.Seq.{take-add, drop-drop}
use Rattle.limits.specs.declared.Limits.{Limits}
use Rattle.limits.specs.Lists.{all}
use Rattle.limits.specs.Cells.{row_at}
use Rattle.limits.specs.Ring.{distance, step}
use Rattle.limits.proofs.Laws.Choice.{and_left, and_right}
use Rattle.limits.proofs.Laws.Lists.{all_append}
use Rattle.agreement.proofs.Laws.Modulo.{step-modulo, distance-modulo}

-- what holds of every element holds in any part
pub in-part : {A : Type 0} (p : A → Bool) (n m : ℕ) (xs : List A) → all p xs ≡ true → all p (take n (drop m xs)) ≡ true
in-part p n m xs e =
    and_left _ (all p (drop n (drop m xs)))
    (sym (all_append p (take n (drop m xs)) (drop n (drop m xs)))
    ∙ ap (all p) (take-append-drop n (drop m xs))
    ∙ and_right (all p (take m xs)) _ (sym (all_append p (take m xs) (drop m xs)) ∙ ap (all p) (take-append-drop m xs) ∙ e))

-- a row more, of the supply and of the record
pub rows-taken : (n : ℕ) (cells : List ℕ) → take (16 * n) cells ++ row_at cells n ≡ take (16 * (n + 1)) cells
rows-taken n cells = sym (take-add (16 * n) 16 cells) ∙ ap (λ k. take k cells) {x = 16 * n + 16} {y = 16 * (n + 1)} (omega arith)

pub rows-left : (n : ℕ) (cells : List ℕ) → drop 16 (drop (16 * n) cells) ≡ drop (16 * (n + 1)) cells
rows-left n cells = drop-drop 16 (16 * n) cells ∙ ap (λ k. drop k cells) {x = 16 * n + 16} {y = 16 * (n + 1)} (omega arith)

-- the number of row n
abbrev pub number : Limits → ℕ → ℕ
number l n = n % (2 * l.window)

-- the number of the row behind it, and its own
pub number-next : (l : Limits) (n : ℕ) → step (2 * l.window) (number l n) 1 ≡ number l (n + 1)
number-next l n = step-modulo (2 * l.window) n 1

pub number-same : (l : Limits) (n : ℕ) → step (2 * l.window) (number l n) 0 ≡ number l n
number-same l n = step-modulo (2 * l.window) n 0 ∙ ap (number l) {x = n + 0} {y = n} (omega arith)

pub no-distance : (l : Limits) → 1 ≤ l.window → (n : ℕ) → distance (2 * l.window) (number l n) (number l n) ≡ 0
no-distance l some n = distance-modulo (2 * l.window) n n (omega arith) (omega arith) ∙ omega arith

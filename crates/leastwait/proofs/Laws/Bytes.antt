-- The list is one of bytes, none of its answers is 21, and a supply of zeros is legal.
use Prim.Native.Nat.{ℕ, zero, suc, ◌-◌, ◌*◌}
use mathlib.Core.Path.{◌≡◌, refl}
use mathlib.Core.Bool.{Bool, true, not}
use mathlib.Core.List.{◌++◌}
use native.Mathlib.Omega.{arith}
use lib.Dec.{eqb, leb}
use borrow.Author.Tests.{le-leb}
use lib.ListN.{replicate}
use Rattle.limits.specs.declared.Limits.{Limits}
use Rattle.limits.specs.Lists.{all, joined}
use Rattle.limits.specs.Cells.{legal_cell}
use Rattle.limits.specs.Questions.{pick}
use Rattle.limits.proofs.Laws.Choice.{test}
use Rattle.limits.proofs.Laws.Good.{Times}
use Rattle.leastwait.specs.NoShorterWait.{are_bytes, data_part, pad_part, reply_part, further_row, old_row, list_of, answer_to_tick, list_answers}
use Rattle.leastwait.proofs.Laws.First.{Parts}

rows-bytes : (k : ℕ) → are_bytes (joined (replicate k further_row) ++ old_row) ≡ true
unfolding all joined
rows-bytes zero = refl
rows-bytes (suc k) = rows-bytes k

pub list-bytes : (l : Limits) → Parts l → Times l → are_bytes (list_of l) ≡ true
unfolding all
list-bytes l p t =
    rw (le-leb (data_part l) 255 (omega arith), le-leb (pad_part l) 255 (omega arith), le-leb (reply_part l) 255 (omega arith)) (rows-bytes (2 * l.window - 1))

abbrev is_not_21 : ℕ → Bool
is_not_21 n = not (eqb n 21)

tick-not-21 : (d : ℕ) → is_not_21 (answer_to_tick d) ≡ true
unfolding pick
tick-not-21 d = test (leb 1 d) (λ e. rw e refl) (λ e. rw e refl)

rows-not-21 : (k : ℕ) → all is_not_21 (joined (replicate k (replicate 4 0)) ++ replicate 2 0) ≡ true
unfolding all joined
rows-not-21 zero = refl
rows-not-21 (suc k) = rows-not-21 k

pub answers-not-21 : (l : Limits) → all is_not_21 (list_answers l) ≡ true
unfolding all
answers-not-21 l = rw (tick-not-21 (data_part l), tick-not-21 (pad_part l), tick-not-21 (reply_part l)) (rows-not-21 (2 * l.window - 1))

pub zeros-legal : (n : ℕ) → all legal_cell (replicate n 0) ≡ true
unfolding all legal_cell
zeros-legal zero = refl
zeros-legal (suc n) = zeros-legal n

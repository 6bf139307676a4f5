-- Laws on the trial's input.
use Prim.Native.Nat.{ℕ, ◌*◌, ◌≤◌, ◌<◌}
use mathlib.Core.Path.{◌≡◌, ◌∙◌, ap}
use mathlib.Core.List.{List}
use native.Mathlib.Omega.{arith}
use lib.Dec.{leb}
use lib.ListN.{length, take}
use borrow.Author.Tests.{le-leb, lt-leb}
use Rattle.limits.specs.Lists.{tab}
use Rattle.limits.proofs.Laws.Choice.{and-goes-on, and-stops}
use Rattle.limits.proofs.Laws.Lists.{take-tab}
use Rattle.lines.specs.Input.{row_count, event_start, most_input, readable, cell_at, supply_of}

-- the supply is the front of all the cells that are read
pub supply-front : (input : List ℕ) → row_count input ≤ 255 → take (16 * row_count input) (tab 4080 (cell_at input)) ≡ supply_of input
unfolding supply_of
supply-front input h = take-tab (16 * row_count input) 4080 (cell_at input) (omega arith)

-- what question 29 answers, by its first half
pub readable-rest : (input : List ℕ) (start : ℕ) → start ≡ event_start input → start ≤ length input → leb (length input) most_input ≡ readable input
unfolding readable
readable-rest input start e h = and-goes-on (leb (event_start input) (length input)) (leb (length input) most_input) (le-leb _ _ (rw e at h))

pub readable-stops : (input : List ℕ) (start : ℕ) → start ≡ event_start input → length input < start → leb start (length input) ≡ readable input
unfolding readable
readable-stops input start e h =
    ap (λ n. leb n (length input)) e ∙ and-stops (leb (event_start input) (length input)) (leb (length input) most_input) (lt-leb _ _ (rw e at h))

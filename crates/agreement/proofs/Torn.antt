-- Torn cells stand in the record where the mat read them.
use Prim.Native.Nat.{ℕ, ◌*◌, ◌≤◌, ◌<◌}
use mathlib.Core.Path.{◌≡◌, sym, ◌∙◌, ap}
use mathlib.Core.List.{List, ◌++◌}
use native.Mathlib.Omega.{arith}
use lib.Dec.{eqb}
use lib.ListN.{length, take, drop, get_or, length-take, length-append, get_or-append}
use lib.Seq.{get_or-take}
use Rattle.limits.specs.Cells.{torn}
use Rattle.limits.specs.Limits.{accepted}
use Rattle.unbounded.specs.Ends.{fresh}
use Rattle.unbounded.specs.Lists.{after_all}
use Rattle.agreement.specs.Calls.{start, end_of, all_events}
use Rattle.agreement.specs.Torn.{cell, Stays, TornCellsStay}
use Rattle.agreement.proofs.Theorem.{demand-3}

-- what was recorded, by the record's later contents
module _ (supply rest after : List ℕ) (n : ℕ) (enough : 16 * n ≤ length supply) (is : after ≡ take (16 * n) supply ++ rest) where
  taken : length (take (16 * n) supply) ≡ 16 * n
  taken = let h = length-take (16 * n) supply in omega arith

  same-cell : (i : ℕ) → i < 16 * n → cell after i ≡ cell supply i
  same-cell i h =
      ap (λ xs. get_or xs i 0) is
      ∙ get_or-append (take (16 * n) supply) rest 0 i (omega (arith, taken))
      ∙ get_or-take (16 * n) supply i 0 h

  pub stays : Stays supply after n
  stays =
      record {
        supplied = enough;
        fits = let h = ap length is ∙ length-append (take (16 * n) supply) rest in omega (arith, taken);
        cells = same-cell;
        torn_cells = λ i h. ap (λ c. eqb c torn) (same-cell i h);
      }

pub torn-cells-stay : TornCellsStay
torn-cells-stay asked k o supply first cs chain =
    let x = end_of (start k first) cs in
    let s = after_all (accepted asked) supply (length first) fresh (all_events supply cs) in
    let a = (demand-3 asked k o supply first cs chain).same in
    stays supply (drop (16 * s.wanted) first) x.buffer x.counts.recorded
    (let most = a.recorded_sent in let enough = a.supplied in let here = a.recorded in omega arith)
    (a.record_is ∙ ap (◌++ drop (16 * s.wanted) first) (a.rows_in_order ∙ ap (λ n. take (16 * n) supply) (sym a.recorded)))

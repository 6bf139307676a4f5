use Prim.Native.Nat.{ℕ}
use mathlib.Core.Path.{sym}
use native.Mathlib.Omega.{arith}
use lib.ListN.{length-replicate}
use Rattle.report.proofs.Laws.Trial.{is-readable, front_length, cells-length, unreadable, refused-on, lent, ride-refused, ride-lines, ride-room}
use Rattle.report.proofs.ridden.Goals as goal

pub returns-then-not-readable : goal.returns-then-not-readable
returns-then-not-readable c = unreadable _ _ (sym c.if-not-readable.ensures)

pub slice_bounds-ride-count : goal.slice_bounds-ride-count
slice_bounds-ride-count c = let h = is-readable _ (sym c.if-not-readable.ensures) in omega arith

pub slice_bounds-ride-start : goal.slice_bounds-ride-start
slice_bounds-ride-start c = let h = is-readable _ (sym c.if-not-readable.ensures) in omega arith

pub slice_bounds-ride-end-2 : goal.slice_bounds-ride-end-2
slice_bounds-ride-end-2 c = sym (front_length _ _ (cells-length _ _ c.supply_of-supply.ensures) c.row_count-cells.ensures.1)

pub slice_bounds-ride-end-3 : goal.slice_bounds-ride-end-3
slice_bounds-ride-end-3 c = sym (front_length _ _ (length-replicate {A = ℕ} 4080 0) c.row_count-cells.ensures.1)

pub returns-in_err-counts : goal.returns-in_err-counts
returns-in_err-counts c = let h = lent _ _ _ _ _ _ (sym c.if-not-readable.ensures) c.limits_of-asked.ensures c.event_start-start.ensures c.supply_of-supply.ensures (length-replicate {A = ℕ} 4080 0) c.row_count-cells.ensures in
    refused-on _ _ c.from_residual.result _ c.from_residual.ensures.1 (ride-refused _ _ _ _ _ _ _ _ h _ c.in_err-counts.ensures)

pub slice_bounds-lines_of-count : goal.slice_bounds-lines_of-count
slice_bounds-lines_of-count c = let h = is-readable _ (sym c.if-not-readable.ensures) in omega arith

pub slice_bounds-lines_of-start : goal.slice_bounds-lines_of-start
slice_bounds-lines_of-start c = let h = is-readable _ (sym c.if-not-readable.ensures) in omega arith

pub lines_of-requires : goal.lines_of-requires
lines_of-requires c = let h = lent _ _ _ _ _ _ (sym c.if-not-readable.ensures) c.limits_of-asked.ensures c.event_start-start.ensures c.supply_of-supply.ensures (length-replicate {A = ℕ} 4080 0) c.row_count-cells.ensures in
    ride-room _ _ _ _ _ _ _ _ h _ c.in_ok-counts.ensures _ (let n = c.row_count-cells.ensures in omega arith) c.requires

pub returns : goal.returns
returns c = let h = lent _ _ _ _ _ _ (sym c.if-not-readable.ensures) c.limits_of-asked.ensures c.event_start-start.ensures c.supply_of-supply.ensures (length-replicate {A = ℕ} 4080 0) c.row_count-cells.ensures in
    ride-lines _ _ _ _ _ _ _ _ h _ c.in_ok-counts.ensures _ _ _ c.lines_of.ensures

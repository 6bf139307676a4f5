use native.Mathlib.Omega.{arith}
use mathlib.Core.Path.{sym, ◌∙◌}
use Rattle.page.proofs.Laws.Page.{on_fits, fits-rows, bad-length, no-page, bad-cell, short, all_yes}
use Rattle.page.proofs.page_answer.Goals as goal

pub rows_on-n-requires : goal.rows_on-n-requires
rows_on-n-requires c = fits-rows _ (sym c.record_fits.ensures ∙ c.if-not-record_fits.false)

pub overflow_mul-from : goal.overflow_mul-from
overflow_mul-from c = let f = on_fits _ _ _ c.rows_on-n.ensures (omega arith) in omega arith

pub overflow_mul-from-2 : goal.overflow_mul-from-2
overflow_mul-from-2 c = let f = on_fits _ _ _ c.rows_on-n.ensures (omega arith) in omega arith

pub overflow_mul-n : goal.overflow_mul-n
overflow_mul-n c = let f = on_fits _ _ _ c.rows_on-n.ensures (omega arith) in omega arith

pub overflow_add-from : goal.overflow_add-from
overflow_add-from c = let f = on_fits _ _ _ c.rows_on-n.ensures (omega arith) in omega arith

pub legal_cells-requires : goal.legal_cells-requires
legal_cells-requires c = let f = on_fits _ _ _ c.rows_on-n.ensures (omega arith) in (omega arith, omega arith)

pub overflow_mul-n-2 : goal.overflow_mul-n-2
overflow_mul-n-2 c = let f = on_fits _ _ _ c.rows_on-n.ensures (omega arith) in omega arith

pub returns-then-not-record_fits : goal.returns-then-not-record_fits
returns-then-not-record_fits c = record { number = bad-length _ _ _ (sym c.record_fits.ensures ∙ c.if-not-record_fits.true); value = tt }

pub returns-then-n-eq0 : goal.returns-then-n-eq0
returns-then-n-eq0 c = record { number = no-page _ _ _ (sym c.record_fits.ensures ∙ c.if-not-record_fits.false) _ c.rows_on-n.ensures (omega arith); value = tt }

pub returns-then-not-legal_cells : goal.returns-then-not-legal_cells
returns-then-not-legal_cells c =
    let fits = sym c.record_fits.ensures ∙ c.if-not-record_fits.false in
    record { number = bad-cell _ _ _ fits _ c.rows_on-n.ensures (omega arith) _ c.legal_cells.ensures c.if-not-legal_cells.true; value = tt }

pub returns-then-room-n : goal.returns-then-room-n
returns-then-room-n c =
    let fits = sym c.record_fits.ensures ∙ c.if-not-record_fits.false in
    record { number = short _ _ _ fits _ c.rows_on-n.ensures (omega arith) _ c.legal_cells.ensures c.if-not-legal_cells.false c.if-room-n.true; value = tt }

pub returns : goal.returns
returns c =
    let fits = sym c.record_fits.ensures ∙ c.if-not-record_fits.false in
    record {
      number = all_yes _ _ _ fits _ c.rows_on-n.ensures (omega arith) _ c.legal_cells.ensures c.if-not-legal_cells.false (omega arith);
      value = c.rows_on-n.ensures;
    }

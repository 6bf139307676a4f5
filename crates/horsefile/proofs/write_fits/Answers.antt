use Rattle.std.proofs.Common.{rules}
use Rattle.horsefile.proofs.Laws.Asked.{size-counted, all-cells}
use Rattle.horsefile.proofs.write_fits.Goals as goal

pub returns-then-legal_cells : goal.returns-then-legal_cells
returns-then-legal_cells c = search (rules, size-counted c.args.entries.now c.args.rows.now, all-cells c.args.rows.now)

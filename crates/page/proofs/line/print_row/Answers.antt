use native.Mathlib.Omega.{arith}
use mathlib.Core.Path.{◌∙◌}
use lib.ListN.{get_or}
use Rattle.std.proofs.Common.{rules}
use Rattle.std.proofs.iter.Serving.{serving}
use Rattle.limits.proofs.Laws.Made.{made}
use Rattle.page.specs.Page.{printed}
use Rattle.page.proofs.Laws.Line.{cell-legal, row_wrote}
use Rattle.page.proofs.line.print_row.Goals as goal

pub from_fn-text-requires : goal.from_fn-text-requires
from_fn-text-requires c = grind (serving, cell-legal c.args.row.now c.requires.0 c.requires.2)

pub returns : goal.returns
returns c =
    let text = made _ (λ k. printed (get_or c.args.row.now k 0)) _ (λ k x c' call. search rules) _ 16 c.from_fn-text.ensures.items in
    row_wrote c.args.at _ _ _ c.args.row.now c.requires.0 (c.copy_from_slice.ensures.after ∙ text) (omega arith)

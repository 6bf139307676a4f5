use Rattle.std.proofs.Common.{rules}
use Rattle.limits.proofs.Laws.Made.{made}
use Rattle.lines.specs.Input.{cell_at}
use Rattle.lines.proofs.input.supply_of.Goals as goal

pub returns : goal.returns
returns c = made _ (cell_at c.args.input.now) _ (λ k x c' call. search rules) _ 4080 c.from_fn.ensures.items

use mathlib.Core.Bool.{false}
use mathlib.Core.Path.{◌∙◌}
use lib.ListN.{get_or}
use Rattle.std.proofs.Common.{rules}
use Rattle.limits.proofs.Laws.Choice.{as-number}
use Rattle.limits.proofs.Laws.Lists.{all_read}
use Rattle.limits.proofs.Laws.Made.{made}
use Rattle.clinks.specs.Links.{bit}
use Rattle.clinks.proofs.bits_of.Goals as goal

pub returns : goal.returns
returns c =
    made _ (λ k. bit (get_or c.args.marks k false)) _ (λ k x c' call. search (rules, as-number)) _ 32 c.from_fn.ensures.items ∙ all_read bit false c.args.marks 32 (search rules)

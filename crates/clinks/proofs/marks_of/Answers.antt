use mathlib.Core.Path.{◌∙◌}
use lib.ListN.{get_or}
use Rattle.std.proofs.Common.{rules}
use Rattle.limits.proofs.Laws.Lists.{all_read}
use Rattle.limits.proofs.Laws.Made.{made}
use Rattle.clinks.specs.Links.{is_on}
use Rattle.clinks.proofs.marks_of.Goals as goal

pub returns : goal.returns
returns c =
    made _ (λ k. is_on (get_or c.args.xs k 0)) _ (λ k x c' call. search rules) _ 32 c.from_fn.ensures.items ∙ all_read is_on 0 c.args.xs 32 (search rules)

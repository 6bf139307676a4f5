use mathlib.Core.Path.{◌∙◌, ap}
use native.Mathlib.Omega.{arith}
use Rattle.events.specs.declared.Numbers.{Numbers}
use Rattle.clinks.specs.Links.{head_of}
use Rattle.clinks.proofs.Laws.Asked.{opened-small}
use Rattle.exports.proofs.Laws.Calls.{opened, no_numbers}
use Rattle.exports.proofs.open.Goals as goal

pub head_of-link-requires : goal.head_of-link-requires
head_of-link-requires c = let e = c.default.ensures in
    (rw c.limits_or_zeros.ensures (opened-small c.args.asked c.accept-opening.result c.accept-opening.ensures), omega (arith, e.0), omega (arith, e.1.0), omega (arith, e.1.1.0), omega (arith, e.1.1.1.0), omega (arith, e.1.1.1.1))

pub returns-clause-opened : goal.returns-clause-opened
returns-clause-opened c = opened c.args.asked c.limits_or_zeros.result c.accept-opening.result _ _ c.accept-opening.ensures c.limits_or_zeros.ensures
    (c.head_of-link.ensures ∙ ap (λ (n : Numbers). head_of c.limits_or_zeros.result n) (no_numbers c.default.result c.default.ensures)) c.number.ensures

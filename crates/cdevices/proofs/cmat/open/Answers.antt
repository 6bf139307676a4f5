use Rattle.clinks.proofs.Laws.Asked.{opened-small}
use Rattle.cdevices.proofs.Laws.Calls.{mat-opened}
use Rattle.cdevices.proofs.cmat.open.Goals as goal

pub limits_list-requires : goal.limits_list-requires
limits_list-requires c = rw c.limits_or_zeros.ensures (opened-small c.args.asked c.accept-opening.result c.accept-opening.ensures)

pub returns : goal.returns
returns c = mat-opened c.args.asked c.limits_or_zeros.result c.accept-opening.result _ _ c.accept-opening.ensures c.limits_or_zeros.ensures c.limits_list.ensures c.number.ensures

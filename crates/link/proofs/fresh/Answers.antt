use Rattle.link.proofs.Laws.Opening.{link-fresh}
use Rattle.link.proofs.fresh.Goals as goal

pub returns : goal.returns
returns c = link-fresh _ _ _ _ _ c.fresh.ensures c.fresh-2.ensures c.empty.ensures c.empty-2.ensures

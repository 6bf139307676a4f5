use Rattle.air.proofs.table.Table.remove.Goals as goal

pub returns : goal.returns
returns g c = c.remove.ensures g.row.N

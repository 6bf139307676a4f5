use Rattle.air.proofs.table.Table.put.Goals as goal

pub returns : goal.returns
returns g c = c.put.ensures g.row.N

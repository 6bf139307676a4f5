use Rattle.air.proofs.table.Table.tick.Goals as goal

pub returns : goal.returns
returns g c = c.tick.ensures g.row.N

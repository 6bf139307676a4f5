use Rattle.buffers.proofs.Laws.Writing.{write-number}
use Rattle.cfiles.proofs.write.Goals as goal

pub returns : goal.returns
returns c = rw (c.unwrap_or.ensures, c.number.ensures) (write-number _ _ _ _ _ c.write-written.ensures)

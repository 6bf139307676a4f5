use Rattle.buffers.proofs.Laws.Writing.{write-number}
use Rattle.exports.proofs.cpage.matlink_page.Goals as goal

pub returns : goal.returns
returns c = rw (c.unwrap_or.ensures, c.number.ensures) (write-number _ _ _ _ _ c.page-written.ensures)

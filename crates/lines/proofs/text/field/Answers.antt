use native.Mathlib.Omega.{arith}
use Rattle.buffers.proofs.Laws.Buffers.{both-wrote}
use Rattle.lines.proofs.Laws.Text.{decimal-most}
use Rattle.lines.proofs.text.field.Goals as goal

pub word-requires : goal.word-requires
word-requires c = let m = decimal-most c.args.n in omega arith

pub returns : goal.returns
returns c = both-wrote _ _ _ _ _ _ _ _ c.number-next.ensures c.word.ensures

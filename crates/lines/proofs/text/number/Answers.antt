use native.Mathlib.Omega.{arith}
use Rattle.buffers.proofs.Laws.Buffers.{same-wrote}
use Rattle.lines.proofs.Laws.Text.{one-digit, two_digits, three-digits}
use Rattle.lines.proofs.text.number.Goals as goal

pub returns-then-n-lt10 : goal.returns-then-n-lt10
returns-then-n-lt10 c = same-wrote _ _ _ _ _ _ (one-digit _ (omega arith)) c.word.ensures

pub returns-then-n-lt100 : goal.returns-then-n-lt100
returns-then-n-lt100 c = same-wrote _ _ _ _ _ _ (two_digits _ (omega arith) (omega arith)) c.word-then-n-lt100.ensures

pub returns-else-n-lt100 : goal.returns-else-n-lt100
returns-else-n-lt100 c = same-wrote _ _ _ _ _ _ (three-digits _ (omega arith)) c.word-else-n-lt100.ensures

use native.Mathlib.Omega.{arith}
use Rattle.report.proofs.Laws.Trial.{reported, not-reported}
use Rattle.report.proofs.report.Goals as goal

pub returns-then-output-lt245760 : goal.returns-then-output-lt245760
returns-then-output-lt245760 c = not-reported _ _ c.if-output-lt245760.true

pub returns : goal.returns
returns c = reported _ _ _ _ (omega arith) c.text.ensures

use native.Mathlib.Omega.{arith}
use Rattle.report.proofs.Laws.Trial.{reports-ok}
use Rattle.trial.proofs.main.Goals as goal

pub unwrap-count-requires : goal.unwrap-count-requires
unwrap-count-requires c = reports-ok _ _ _ _ (omega arith) c.report.ensures

use Rattle.ride.proofs.Laws.Rode.{rode-unopened, rode-run}
use Rattle.ride.proofs.ride.Goals as goal

pub returns-in_err-fresh : goal.returns-in_err-fresh
returns-in_err-fresh c = rode-unopened _ _ _ _ _ c.from_residual.result _ c.in_err-fresh.ensures c.from_residual.ensures.1

pub returns : goal.returns
returns c = rode-run _ _ _ _ _ _ c.in_ok-fresh.ensures _ _ _ _ c.run.ensures

use Rattle.report.proofs.Laws.Trial.{lines-text, refused-text}
use Rattle.report.proofs.text.Goals as goal

pub returns-in-Ok : goal.returns-in-Ok
returns-in-Ok c = lines-text _ _ _ _ c.in-Ok.ensures

pub returns-in-Err : goal.returns-in-Err
returns-in-Err c = refused-text _ _ _ _ _ _ _ c.in-Err.ensures c.from.ensures c.refused_line.ensures

use Rattle.lines.proofs.Laws.Text.{refused-wrote}
use Rattle.lines.proofs.text.refused_line.Goals as goal

pub returns : goal.returns
returns c = refused-wrote _ _ _ _ _ _ _ c.word-next.ensures c.field.ensures

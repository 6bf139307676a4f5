use Rattle.tables.proofs.Laws.Words.{put-words}
use Rattle.tables.proofs.put.Goals as goal

pub returns : goal.returns
returns c =
    let b = c in put-words b.args.width b.requires.0 b.args.count _ _ _ b.requires.1 b.requires.2 c.copy.ensures

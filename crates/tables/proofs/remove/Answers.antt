use native.Mathlib.Omega.{arith}
use Rattle.tables.proofs.Laws.Words.{ends_by, remove-words}
use Rattle.tables.proofs.remove.Goals as goal

pub close-requires : goal.close-requires
close-requires c = let b = c in let e = ends_by b.args.width b.args.p b.args.count b.requires.1 in (omega arith, omega arith)

pub returns : goal.returns
returns c =
    let b = c in remove-words b.args.width b.requires.0 b.args.count _ _ _ b.requires.1 b.requires.2 c.close.ensures

use native.Mathlib.Omega.{arith}
use Rattle.tables.proofs.Laws.Words.{slide-fits, slide_none}
use Rattle.tables.proofs.slide.Goals as goal

pub close-requires : goal.close-requires
close-requires c = let b = c in (slide-fits b.args.width b.args.from b.args.to b.args.n b.requires.1, omega arith)

pub returns-else-to-from : goal.returns-else-to-from
returns-else-to-from c = let b = c in slide_none b.args.width b.args.from b.args.to b.args.n _ (omega arith)

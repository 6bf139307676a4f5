use Rattle.std.proofs.Common.{rules}
use Rattle.horsefile.proofs.Laws.Current.{saved-entries}
use Rattle.horsefile.proofs.file_fits.Goals as goal

pub returns-then-without_gaps : goal.returns-then-without_gaps
returns-then-without_gaps c = search (rules, saved-entries c.args.file.now)

pub returns-else-without_gaps : goal.returns-else-without_gaps
returns-else-without_gaps c = search (rules, saved-entries c.args.file.now)

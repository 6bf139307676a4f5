use Rattle.std.proofs.Common.{◌≡◌}
use Rattle.page.proofs.Shades.{counted}
use Rattle.page.proofs.line.shade.Given as goal

abbrev pub invariant-loop-first : goal.invariant-loop-first
invariant-loop-first l = l.shade ≡ counted l.cell l.first-index

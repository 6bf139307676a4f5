use borrow.Author.Tests.{lt-ltb, le-ltb}
use Rattle.limits.specs.Tables.{sound_data}
use Rattle.limits.proofs.Laws.Choice.{and-goes-on, and-stops}
use Rattle.limits.proofs.Laws.Good.{good}
use mathlib.Core.Path.{◌∙◌}
use native.Mathlib.Omega.{arith}
use Rattle.rows.proofs.messages.data_sound.Goals as goal

pub overflow_mul-l : goal.overflow_mul-l
overflow_mul-l c = let g = good _ c.requires in omega arith

pub returns-then-data-l : goal.returns-then-data-l
unfolding sound_data
returns-then-data-l c = c.legal_row.ensures ∙ and-goes-on _ _ (lt-ltb _ _ c.if-data-l.true)

pub returns-else-data-l : goal.returns-else-data-l
unfolding sound_data
returns-else-data-l c = and-stops _ _ (le-ltb _ _ c.if-data-l.false)

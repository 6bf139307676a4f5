use Rattle.mat.proofs.Laws.Sound.{unmarked-sound}
use Rattle.mat.specs.View.{mat_of}
use Rattle.rows.proofs.Laws.Places.{none-at}
use mathlib.Core.Path.{sym, ◌∙◌}
use Rattle.mat.proofs.lentmat.marks_sound.Goals as goal

pub returns-then-none_set : goal.returns-then-none_set
returns-then-none_set c = λ timers cells.
    c.if-none_set.true
    ∙ sym (unmarked-sound c.args.w (mat_of c.args.oldest c.args.next c.args.marks.now timers cells) c.requires.0 c.requires.1 (none-at c.args.marks.now 32 _ c.none_set.ensures c.if-none_set.true))

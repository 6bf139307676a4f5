use Rattle.mat.specs.View.{mat_of, sound_mat}
use Rattle.mat.proofs.Laws.Sound.{numbers}
use Rattle.limits.proofs.Laws.Good.{good}
use Rattle.limits.proofs.Laws.Choice.{and-goes-on, and-stops}
use mathlib.Core.List.{[]}
use mathlib.Core.Path.{sym, ◌∙◌}
use Rattle.mat.proofs.lentmat.mat_sound.Goals as goal

pub marks_sound-requires : goal.marks_sound-requires
marks_sound-requires c = let g = good _ c.requires in let n = numbers _ (mat_of c.args.oldest c.args.next [] [] []) (sym (c.numbers_sound.ensures [] [] []) ∙ c.if-numbers_sound.true) in
    (g.window-low, g.window-high, n.oldest, n.next, n.out)

pub rows_sound-requires : goal.rows_sound-requires
rows_sound-requires c = let n = numbers _ (mat_of c.args.oldest c.args.next [] [] []) (sym (c.numbers_sound.ensures [] [] []) ∙ c.if-numbers_sound.true) in
    (c.requires, n.oldest, n.next, n.out)

pub returns-then-marks_sound : goal.returns-then-marks_sound
unfolding sound_mat
returns-then-marks_sound c =
    c.rows_sound.ensures []
    ∙ and-goes-on _ _ (sym (c.marks_sound.ensures [] []) ∙ c.if-marks_sound.true)
    ∙ and-goes-on _ _ (sym (c.numbers_sound.ensures [] [] []) ∙ c.if-numbers_sound.true)

pub returns-else-marks_sound : goal.returns-else-marks_sound
unfolding sound_mat
returns-else-marks_sound c =
    c.marks_sound.ensures [] []
    ∙ and-stops _ _ (sym (c.marks_sound.ensures [] []) ∙ c.if-marks_sound.false)
    ∙ and-goes-on _ _ (sym (c.numbers_sound.ensures [] [] []) ∙ c.if-numbers_sound.true)

pub returns-else-numbers_sound : goal.returns-else-numbers_sound
unfolding sound_mat
returns-else-numbers_sound c = c.numbers_sound.ensures [] [] [] ∙ and-stops _ _ (sym (c.numbers_sound.ensures [] [] []) ∙ c.if-numbers_sound.false)

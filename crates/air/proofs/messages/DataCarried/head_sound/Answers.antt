use Prim.Native.Nat.{◌+◌}
use mathlib.Core.Path.{refl, sym, ◌∙◌}
use native.Mathlib.Omega.{arith}
use lib.ListN.{get_or}
use Rattle.limits.proofs.Laws.Choice.{and-goes-on, and-stops}
use Rattle.limits.proofs.Laws.Good.{good}
use Rattle.air.specs.Laws.{data-headed}
use Rattle.air.proofs.messages.DataCarried.head_sound.Goals as goal

pub overflow_mul-result : goal.overflow_mul-result
overflow_mul-result c = let g = good _ c.requires.0 in omega arith

pub returns-then-within : goal.returns-then-within
returns-then-within c =
    and-goes-on _ _ (sym c.within.ensures ∙ c.if-within.true)
    ∙ data-headed c.args.words.now c.args.at c.args.l c.from.result c.requires.1 c.from.ensures

pub returns-else-within : goal.returns-else-within
returns-else-within c =
    c.within.ensures
    ∙ and-stops _ _ (sym c.within.ensures ∙ c.if-within.false)
    ∙ data-headed c.args.words.now c.args.at c.args.l (get_or c.args.words.now (c.args.at + 1) 0) c.requires.1 refl

use native.Mathlib.Omega.{arith}
use mathlib.Core.Path.{refl}
use Rattle.limits.specs.Limits.{least_wait}
use Rattle.limits.proofs.Laws.Good.{times}
use Rattle.limits.proofs.least_wait.Goals as goal

pub overflow_add-result : goal.overflow_add-result
overflow_add-result c = let t = times _ c.requires in omega arith

pub overflow_add-result-2 : goal.overflow_add-result-2
overflow_add-result-2 c = let t = times _ c.requires in omega arith

pub overflow_sub-result : goal.overflow_sub-result
overflow_sub-result c = let t = times _ c.requires in omega arith

pub returns : goal.returns
unfolding least_wait
returns c = refl

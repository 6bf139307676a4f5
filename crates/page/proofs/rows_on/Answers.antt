use native.Mathlib.Omega.{arith}
use Prim.Native.Nat.{◌-◌, ◌*◌}
use mathlib.Core.Path.{◌≡◌, ◌∙◌}
use Rattle.page.proofs.Laws.Page.{on-last, on-least}
use Rattle.page.proofs.rows_on.Goals as goal

pub returns-then-p-div_ceil : goal.returns-then-p-div_ceil
returns-then-p-div_ceil c = c.min.ensures ∙ on-least _ _

pub returns-else-p-div_ceil : goal.returns-else-p-div_ceil
returns-else-p-div_ceil c = let a = c.args in let none : 0 ≡ a.rows - 60 * a.p = omega arith in none ∙ on-last _ _ (omega arith)

-- The limits that an opening stores are numbers of C.
use Prim.Native.Nat.{◌<◌}
use mathlib.Core.Path.{sym}
use native.Mathlib.Omega.{arith}
use Rattle.std.specs.Prelude.{Result, Ok, Err}
use Rattle.limits.specs.declared.answer.Refusal.{Refusal}
use Rattle.limits.specs.declared.Limits.{Limits}
use Rattle.limits.specs.Limits.{limits_questions, accepted}
use Rattle.limits.specs.Questions.{Answered}
use Rattle.limits.proofs.Laws.Good.{good, accepted-sound}
use Rattle.clinks.specs.Asked.{limits_or_zeros}

-- the window that an opening stores is small
pub opened-small : (l : Limits) (r : Result Limits Refusal) → Answered (limits_questions l) r (accepted l) → (limits_or_zeros r).window < 65536
opened-small l (Ok m) c = let g = good (accepted l) (accepted-sound l (sym c.number)) in rw c.value (let h = g.window-high in omega arith)
opened-small l (Err refusal) c = omega arith

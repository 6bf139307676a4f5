use mathlib.Core.Path.{◌≡◌}
use Prim.Native.Nat.{◌≤◌}
use Rattle.limits.specs.Lists.{tab, all}
use Rattle.tables.specs.Words.{message_at}
use Rattle.air.proofs.lent.table_sound.Given as goal

abbrev pub invariant-loop-i : goal.invariant-loop-i
invariant-loop-i g l = (l.count ≤ 32) × (l.good ≡ all (g.M.Carried.form.head l.l) (tab l.i (message_at g.M.Carried.form.width l.words)))

use native.Mathlib.Omega.{arith}
use mathlib.Core.Path.{refl}
use Rattle.std.proofs.lemmas.Grind.{common_steps}
use Rattle.buffers.specs.Buffers.{wrote}
use Rattle.buffers.proofs.word.Goals as goal

pub returns : goal.returns
unfolding wrote
returns c = let h = c.copy_from_slice.ensures in record { buffer = grind (arith, common_steps); behind = refl }

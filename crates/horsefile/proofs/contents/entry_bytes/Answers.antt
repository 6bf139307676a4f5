use native.Mathlib.Omega.{arith}
use mathlib.Core.List.{◌∷◌, ◌++◌}
use Rattle.buffers.proofs.Laws.Numbers.{stored2, stored4}
use Rattle.horsefile.proofs.contents.entry_bytes.Goals as goal

pub returns : goal.returns
returns c =
    let e = c.args.entry.now in
    let horse = stored2 e.saved.horse (omega arith) in
    let rows = stored2 e.saved.rows (omega arith) in
    let start = stored4 e.start (omega arith) in
    rw (c.to_le_bytes.ensures, c.to_le_bytes-2.ensures, c.to_le_bytes-3.ensures) (λ i. horse i ++ (e.saved.leg ∷ e.saved.save ∷ (rows i ++ start i)))

-- Laws on the text of the trial.
use Prim.Native.Nat.{ℕ, ◌+◌, ◌*◌, ◌≤◌}
use mathlib.Core.Path.{◌≡◌, refl, ap}
use mathlib.Core.List.{List, [], ◌∷◌, ◌++◌}
use native.Mathlib.Omega.{arith}
use lib.ListN.{length, length-append}
use Rattle.buffers.specs.Buffers.{Wrote}
use Rattle.lines.specs.Text.{event_line, event_lines}
use Rattle.lines.proofs.Laws.Lines.{line-most}

-- answers behind those of the events are not read
pub lines-front : (events answers rest : List ℕ) → length events ≤ 2 * length answers + 1 → event_lines events (answers ++ rest) ≡ event_lines events answers
unfolding event_lines
lines-front [] answers rest h = refl
lines-front (kind ∷ []) answers rest h = refl
lines-front (kind ∷ argument ∷ events) [] rest h = absurd (omega arith)
lines-front (kind ∷ argument ∷ events) (answer ∷ answers) rest h =
    ap (event_line kind argument answer ++◌) (lines-front events answers rest (omega arith))

pub lines-most : (events answers : List ℕ) → length (event_lines events answers) ≤ 6 * length events
unfolding event_lines
lines-most [] answers = omega arith
lines-most (kind ∷ []) answers = omega arith
lines-most (kind ∷ argument ∷ events) [] = omega arith
lines-most (kind ∷ argument ∷ events) (answer ∷ answers) =
    let l = length-append (event_line kind argument answer) (event_lines events answers) in
    let m = line-most kind argument answer in
    let h = lines-most events answers in omega arith

-- behind the lines of the events there is room for that of the counts
pub lines-room : (events answers xs ys : List ℕ) (p : ℕ) → Wrote 0 (event_lines events answers) xs ys p → p ≤ 6 * length events
lines-room events answers xs ys p w = let m = lines-most events answers in omega arith

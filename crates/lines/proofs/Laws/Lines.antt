-- Laws on the loop that writes a line for each event.
use Prim.Native.Nat.{ℕ, ◌+◌, ◌≤◌}
use mathlib.Core.Path.{◌≡◌, refl, ◌∙◌, ap₂}
use mathlib.Core.List.{List, [], ◌∷◌, ◌++◌}
use native.Mathlib.Omega.{arith}
use lib.ListN.{length, get_or, length-append}
use Rattle.buffers.specs.Buffers.{Wrote}
use Rattle.buffers.proofs.Laws.Buffers.{Left, left-turn, left_end}
use Rattle.lines.specs.Text.{event_line, event_lines}
use Rattle.lines.proofs.Laws.Text.{decimal-most}

-- the lines of events that are left: one more, and none
first-line : (event events : List ℕ) (answer : ℕ) (answers : List ℕ) → length event ≡ 2
    → event_lines (event ++ events) (answer ∷ answers) ≡ event_line (get_or event 0 0) (get_or event 1 0) answer ++ event_lines events answers
unfolding event_lines
first-line [] events answer answers h = absurd (omega arith)
first-line (kind ∷ []) events answer answers h = absurd (omega arith)
first-line (kind ∷ argument ∷ []) events answer answers h = refl
first-line (kind ∷ argument ∷ more ∷ rest) events answer answers h = absurd (omega arith)

few-lines : (events answers : List ℕ) → length events ≤ 1 → event_lines events answers ≡ []
unfolding event_lines
few-lines [] answers h = refl
few-lines (kind ∷ []) answers h = refl
few-lines (kind ∷ argument ∷ events) answers h = absurd (omega arith)

pub line-most : (kind argument answer : ℕ) → length (event_line kind argument answer) ≤ 12
unfolding event_line
line-most kind argument answer =
    let a = decimal-most kind in
    let b = decimal-most argument in
    let c = decimal-most answer in
    simp length-append (omega arith)

pub line-room : (kind argument answer p q : ℕ) (ys zs : List ℕ) → Wrote p (event_line kind argument answer) ys zs q → q ≤ p + 12
line-room kind argument answer p q ys zs w = let m = line-most kind argument answer in omega arith

-- the loop: a turn, and its end
module _ (at : ℕ) (text xs : List ℕ) (p : ℕ) (events answers ys : List ℕ) (l : Left at text xs p (event_lines events answers) ys) where
  pub lines-turn : (event events' : List ℕ) (answer : ℕ) (answers' : List ℕ) (q : ℕ) (zs : List ℕ) → events ≡ event ++ events' → length event ≡ 2
      → answers ≡ answer ∷ answers' → Wrote p (event_line (get_or event 0 0) (get_or event 1 0) answer) ys zs q
      → Left at text xs q (event_lines events' answers') zs
  lines-turn event events' answer answers' q zs e h f w =
      left-turn at text xs p _ _ _ ys zs q l (ap₂ event_lines e f ∙ first-line event events' answer answers' h) w

  pub lines-done : length events ≤ 1 → Wrote at text xs ys p
  lines-done h = left_end at text xs p _ ys l (few-lines events answers h)

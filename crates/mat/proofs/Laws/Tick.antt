-- Time passes: the new window, and that the mat stays sound.
use Prim.Native.Nat.{ℕ, ◌+◌, ◌-◌, ◌%◌, ◌<◌}
use mathlib.Core.Path.{◌≡◌, sym, ◌∙◌, ap}
use mathlib.Core.Bool.{true}
use mathlib.Core.List.{List}
use native.Mathlib.Omega.{arith}
use native.Mathlib.Nat.{mod-lt}
use lib.ListN.{length, get_or, get_or-eq_default}
use Rattle.limits.specs.declared.Limits.{Limits}
use Rattle.limits.proofs.Laws.Choice.{split}
use Rattle.limits.proofs.Laws.Lists.{tab-ext, map-tab}
use Rattle.rows.specs.Arrays.{from_to, fallen}
use Rattle.rows.proofs.Laws.Changed.{length-changed, changed-at, inside}
use Rattle.mat.specs.declared.Mat.{Mat}
use Rattle.mat.specs.Rules.{ticked}
use Rattle.mat.specs.View.{mat_of, mat_state, sound_mat}
use Rattle.mat.proofs.Laws.Sound.{Facts, sound-of}

abbrev pub later : ℕ → ℕ → Mat → Mat
later w d m = record { oldest = m.oldest; next = m.next; marks = m.marks; timers = fallen w d m.timers; cells = m.cells }

-- A lent array does not tell its length: an entry beyond the end reads 0, before and after.
fell-at : (n d : ℕ) (xs : List ℕ) (i : ℕ) → i < n → get_or (fallen n d xs) i 0 ≡ get_or xs i 0 - d
unfolding fallen
fell-at n d xs i h =
    split (length xs) i
    (λ o. get_or-eq_default (fallen n d xs) 0 (let k = length-changed 0 (λ j. from_to 0 n j) (λ j. get_or xs j 0 - d) xs in omega arith)
    ∙ (let e = get_or-eq_default xs 0 o in omega arith))
    (λ o. changed-at 0 _ _ xs i o (inside 0 n i (omega arith) h))

module _ (l : Limits) (m : Mat) (d : ℕ) (f : Facts l m) where
  pub later-shown : mat_state l.window (later l.window d m) ≡ ticked d (mat_state l.window m)
  unfolding mat_state ticked
  later-shown =
      ap (λ ts. record { oldest = m.oldest; next = m.next; rows = (mat_state l.window m).rows; timers = ts })
      (tab-ext l.window _ _
      (λ i h. fell-at l.window d m.timers ((m.next + i) % l.window) (mod-lt (m.next + i) (let g = f.limits in omega arith)))
      ∙ sym (map-tab (λ t. t - d) l.window _))

  pub later-sound : sound_mat l (later l.window d m) ≡ true
  later-sound =
      sound-of l (later l.window d m)
      (record {
        limits = f.limits;
        numbers = record { oldest = f.numbers.oldest; next = f.numbers.next; out = f.numbers.out };
        front = f.front;
        others = f.others;
        timers = λ i h. let e = fell-at l.window d m.timers i h in let b = f.timers i h in omega arith;
        cells = f.cells;
      })

  -- the mat that the code makes
  module _ (fell : List ℕ) (e : fell ≡ fallen l.window d m.timers) where
    pub fell-shown : mat_state l.window (mat_of m.oldest m.next m.marks fell m.cells) ≡ ticked d (mat_state l.window m)
    fell-shown = rw e later-shown

    pub fell-sound : sound_mat l (mat_of m.oldest m.next m.marks fell m.cells) ≡ true
    fell-sound = rw e later-sound

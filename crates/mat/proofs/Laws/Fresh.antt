-- A fresh mat is sound and has no row outstanding.
use Prim.Native.Nat.{ℕ, ◌+◌, ◌*◌, ◌%◌, ◌≤◌, ◌<◌}
use mathlib.Core.Path.{◌≡◌, ◌∙◌, ap, ap₂}
use mathlib.Core.Bool.{true, false}
use mathlib.Core.List.{[]}
use native.Mathlib.Omega.{arith}
use native.Mathlib.Nat.{mod-lt}
use lib.ListN.{get_or, get_or-replicate}
use Rattle.limits.specs.declared.Limits.{Limits}
use Rattle.limits.specs.Lists.{tab}
use Rattle.limits.specs.Limits.{sound_limits}
use Rattle.limits.proofs.Laws.Lists.{tab-ext}
use Rattle.limits.proofs.Laws.Good.{good}
use Rattle.limits.proofs.Laws.Ring.{distance-on}
use Rattle.mat.specs.View.{outstanding_of, mark_at, cells_at, mat_state, fresh_mat, sound_mat}
use Rattle.mat.proofs.Laws.Sound.{sound-of}

module _ (w : ℕ) (some : 1 ≤ w) (most : w ≤ 32) where
  place-fits : (a : ℕ) → a % w < 32
  place-fits a = let b = mod-lt a {m = w} (omega arith) in omega arith

  fresh-out : outstanding_of w fresh_mat ≡ 0
  fresh-out = distance-on (2 * w) 0 0 (omega arith) (omega arith) ∙ omega arith

  fresh-mark : (k : ℕ) → mark_at w fresh_mat k ≡ false
  fresh-mark k = get_or-replicate 32 ((0 + k) % w) false false (place-fits (0 + k))

  pub fresh-state : mat_state w fresh_mat ≡ record { oldest = 0; next = 0; rows = []; timers = tab w (λ i. 0) }
  unfolding mat_state tab
  fresh-state =
      ap₂ (λ rs ts. record { oldest = 0; next = 0; rows = rs; timers = ts })
      (ap (λ n. tab n (λ k. record { acknowledged = mark_at w fresh_mat k; cells = cells_at w fresh_mat k })) fresh-out)
      (tab-ext w _ _ (λ i k. get_or-replicate 32 ((0 + i) % w) 0 0 (place-fits (0 + i))))

module _ (l : Limits) (h : sound_limits l ≡ true) where
  pub fresh-sound : sound_mat l fresh_mat ≡ true
  fresh-sound =
      let g = good l h in let o = fresh-out l.window g.window-low g.window-high in
      sound-of l fresh_mat
      (record {
        limits = g;
        numbers = record { oldest = omega arith; next = omega arith; out = omega arith };
        front = fresh-mark l.window g.window-low g.window-high 0;
        others = λ k a b. fresh-mark l.window g.window-low g.window-high k;
        timers = λ i k. let e : get_or fresh_mat.timers i 0 ≡ 0 = get_or-replicate 32 i 0 0 (omega arith) in omega arith;
        cells = λ k a. absurd (omega arith);
      })

-- A row kept as row next: the new window, and that the mat stays sound.
use Prim.Native.Nat.{ℕ, ◌+◌, ◌-◌, ◌*◌, ◌%◌, ◌≤◌, ◌<◌}
use mathlib.Core.Path.{◌≡◌, refl, sym, ◌∙◌, ap, ap₂}
use mathlib.Core.Bool.{true, false}
use mathlib.Core.List.{List, [], ◌∷◌, ◌++◌}
use native.Mathlib.Omega.{arith}
use native.Mathlib.Nat.{mod-lt, add-mod_right}
use lib.ListN.{get_or, length, set, take, drop}
use lib.Seq.{get_or-set_same, take_all, take-take}
use borrow.Author.Tests.{ne_eqb}
use Rattle.limits.specs.declared.Limits.{Limits}
use Rattle.limits.specs.Lists.{tab}
use Rattle.limits.specs.Cells.{row_at, legal_row}
use Rattle.limits.specs.Ring.{step}
use Rattle.limits.proofs.Laws.Choice.{split, pick_no}
use Rattle.limits.proofs.Laws.Lists.{tab-ext, tab-more, drop-tab}
use Rattle.limits.proofs.Laws.Ring.{distance-on-by, step_fits, place-of-step, place-at-distance, place-inj}
use Rattle.rows.specs.Arrays.{written}
use Rattle.rows.proofs.Laws.Cells.{written_same, written-other}
use Rattle.rows.proofs.Laws.Places.{set-place}
use Rattle.mat.specs.declared.Mat.{Mat}
use Rattle.mat.specs.Window.{Kept, MatState}
use Rattle.mat.specs.Rules.{Sending, sending}
use Rattle.mat.specs.View.{mat_of, outstanding_of, mark_at, cells_at, mat_state, sound_mat}
use Rattle.mat.proofs.Laws.Sound.{Numbers, Facts, sound-of, set-most}

-- the mat with `row` at the place of next, its timer at `wait`, and next one further
abbrev pub keeping : ℕ → ℕ → Mat → List ℕ → Mat
keeping w wait m row =
    record {
      oldest = m.oldest;
      next = step (2 * w) m.next 1;
      marks = m.marks;
      timers = set m.timers (m.next % w) wait;
      cells = written (16 * (m.next % w)) row m.cells;
    }

module _ (w wait : ℕ) (m : Mat) (row : List ℕ) (low : 1 ≤ w) (high : w ≤ 32) (n : Numbers w m) (fits : outstanding_of w m < w)
    (timers : length m.timers ≡ 32) (cells : length m.cells ≡ 512) (sixteen : length row ≡ 16) where
  pub out-more : outstanding_of w (keeping w wait m row) ≡ outstanding_of w m + 1
  out-more = distance-on-by (2 * w) m.oldest m.next 1 n.oldest n.next (omega arith)

  -- next is the number `outstanding` on from oldest
  next_place : m.next % w ≡ (m.oldest + outstanding_of w m) % w
  next_place = place-at-distance w m.oldest m.next n.oldest n.next

  place-fits : (a : ℕ) → a % w < 32
  place-fits a = let h = mod-lt a {m = w} (omega arith) in omega arith

  pub new-cells : cells_at w (keeping w wait m row) (outstanding_of w m) ≡ row
  new-cells =
      ap (λ p. row_at (written (16 * p) row m.cells) ((m.oldest + outstanding_of w m) % w)) next_place
      ∙ written_same ((m.oldest + outstanding_of w m) % w) row m.cells cells (place-fits _) sixteen

  pub old-cells : (k : ℕ) → k < outstanding_of w m → cells_at w (keeping w wait m row) k ≡ cells_at w m k
  old-cells k h =
      written-other (m.next % w) ((m.oldest + k) % w) row m.cells cells (place-fits _)
      (λ e. let q = place-inj w m.oldest k (outstanding_of w m) (omega arith) fits (e ∙ next_place) in omega arith)

  new-timer : (i : ℕ) → i + 1 < w → get_or (set m.timers (m.next % w) wait) ((step (2 * w) m.next 1 + i) % w) 0 ≡ get_or m.timers ((m.next + (1 + i)) % w) 0
  new-timer i h =
      ap (λ p. get_or (set m.timers (m.next % w) wait) p 0) (place-of-step w m.next 1 i)
      ∙ ap (λ p. get_or (set m.timers (p % w) wait) ((m.next + (1 + i)) % w) 0) {x = m.next} {y = m.next + 0} (omega arith)
      ∙ set-place w m.next 0 (1 + i) (omega arith) (omega arith) m.timers wait 0 (omega arith)
      ∙ pick_no _ _ _ _ (ne_eqb (1 + i) 0 (λ e. omega arith)) refl

  last-timer : get_or (set m.timers (m.next % w) wait) ((step (2 * w) m.next 1 + (w - 1)) % w) 0 ≡ wait
  last-timer =
      ap (λ p. get_or (set m.timers (m.next % w) wait) p 0)
      (place-of-step w m.next 1 (w - 1) ∙ ap (◌% w) {x = m.next + (1 + (w - 1))} {y = m.next + w} (omega arith) ∙ add-mod_right m.next w)
      ∙ get_or-set_same m.timers (m.next % w) wait 0 (let h = place-fits m.next in omega arith)

  timers-slide : tab w (λ i. get_or (keeping w wait m row).timers (((keeping w wait m row).next + i) % w) 0)
      ≡ drop 1 (tab w (λ i. get_or m.timers ((m.next + i) % w) 0)) ++ (wait ∷ [])
  timers-slide =
      ap (λ x. tab x (λ i. get_or (keeping w wait m row).timers (((keeping w wait m row).next + i) % w) 0)) {x = w} {y = w - 1 + 1} (omega arith)
      ∙ tab-more (w - 1) _
      ∙ ap₂ (λ xs x. xs ++ (x ∷ [])) (tab-ext (w - 1) _ _ (λ i h. new-timer i (omega arith)) ∙ sym (drop-tab 1 w _)) last-timer

  -- what the mat shows afterwards
  module _ (unmarked : mark_at w m (outstanding_of w m) ≡ false) where
    pub rows_grow : (mat_state w (keeping w wait m row)).rows ≡ (mat_state w m).rows ++ (record { acknowledged = false; cells = row } ∷ [])
    unfolding mat_state
    rows_grow =
        ap (λ x. tab x (λ k. record { acknowledged = mark_at w (keeping w wait m row) k; cells = cells_at w (keeping w wait m row) k })) out-more
        ∙ tab-more (outstanding_of w m) _
        ∙ ap₂ (λ xs x. xs ++ (x ∷ []))
        (tab-ext (outstanding_of w m) _ _ (λ k h. ap (λ cs. record { acknowledged = mark_at w m k; cells = cs }) (old-cells k h)))
        (ap₂ (λ b cs. record { acknowledged = b; cells = cs }) unmarked new-cells)

module _ (l : Limits) (m : Mat) (row : List ℕ) (f : Facts l m) (fits : outstanding_of l.window m < l.window)
    (timers : length m.timers ≡ 32) (cells : length m.cells ≡ 512) (sixteen : length row ≡ 16) where
  made : List Kept → List ℕ → List ℕ → Sending
  made rs ts r =
      record {
        state = record { oldest = m.oldest; next = step (2 * l.window) m.next 1; rows = rs; timers = ts };
        message = record { number = m.next; row = r };
      }

  pub keeping-shown : record { state = mat_state l.window (keeping l.window l.resendwait m row); message = record { number = m.next; row = row } }
      ≡ sending l (mat_state l.window m) row
  unfolding mat_state sending made
  keeping-shown =
      ap₂ (λ rs ts. made rs ts row)
      (rows_grow l.window l.resendwait m row f.limits.window-low f.limits.window-high f.numbers fits timers cells sixteen
      (f.others _ (omega arith) fits))
      (timers-slide l.window l.resendwait m row f.limits.window-low f.limits.window-high f.numbers fits timers cells sixteen)
      ∙ ap (λ r. made ((mat_state l.window m).rows ++ (record { acknowledged = false; cells = r } ∷ []))
      (drop 1 (mat_state l.window m).timers ++ (l.resendwait ∷ [])) r) (sym (take_all 16 row (omega arith)))

  pub keeping-sound : legal_row row ≡ true → sound_mat l (keeping l.window l.resendwait m row) ≡ true
  keeping-sound legal =
      let more = out-more l.window l.resendwait m row f.limits.window-low f.limits.window-high f.numbers fits timers cells sixteen in
      sound-of l (keeping l.window l.resendwait m row)
      (record {
        limits = f.limits;
        numbers =
            record {
              oldest = f.numbers.oldest;
              next = step_fits (2 * l.window) m.next 1 (let g = f.limits in omega arith);
              out = omega arith;
            };
        front = f.front;
        others = λ k a b. f.others k (omega arith) b;
        timers = set-most m.timers l.window (m.next % l.window) l.resendwait l.resendwait (let g = f.limits in omega arith) (omega arith) f.timers;
        cells = λ k h.
            split (outstanding_of l.window m) k
            (λ a. ap (λ j. legal_row (cells_at l.window (keeping l.window l.resendwait m row) j)) {x = k} {y = outstanding_of l.window m} (omega arith)
            ∙ ap legal_row (new-cells l.window l.resendwait m row f.limits.window-low f.limits.window-high f.numbers fits timers cells sixteen)
            ∙ legal)
            (λ a. ap legal_row (old-cells l.window l.resendwait m row f.limits.window-low f.limits.window-high f.numbers fits timers cells sixteen k a)
            ∙ f.cells k a);
      })

  -- the mat that the code makes, field by field
  module _ (next at : ℕ) (timed stored : List ℕ) (a : at ≡ m.next % l.window) (n : next ≡ step (2 * l.window) m.next 1)
      (t : timed ≡ set m.timers at l.resendwait) (s : stored ≡ written (16 * at) row m.cells) where
    as-kept : mat_of m.oldest next m.marks timed stored ≡ keeping l.window l.resendwait m row
    as-kept = rw (t, s, a, n)

    pub kept-sound : legal_row row ≡ true
        → sound_mat l (mat_of m.oldest next m.marks timed stored) ≡ true
    kept-sound legal = ap (sound_mat l) as-kept ∙ keeping-sound legal

    pub kept-shown : record {
      state = mat_state l.window (mat_of m.oldest next m.marks timed stored);
      message = record { number = m.next; row = row };
    }
        ≡ sending l (mat_state l.window m) row
    kept-shown = ap (λ x. record { state = mat_state l.window x; message = record { number = m.next; row = row } }) as-kept ∙ keeping-shown

-- sending looks at the first row of the supply alone
pub sending-row : (l : Limits) (s : MatState) (row supply : List ℕ) → row ≡ take 16 supply → sending l s row ≡ sending l s supply
unfolding sending
sending-row l s row supply e =
    ap (λ r. record {
      state =
          record {
            oldest = s.oldest;
            next = step (2 * l.window) s.next 1;
            rows = s.rows ++ (record { acknowledged = false; cells = r } ∷ []);
            timers = drop 1 s.timers ++ (l.resendwait ∷ []);
          };
      message = record { number = s.next; row = r };
    }) (ap (take 16) e ∙ take-take 16 16 supply (omega arith))

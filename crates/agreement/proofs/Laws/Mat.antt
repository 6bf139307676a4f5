-- The mat's window over numbers without end: rows from oldest to next, and the resend timers of the last w numbers.
use Prim.Native.Nat.{ℕ, ◌+◌, ◌-◌, ◌*◌, ◌%◌, ◌≤◌, ◌<◌}
use mathlib.Core.Path.{◌≡◌, refl, sym, ◌∙◌, ap, ap₂}
use mathlib.Core.Bool.{Bool, false, ◌&&◌, ◌||◌}
use mathlib.Core.List.{List, [], ◌∷◌, ◌++◌, map}
use native.Mathlib.Omega.{arith}
use lib.Dec.{eqb, leb, ltb}
use lib.ListN.{length, get_or, drop, set}
use borrow.Author.Tests.{le-leb, lt-leb, eqb-true, eqb-false, eq-eqb, ne_eqb}
use Rattle.limits.specs.Lists.{tab, leading}
use Rattle.limits.specs.Questions.{pick}
use Rattle.limits.proofs.Laws.Choice.{split, test, pick_yes, pick_no}
use Rattle.limits.proofs.Laws.Lists.{length-tab, get_or-tab, tab-ext, tab-more, drop-tab, set-tab, map-tab, leading-agree}
use Rattle.mat.specs.Window.{Kept}
use Rattle.mat.specs.Rules.{ticked}
use Rattle.unbounded.specs.Ends.{Ends, at}
use Rattle.unbounded.specs.Rules.{later}
use Rattle.agreement.specs.Reading.{mat_of}
use Rattle.agreement.proofs.Laws.Tests.{leb-leb, ltb-leb}
use Rattle.agreement.proofs.Laws.At.{at_own}
use Rattle.unbounded.proofs.Laws.Base.{at_same, at_other}

abbrev pub kept : (ℕ → Bool) → (ℕ → List ℕ) → ℕ → Kept
kept marks rows m = record { acknowledged = marks m; cells = rows m }

-- the timer of row n - w + i, and 0 where there is no such row
abbrev pub before : ℕ → ℕ → (ℕ → ℕ) → ℕ → ℕ
before w n timer i = pick (leb w (n + i)) (timer (n + i - w)) 0

module _ (w n : ℕ) where
  -- the same numbers and the same timers of them
  before_same : (n' i j : ℕ) (f g : ℕ → ℕ) → n + i ≡ n' + j → (w ≤ n + i → f (n + i - w) ≡ g (n + i - w)) → before w n f i ≡ before w n' g j
  before_same n' i j f g e same =
      split w (n + i)
      (λ h. pick_yes _ _ _ _ (le-leb w (n + i) h) (same h ∙ ap (λ x. g (x - w)) e) ∙ sym (pick_yes _ _ _ _ (le-leb w (n' + j) (omega arith)) refl))
      (λ h. pick_no _ _ _ _ (lt-leb w (n + i) h) refl ∙ sym (pick_no _ _ _ _ (lt-leb w (n' + j) (omega arith)) refl))

  -- where the timer of row o + k stands
  pub timer-before : (o k : ℕ) (f : ℕ → ℕ) → n ≤ o + w → k < n - o → get_or (tab w (before w n f)) (w - (n - o) + k) 0 ≡ f (o + k)
  timer-before o k f high h =
      get_or-tab w (before w n f) (w - (n - o) + k) 0 (omega arith)
      ∙ pick_yes _ _ _ _ (le-leb w (n + (w - (n - o) + k)) (omega arith)) (ap f {x = n + (w - (n - o) + k) - w} {y = o + k} (omega arith))

  -- row n is sent
  pub timers-sent : (wait : ℕ) (f : ℕ → ℕ) → 1 ≤ w → drop 1 (tab w (before w n f)) ++ (wait ∷ []) ≡ tab w (before w (n + 1) (at n wait f))
  timers-sent wait f some =
      ap₂ (λ xs x. xs ++ (x ∷ []))
      (drop-tab 1 w (before w n f)
      ∙ tab-ext (w - 1) _ _ (λ i h. before_same (n + 1) (1 + i) i f (at n wait f) (omega arith) (λ k. sym (at_other n wait f (n + (1 + i) - w) (ne_eqb (n + (1 + i) - w) n (λ e. omega arith))))))
      (sym (pick_yes _ _ _ _ (le-leb w (n + 1 + (w - 1)) (omega arith)) (at_same n wait f (n + 1 + (w - 1) - w) (eq-eqb (n + 1 + (w - 1) - w) n (omega arith)))))
      ∙ sym (tab-more (w - 1) (before w (n + 1) (at n wait f)))
      ∙ ap (λ x. tab x (before w (n + 1) (at n wait f))) {x = w - 1 + 1} {y = w} (omega arith)

  -- row o + k is sent again
  pub timers-resent : (o k wait : ℕ) (f : ℕ → ℕ) → n ≤ o + w → k < n - o
      → set (tab w (before w n f)) (w - (n - o) + k) wait ≡ tab w (before w n (at (o + k) wait f))
  timers-resent o k wait f high h =
      set-tab w (before w n f) (w - (n - o) + k) wait
      ∙ tab-ext w _ _
      (λ i j. test (eqb i (w - (n - o) + k))
      (λ e. let q = eqb-true i (w - (n - o) + k) e in
      pick_yes _ _ _ _ e refl ∙ sym (pick_yes _ _ _ _ (le-leb w (n + i) (omega arith)) (at_same (o + k) wait f (n + i - w) (eq-eqb (n + i - w) (o + k) (omega arith)))))
      (λ e. let q = eqb-false i (w - (n - o) + k) e in
      pick_no _ _ _ _ e refl ∙ before_same n i i f (at (o + k) wait f) refl (λ a. sym (at_other (o + k) wait f (n + i - w) (ne_eqb (n + i - w) (o + k) (λ b. q (omega arith)))))))

  pub timers-later : (d : ℕ) (f : ℕ → ℕ) → map (λ t. t - d) (tab w (before w n f)) ≡ tab w (before w n (λ m. f m - d))
  timers-later d f =
      map-tab (λ t. t - d) w (before w n f)
      ∙ tab-ext w _ _
      (λ i h. test (leb w (n + i))
      (λ e. ap (◌- d) (pick_yes (leb w (n + i)) (f (n + i - w)) 0 _ e refl) ∙ sym (pick_yes _ _ _ _ e refl))
      (λ e. ap (◌- d) (pick_no (leb w (n + i)) (f (n + i - w)) 0 _ e refl) ∙ (let z : 0 - d ≡ 0 = omega arith in z) ∙ sym (pick_no _ _ _ _ e refl)))

-- the rows from o to n - 1
abbrev pub window : ℕ → ℕ → (ℕ → Bool) → (ℕ → List ℕ) → List Kept
window o n marks rows = tab (n - o) (λ i. kept marks rows (o + i))

module _ (o n : ℕ) (marks : ℕ → Bool) (rows : ℕ → List ℕ) where
  pub window-length : length (window o n marks rows) ≡ n - o
  window-length = length-tab (n - o) (λ i. kept marks rows (o + i))

  pub window-at : (k : ℕ) (d : Kept) → k < n - o → get_or (window o n marks rows) k d ≡ kept marks rows (o + k)
  window-at k d h = get_or-tab (n - o) (λ i. kept marks rows (o + i)) k d h

  -- row n is sent
  pub rows-sent : (row : List ℕ) → o ≤ n → marks n ≡ false
      → window o n marks rows ++ (record { acknowledged = false; cells = row } ∷ []) ≡ window o (n + 1) marks (at n row rows)
  rows-sent row h e =
      ap₂ (λ xs x. xs ++ (x ∷ []))
      (tab-ext (n - o) _ _ (λ i j. ap (λ r. record { acknowledged = marks (o + i); cells = r }) (sym (at_other n row rows (o + i) (ne_eqb (o + i) n (λ q. omega arith))))))
      (ap₂ (λ b r. record { acknowledged = b; cells = r })
      (sym (ap marks {x = o + (n - o)} {y = n} (omega arith) ∙ e)) (sym (at_same n row rows (o + (n - o)) (eq-eqb (o + (n - o)) n (omega arith)))))
      ∙ sym (tab-more (n - o) (λ i. kept marks (at n row rows) (o + i)))
      ∙ ap (λ x. tab x (λ i. kept marks (at n row rows) (o + i))) {x = n - o + 1} {y = n + 1 - o} (omega arith)

  pub rows-resent : (m : ℕ) → window o n marks rows ≡ window o n marks (at m (rows m) rows)
  rows-resent m = tab-ext (n - o) _ _ (λ i h. ap (λ r. record { acknowledged = marks (o + i); cells = r }) (sym (at_own m rows (o + i))))

  -- the front is passed
  pub rows-passed : (k : ℕ) → drop k (window o n marks rows) ≡ window (o + k) n marks rows
  rows-passed k =
      drop-tab k (n - o) (λ i. kept marks rows (o + i))
      ∙ ap (λ x. tab x (λ i. kept marks rows (o + (k + i)))) {x = n - o - k} {y = n - (o + k)} (omega arith)
      ∙ tab-ext (n - (o + k)) _ _ (λ i h. ap (kept marks rows) {x = o + (k + i)} {y = o + k + i} (omega arith))

  pub front-agrees : leading (λ (k : Kept). k.acknowledged) (window o n marks rows) ≡ leading marks (tab (n - o) (λ i. o + i))
  front-agrees = leading-agree (λ (k : Kept). k.acknowledged) marks (n - o) (λ i. kept marks rows (o + i)) (λ i. o + i) (λ i h. refl)

-- the marks with those from first to last added
abbrev pub also : (ℕ → Bool) → ℕ → ℕ → ℕ → Bool
also marks first last m = marks m || (leb first m && leb m last)

-- whether row o + k is among them, counted from o as 0
pub span-agrees : (o first last from count k : ℕ) → o ≤ first → first ≤ last → from ≡ first - o → count ≡ last - first + 1
    → (leb from k && ltb k (from + count)) ≡ (leb first (o + k) && leb (o + k) last)
span-agrees o first last from count k h j a b =
    ap₂ ◌&&◌
    (leb-leb from k first (o + k) (λ x. omega arith) (λ x. omega arith))
    (ltb-leb k (from + count) (o + k) last (λ x. omega arith) (λ x. omega arith))

pub rows-marked : (o n : ℕ) (marks : ℕ → Bool) (rows : ℕ → List ℕ) (first last from count : ℕ) (d : Kept) → o ≤ first → first ≤ last → from ≡ first - o → count ≡ last - first + 1
    → tab (length (window o n marks rows)) (λ k. record {
      acknowledged = (get_or (window o n marks rows) k d).acknowledged || (leb from k && ltb k (from + count));
      cells = (get_or (window o n marks rows) k d).cells;
    })
    ≡ window o n (also marks first last) rows
rows-marked o n marks rows first last from count d h j a b =
    ap (λ x. tab x (λ k. record {
      acknowledged = (get_or (window o n marks rows) k d).acknowledged || (leb from k && ltb k (from + count));
      cells = (get_or (window o n marks rows) k d).cells;
    })) (window-length o n marks rows)
    ∙ tab-ext (n - o) _ _
    (λ k i. ap₂ (λ (x : Kept) z. record { acknowledged = x.acknowledged || z; cells = x.cells })
    (window-at o n marks rows k d i) (span-agrees o first last from count k h j a b))

-- the mat's part of a tick
pub mat-later : (w d : ℕ) (s : Ends) → ticked d (mat_of w s) ≡ mat_of w (later d s)
unfolding ticked
mat-later w d s =
    ap (λ ts. record { oldest = s.oldest % (2 * w); next = s.next % (2 * w); rows = (mat_of w s).rows; timers = ts }) (timers-later w s.next d s.resend_timer)

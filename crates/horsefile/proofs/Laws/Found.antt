-- Laws on what a lookup finds, by what was saved.
use Prim.Native.Nat.{ℕ, ◌+◌, ◌-◌, ◌*◌, ◌/◌}
use mathlib.Core.Path.{◌≡◌, refl, sym, ◌∙◌, ap, ap₂}
use mathlib.Core.Bool.{true}
use mathlib.Core.List.{List, [], ◌∷◌, map}
use native.Mathlib.Omega.{arith}
use lib.ListN.{length}
use borrow.Author.Tests.{eqb-true}
use Rattle.limits.specs.Lists.{tab}
use Rattle.limits.specs.Questions.{pick}
use Rattle.limits.proofs.Laws.Choice.{and_left, and_right, pick-map}
use Rattle.limits.proofs.Laws.Lists.{take-tab, drop-tab, tab-ext}
use Rattle.buffers.specs.Bytes.{number2, cells_at}
use lib.Dec.{eqb}
use Rattle.horsefile.specs.declared.Saved.{Saved}
use Rattle.horsefile.specs.declared.Entry.{Entry}
use Rattle.horsefile.specs.Layout.{count, contents, bodies_at, body_bytes}
use Rattle.horsefile.specs.Rules.{saved_of, without_gaps, supersedes, highest, no_entry, current}
use Rattle.horsefile.specs.Meanings.{Kept, kept, kept_in, all_saved, under_highest}
use Rattle.horsefile.proofs.Laws.Asked.{Fits}
use Rattle.horsefile.proofs.Laws.Placed.{gaps-order, gaps-size}

pub saved-kept : (saved : List Saved) (cells : List ℕ) → all_saved (kept saved cells) ≡ saved
unfolding kept
saved-kept [] cells = refl
saved-kept (s ∷ rest) cells = ap (s ∷◌) (saved-kept rest _)

highest-map : {X Y : Type 0} (saved : Y → Saved) (f : X → Y) (horse leg : ℕ) (xs : List X) (best : X)
    → highest saved horse leg (f best) (map f xs) ≡ f (highest (λ x. saved (f x)) horse leg best xs)
unfolding highest
highest-map saved f horse leg [] best = refl
highest-map saved f horse leg (x ∷ xs) best =
    ap (λ y. highest saved horse leg y (map f xs)) (pick-map f (supersedes horse leg (saved (f x)) (saved (f best))) x best)
    ∙ highest-map saved f horse leg xs (pick (supersedes horse leg (saved (f x)) (saved (f best))) x best)

module _ (file : List ℕ) where
  -- an entry, with the cells of its body
  abbrev pub with_cells : Entry → Kept
  with_cells e = record { saved = e.saved; cells = cells_at file e.start (16 * e.saved.rows) }

  kept-entries : (at n : ℕ) (es : List Entry) → without_gaps at es (length file) ≡ true → length file ≡ at + 2 * n
      → kept (saved_of es) (cells_at file at n) ≡ map with_cells es
  unfolding kept without_gaps
  kept-entries at n [] e q = refl
  kept-entries at n (x ∷ es) e q =
      let behind = and_right (eqb x.start at) _ e in
      let s = eqb-true x.start at (and_left (eqb x.start at) _ e) in
      let o = gaps-order (length file) (at + body_bytes x.saved) es behind in
      ap₂ (λ cells (rest : List Kept). record { saved = x.saved; cells = cells } ∷ rest)
      (take-tab (16 * x.saved.rows) n (λ k. number2 file (at + 2 * k)) (omega arith) ∙ ap (λ k. cells_at file k (16 * x.saved.rows)) (sym s))
      (ap (kept (saved_of es))
      (drop-tab (16 * x.saved.rows) n (λ k. number2 file (at + 2 * k))
      ∙ tab-ext (n - 16 * x.saved.rows) _ _ (λ k h. ap (number2 file) {x = at + 2 * (16 * x.saved.rows + k)} {y = at + body_bytes x.saved + 2 * k} (omega arith)))
      ∙ kept-entries (at + body_bytes x.saved) (n - 16 * x.saved.rows) es behind (omega arith))

  pub latest-in : Fits file → (horse leg : ℕ) → under_highest horse leg (kept_in file) ≡ with_cells (current horse leg (contents file))
  unfolding tab
  latest-in f horse leg =
      let l = f.long in
      let s = gaps-size (length file) (bodies_at (count file)) (contents file) f.gaps in
      ap (under_highest horse leg) (kept-entries (bodies_at (count file)) ((length file - bodies_at (count file)) / 2) (contents file) f.gaps (omega arith))
      ∙ highest-map (λ (k : Kept). k.saved) with_cells horse leg (contents file) no_entry

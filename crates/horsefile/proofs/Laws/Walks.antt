-- Laws on loops over the entries: what is left to be looked at is the end of a list, from entry i on, and x is entry i.
use Prim.Native.Nat.{ℕ, ◌+◌, ◌≤◌, ◌<◌}
use mathlib.Core.Path.{◌≡◌, sym, ◌∙◌, ap}
use mathlib.Core.Bool.{Bool, true, false, not}
use mathlib.Core.List.{[], ◌∷◌}
use lib.Dec.{eqb}
use lib.ListN.{drop}
use Rattle.limits.specs.Questions.{pick}
use Rattle.limits.specs.Lists.{tab, all}
use Rattle.limits.proofs.Laws.Choice.{and-no-left, and-goes-on}
use Rattle.limits.proofs.Laws.Parts.{rest-none, rest-next}
use Rattle.horsefile.specs.declared.Saved.{Saved}
use Rattle.horsefile.specs.declared.Entry.{Entry}
use Rattle.horsefile.specs.Layout.{body_bytes, placed, rows_of}
use Rattle.horsefile.specs.Rules.{without_gaps, same_save, saved_once, supersedes, highest}

module _ (n : ℕ) (f : ℕ → Entry) (i at end : ℕ) where
  pub gaps-end : n ≤ i → eqb at end ≡ without_gaps at (drop i (tab n f)) end
  unfolding without_gaps
  gaps-end h = ap (λ es. without_gaps at es end) (sym (rest-none n f i h))

  module _ (x : Entry) (e : x ≡ f i) (h : i < n) where
    pub gaps-turn : (next : ℕ) → eqb x.start at ≡ true → next ≡ at + body_bytes x.saved
        → without_gaps at (drop i (tab n f)) end ≡ without_gaps next (drop (i + 1) (tab n f)) end
    unfolding without_gaps
    gaps-turn next q o =
        ap (λ es. without_gaps at es end) (rest-next n f i x e h)
        ∙ sym (and-goes-on (eqb x.start at) _ q)
        ∙ ap (λ k. without_gaps k (drop (i + 1) (tab n f)) end) (sym o)

    pub gaps-stop : eqb x.start at ≡ false → false ≡ without_gaps at (drop i (tab n f)) end
    unfolding without_gaps
    gaps-stop q = sym (ap (λ es. without_gaps at es end) (rest-next n f i x e h) ∙ and-no-left (eqb x.start at) _ q)

module _ (n : ℕ) (f : ℕ → Saved) (i : ℕ) where
  pub once-end : n ≤ i → true ≡ saved_once (drop i (tab n f))
  unfolding saved_once
  once-end h = ap saved_once (sym (rest-none n f i h))

  pub rows-end : n ≤ i → rows_of (drop i (tab n f)) ≡ 0
  unfolding rows_of
  rows-end h = ap rows_of (rest-none n f i h)

  pub placed-end : (at : ℕ) → n ≤ i → placed at (drop i (tab n f)) ≡ []
  unfolding placed
  placed-end at h = ap (placed at) (rest-none n f i h)

  module _ (x : Saved) (e : x ≡ f i) (h : i < n) where
    abbrev pub none_same : Bool
    none_same = all (λ t. not (same_save x t)) (drop (i + 1) (tab n f))

    pub once-turn : none_same ≡ true → saved_once (drop i (tab n f)) ≡ saved_once (drop (i + 1) (tab n f))
    unfolding saved_once
    once-turn q = ap saved_once (rest-next n f i x e h) ∙ sym (and-goes-on none_same _ q)

    pub once-stop : none_same ≡ false → false ≡ saved_once (drop i (tab n f))
    unfolding saved_once
    once-stop q = sym (ap saved_once (rest-next n f i x e h) ∙ and-no-left none_same _ q)

    pub rows-turn : rows_of (drop i (tab n f)) ≡ x.rows + rows_of (drop (i + 1) (tab n f))
    unfolding rows_of
    rows-turn = ap rows_of (rest-next n f i x e h)

    pub placed-turn : (at : ℕ) → placed at (drop i (tab n f)) ≡ record { saved = x; start = at } ∷ placed (at + body_bytes x) (drop (i + 1) (tab n f))
    unfolding placed
    placed-turn at = ap (placed at) (rest-next n f i x e h)

module _ {X : Type 0} (saved : X → Saved) (horse leg : ℕ) (n : ℕ) (f : ℕ → X) (i : ℕ) (best : X) where
  pub highest-end : n ≤ i → best ≡ highest saved horse leg best (drop i (tab n f))
  unfolding highest
  highest-end h = ap (highest saved horse leg best) (sym (rest-none n f i h))

  pub highest-turn : (x : X) → x ≡ f i → i < n → (next : X) → next ≡ pick (supersedes horse leg (saved x) (saved best)) x best
      → highest saved horse leg best (drop i (tab n f)) ≡ highest saved horse leg next (drop (i + 1) (tab n f))
  unfolding highest
  highest-turn x e h next q =
      ap (highest saved horse leg best) (rest-next n f i x e h) ∙ ap (λ y. highest saved horse leg y (drop (i + 1) (tab n f))) (sym q)

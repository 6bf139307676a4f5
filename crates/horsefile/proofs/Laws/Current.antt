-- Laws on the entry with the highest save.
use Prim.Native.Nat.{ℕ, suc, ◌+◌, ◌*◌, ◌≤◌, ◌<◌}
use mathlib.Core.Path.{◌≡◌, refl, sym, ◌∙◌, ap}
use mathlib.Core.Bool.{Bool, true, false}
use mathlib.Core.List.{List, [], ◌∷◌}
use native.Mathlib.Omega.{arith}
use lib.Dec.{leb}
use lib.ListN.{length, get_or}
use borrow.Author.Tests.{leb-true, leb-false, ltb-false}
use Rattle.limits.specs.Limits.{between}
use Rattle.limits.specs.Questions.{pick}
use Rattle.limits.specs.Lists.{all, how_many}
use Rattle.limits.proofs.Laws.Choice.{pick_yes, pick_no, pick-cases, and_left, and_right, and-no-left, and-goes-on, test}
use Rattle.limits.proofs.Laws.Lists.{map-tab, all_map, all-at}
use Rattle.limits.proofs.Laws.Parts.{how_many-map}
use Rattle.horsefile.specs.declared.Saved.{Saved}
use Rattle.horsefile.specs.declared.Entry.{Entry}
use Rattle.horsefile.specs.Layout.{contents, entries_in, entry_at, saved_from, body_bytes}
use Rattle.horsefile.specs.Rules.{legal_entry, of_leg, supersedes, highest, saved_of, entered, current, no_entry}
use Rattle.horsefile.proofs.Laws.Asked.{Fits}
use Rattle.horsefile.proofs.Laws.Placed.{ends_by, gaps-inside}

module _ {X : Type 0} (saved : X → Saved) (horse leg : ℕ) where
  abbrev pub is_of : X → Bool
  is_of x = of_leg horse leg (saved x)

  abbrev pub next_best : X → X → X
  next_best x best = pick (supersedes horse leg (saved x) (saved best)) x best

  -- where there is one of the horse and leg, its save is not 0
  found : (xs : List X) (best : X) → all (λ x. legal_entry (saved x)) xs ≡ true → 1 ≤ (saved best).save + how_many is_of xs
      → 1 ≤ (saved (highest saved horse leg best xs)).save
  unfolding all how_many highest
  found [] best e h = omega arith
  found (x ∷ xs) best e h =
      test (is_of x)
      (λ o. found xs (next_best x best) later (pick-cases (λ y. 1 ≤ (saved y).save + how_many is_of xs) (supersedes horse leg (saved x) (saved best)) x best
      (λ s. let l = one in omega arith)
      (λ s. let l = one in let b = ltb-false (saved best).save (saved x).save (and-goes-on (is_of x) _ o ∙ s) in omega arith)))
      (λ o. rw (pick_no (supersedes horse leg (saved x) (saved best)) x best best (and-no-left (is_of x) _ o) refl)
      (found xs best later (let n = pick_no (is_of x) (how_many is_of xs + 1) (how_many is_of xs) _ o refl in omega arith)))
    where
      later : all (λ y. legal_entry (saved y)) xs ≡ true
      later = and_right (legal_entry (saved x)) _ e

      one : 1 ≤ (saved x).save
      one = leb-true 1 (saved x).save (and_right (between 1 6 (saved x).leg) (leb 1 (saved x).save) (and_left (legal_entry (saved x)) _ e))

  not-found : (xs : List X) (best : X) → how_many is_of xs ≡ 0 → highest saved horse leg best xs ≡ best
  unfolding how_many highest
  not-found [] best e = refl
  not-found (x ∷ xs) best e =
      test (is_of x)
      (λ o. absurd (let n = pick_yes (is_of x) (how_many is_of xs + 1) (how_many is_of xs) _ o refl in omega arith))
      (λ o. ap (λ y. highest saved horse leg y xs) (pick_no _ x best best (and-no-left (is_of x) _ o) refl)
      ∙ not-found xs best (sym (pick_no (is_of x) (how_many is_of xs + 1) (how_many is_of xs) _ o refl) ∙ e))

  -- what is known of the first one and of each of the horse and leg is known of the highest
  pub highest-has : (P : X → Type 0) (d : X) (xs : List X) (best : X)
      → ((i : ℕ) → i < length xs → of_leg horse leg (saved (get_or xs i d)) ≡ true → P (get_or xs i d)) → P best → P (highest saved horse leg best xs)
  unfolding highest
  highest-has P d [] best each first = first
  highest-has P d (x ∷ xs) best each first =
      highest-has P d xs _ (λ i h o. each (suc i) (omega arith) o)
      (pick-cases P (supersedes horse leg (saved x) (saved best)) x best (λ s. each 0 (omega arith) (and_left (of_leg horse leg (saved x)) _ s)) (λ s. first))

-- the entry that a lookup finds lies in the file, and its save is 0 where none was entered, and only there
module _ (file : List ℕ) (horse leg : ℕ) (f : Fits file) where
  abbrev pub best : Entry
  best = current horse leg (contents file)

  pub best-inside : best.start + body_bytes best.saved ≤ length file
  best-inside =
      highest-has (λ (e : Entry). e.saved) horse leg (λ (e : Entry). e.start + body_bytes e.saved ≤ length file) no_entry (contents file) no_entry
      (λ i h o. leb-true _ _ (all-at (ends_by (length file)) (contents file) i no_entry h (gaps-inside (length file) _ _ f.gaps)))
      (omega arith)

  pub best-missing : best.saved.save ≡ 0 → entered horse leg (saved_of (contents file)) ≡ false
  best-missing e =
      let m = how_many-map (of_leg horse leg) (λ (e : Entry). e.saved) (contents file) in
      test (entered horse leg (saved_of (contents file)))
      (λ y. absurd (let h = leb-true 1 (how_many (of_leg horse leg) (saved_of (contents file))) y in
      let g = found (λ (e : Entry). e.saved) horse leg (contents file) no_entry
      (sym (all_map legal_entry (λ (e : Entry). e.saved) (contents file)) ∙ f.entries_legal)
      (omega arith) in
      omega arith))
      (λ n. n)

  pub best-there : 1 ≤ best.saved.save → entered horse leg (saved_of (contents file)) ≡ true
  best-there h =
      let m = how_many-map (of_leg horse leg) (λ (e : Entry). e.saved) (contents file) in
      test (entered horse leg (saved_of (contents file)))
      (λ y. y)
      (λ n. absurd (let l = leb-false 1 (how_many (of_leg horse leg) (saved_of (contents file))) n in
      let z = ap (λ (e : Entry). e.saved.save) (not-found (λ (e : Entry). e.saved) horse leg (contents file) no_entry (omega arith)) in
      omega arith))

-- what the n entries of a file say of what was saved
pub saved-entries : (file : List ℕ) (n : ℕ) → saved_of (entries_in file n) ≡ saved_from file 1 10 n
saved-entries file n = map-tab (λ (e : Entry). e.saved) n (λ i. entry_at file (1 + 10 * i))

-- Laws on entries whose bodies stand one behind the other.
use Prim.Native.Nat.{ℕ, ◌+◌, ◌*◌, ◌≤◌}
use mathlib.Core.Path.{◌≡◌, refl, sym, ap, ap₂}
use mathlib.Core.Bool.{Bool, true, ◌&&◌}
use mathlib.Core.List.{List, [], ◌∷◌, ◌++◌}
use native.Mathlib.Omega.{arith}
use lib.Dec.{eqb, leb}
use lib.ListN.{length}
use borrow.Author.Tests.{le-leb, leb-true, eq-eqb, eqb-true}
use Rattle.limits.specs.Lists.{tab, all}
use Rattle.limits.proofs.Laws.Choice.{and_left, and_right, both}
use Rattle.limits.proofs.Laws.Lists.{all-tab}
use Rattle.buffers.specs.Bytes.{byte, Bytes, number2, bytes4}
use Rattle.horsefile.specs.declared.Saved.{Saved}
use Rattle.horsefile.specs.declared.Entry.{Entry}
use Rattle.horsefile.specs.Layout.{saved_at, saved_bytes, entry_at, entry_bytes, body_bytes, placed, rows_of}
use Rattle.horsefile.specs.Rules.{without_gaps, saved_of}
use Rattle.buffers.proofs.Laws.Numbers.{two, four}

pub saved-again : (s : Saved) (rest : List ℕ) → saved_at (saved_bytes s ++ rest) 0 ≡ s
saved-again s rest = λ i. record { horse = two s.horse i; leg = s.leg; save = s.save; rows = two s.rows i }

pub entry-again : (x : Entry) (rest : List ℕ) → entry_at (entry_bytes x ++ rest) 0 ≡ x
entry-again x rest = λ i. record { saved = saved-again x.saved (bytes4 x.start ++ rest) i; start = four x.start i }

-- numbers that their bytes hold
abbrev pub small_saved : Saved → Bool
small_saved s = leb s.horse 65535 && (leb s.rows 65535 && (leb s.leg 255 && leb s.save 255))

-- what was read from bytes, wherever it stands
pub saved-small : (bytes : List ℕ) → Bytes bytes → (n : ℕ) (place : ℕ → ℕ) → all small_saved (tab n (λ i. saved_at bytes (place i))) ≡ true
saved-small bytes b n place =
    all-tab small_saved n (λ i. saved_at bytes (place i)) (λ i h.
    let p = b (place i) in let q = b (place i + 1) in let r = b (place i + 4) in let s = b (place i + 4 + 1) in
    both (leb (number2 bytes (place i)) 65535) _ (le-leb (number2 bytes (place i)) 65535 (omega arith))
    (both (leb (number2 bytes (place i + 4)) 65535) _ (le-leb (number2 bytes (place i + 4)) 65535 (omega arith))
    (both (leb (byte bytes (place i + 2)) 255) (leb (byte bytes (place i + 3)) 255)
    (le-leb (byte bytes (place i + 2)) 255 (let l = b (place i + 2) in omega arith)) (le-leb (byte bytes (place i + 3)) 255 (let l = b (place i + 3) in omega arith)))))

pub rows-most : (saved : List Saved) → all small_saved saved ≡ true → rows_of saved ≤ 65535 * length saved
unfolding all rows_of
rows-most [] e = omega arith
rows-most (s ∷ rest) e =
    let h = leb-true s.rows 65535 (and_left (leb s.rows 65535) _ (and_right (leb s.horse 65535) _ (and_left (small_saved s) _ e))) in
    let m = rows-most rest (and_right (small_saved s) _ e) in
    omega arith

pub length-placed : (at : ℕ) (saved : List Saved) → length (placed at saved) ≡ length saved
unfolding placed
length-placed at [] = refl
length-placed at (s ∷ rest) = let l = length-placed (at + body_bytes s) rest in omega arith

pub saved-placed : (at : ℕ) (saved : List Saved) → saved_of (placed at saved) ≡ saved
unfolding placed
saved-placed at [] = refl
saved-placed at (s ∷ rest) = ap (s ∷◌) (saved-placed (at + body_bytes s) rest)

pub placed-gaps : (at : ℕ) (saved : List Saved) (end : ℕ) → end ≡ at + 32 * rows_of saved
    → without_gaps at (placed at saved) end ≡ true
unfolding placed rows_of without_gaps
placed-gaps at [] end h = eq-eqb at end (omega arith)
placed-gaps at (s ∷ rest) end h =
    both (eqb at at) _ (eq-eqb at at refl) (placed-gaps (at + body_bytes s) rest end (omega arith))

-- a body that lies in a file of so many bytes
abbrev pub ends_by : ℕ → Entry → Bool
ends_by end e = leb (e.start + body_bytes e.saved) end

module _ (end : ℕ) where
  pub gaps-placed : (at : ℕ) (es : List Entry) → without_gaps at es end ≡ true → placed at (saved_of es) ≡ es
  unfolding placed without_gaps
  gaps-placed at [] e = refl
  gaps-placed at (x ∷ es) e =
      let s = eqb-true x.start at (and_left (eqb x.start at) _ e) in
      ap₂ (λ (k : ℕ) rest. record { saved = x.saved; start = k } ∷ rest) (sym s) (gaps-placed (at + body_bytes x.saved) es (and_right (eqb x.start at) _ e))

  pub gaps-size : (at : ℕ) (es : List Entry) → without_gaps at es end ≡ true → end ≡ at + 32 * rows_of (saved_of es)
  unfolding without_gaps rows_of
  gaps-size at [] e = let q = eqb-true at end e in omega arith
  gaps-size at (x ∷ es) e = let q = gaps-size (at + body_bytes x.saved) es (and_right (eqb x.start at) _ e) in omega arith

  pub gaps-order : (at : ℕ) (es : List Entry) → without_gaps at es end ≡ true → at ≤ end
  gaps-order at es e = let q = gaps-size at es e in omega arith

  pub gaps-inside : (at : ℕ) (es : List Entry) → without_gaps at es end ≡ true → all (ends_by end) es ≡ true
  unfolding without_gaps all
  gaps-inside at [] e = refl
  gaps-inside at (x ∷ es) e =
      let behind = and_right (eqb x.start at) _ e in
      let s = eqb-true x.start at (and_left (eqb x.start at) _ e) in
      let o = gaps-order (at + body_bytes x.saved) es behind in
      both (ends_by end x) _ (le-leb _ _ (omega arith)) (gaps-inside (at + body_bytes x.saved) es behind)

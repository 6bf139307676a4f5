-- Laws on the questions 33 and 34, which readers and writers put alike.
use Prim.Native.Nat.{ℕ, ◌+◌, ◌-◌, ◌*◌, ◌%◌, ◌/◌, ◌≤◌}
use mathlib.Core.Path.{◌≡◌, refl, sym, ap}
use mathlib.Core.Bool.{Bool, true, false}
use mathlib.Core.List.{List, [], ◌∷◌}
use lib.Dec.{eqb, leb}
use lib.ListN.{length, take, drop}
use lib.Seq.{take_all}
use borrow.Author.Tests.{leb-true, eqb-true}
use Rattle.limits.specs.Lists.{all}
use Rattle.limits.proofs.Laws.Lists.{length-tab}
use native.Mathlib.Omega.{arith}
use Rattle.limits.specs.Cells.{legal_cell}
use Rattle.limits.specs.Questions.{Question, ask, first_no}
use Rattle.limits.proofs.Laws.Choice.{pick_yes, pick_no, and_left, and_right}
use Rattle.limits.proofs.Laws.Questions.{each, numbered}
use Rattle.horsefile.specs.Layout.{count, contents, bodies_at, cells_in, saved_at, saved_in, rows_of, size_of}
use Rattle.horsefile.specs.Rules.{saved_once, legal_entry, saved_of, without_gaps, file_fits, write_fits, write_questions}

module _ (fits unique : Bool) where
  abbrev pub asked : List Question
  asked = ask 33 fits ∷ ask 34 unique ∷ []

  pub bad : fits ≡ false → 33 ≡ first_no asked
  bad e = sym (pick_no fits _ _ _ e refl)

  pub twice : fits ≡ true → unique ≡ false → 34 ≡ first_no asked
  twice e u = sym (pick_yes fits _ _ _ e (pick_no unique _ _ _ u refl))

  pub good : fits ≡ true → unique ≡ true → 0 ≡ first_no asked
  good e u = sym (pick_yes fits _ _ _ e (pick_yes unique _ _ _ u refl))

  pub asked-numbered : numbered asked ≡ true
  unfolding all
  asked-numbered = refl

  pub both-passed : first_no asked ≡ 0 → (fits ≡ true) × (unique ≡ true)
  both-passed e = let p = each asked asked-numbered e in (p.0, p.1.0)

-- what a writer was handed: the size of the file
pub size-counted : (entries cells : List ℕ) → length cells ≡ 16 * rows_of (saved_in entries)
    → bodies_at (length entries / 6) + 2 * length cells ≡ size_of (saved_in entries)
size-counted entries cells e = let l = length-tab (length entries / 6) (λ i. saved_at entries (0 + 6 * i)) in omega arith

pub all-cells : (cells : List ℕ) → all legal_cell (take (length cells - 0) (drop 0 cells)) ≡ all legal_cell cells
all-cells cells = ap (all legal_cell) (take_all (length cells - 0) cells (omega arith))

-- a file of which 33 is answered yes
pub record Fits (file : List ℕ) : Type 0 where
  pub few : count file ≤ 64
  pub long : bodies_at (count file) ≤ length file
  pub entries_legal : all legal_entry (saved_of (contents file)) ≡ true
  pub gaps : without_gaps (bodies_at (count file)) (contents file) (length file) ≡ true
  pub legal : all legal_cell (cells_in file) ≡ true

pub fits : (file : List ℕ) → file_fits file ≡ true → Fits file
fits file e =
    let a = leb (count file) 64 in
    let b = leb (bodies_at (count file)) (length file) in
    let l = all legal_entry (saved_of (contents file)) in
    let g = without_gaps (bodies_at (count file)) (contents file) (length file) in
    let p1 = and_right a _ e in
    let p2 = and_right b _ p1 in
    let p3 = and_right l _ p2 in
    record {
      few = leb-true _ _ (and_left a _ e);
      long = leb-true _ _ (and_left b _ p1);
      entries_legal = and_left l _ p2;
      gaps = and_left g _ p3;
      legal = and_right g _ p3;
    }

-- and what a writer was handed
pub record Writes (entries cells : List ℕ) (room : ℕ) : Type 0 where
  pub whole : length entries % 6 ≡ 0
  pub few : length entries / 6 ≤ 64
  pub entries_legal : all legal_entry (saved_in entries) ≡ true
  pub counted : length cells ≡ 16 * rows_of (saved_in entries)
  pub cells_legal : all legal_cell cells ≡ true
  pub room_for : bodies_at (length entries / 6) + 2 * length cells ≤ room

pub writes : (entries cells : List ℕ) (room : ℕ) → write_fits entries cells room ≡ true → Writes entries cells room
writes entries cells room e =
    let a = eqb (length entries % 6) 0 in
    let b = leb (length entries / 6) 64 in
    let l = all legal_entry (saved_in entries) in
    let d = eqb (length cells) (16 * rows_of (saved_in entries)) in
    let f = all legal_cell cells in
    let p1 = and_right a _ e in
    let p2 = and_right b _ p1 in
    let p3 = and_right l _ p2 in
    let p4 = and_right d _ p3 in
    let counted = eqb-true _ _ (and_left d _ p3) in
    let s = size-counted entries cells counted in
    record {
      whole = eqb-true _ _ (and_left a _ e);
      few = leb-true _ _ (and_left b _ p1);
      entries_legal = and_left l _ p2;
      counted = counted;
      cells_legal = and_left f _ p4;
      room_for = (let r = leb-true (size_of (saved_in entries)) room (and_right f _ p4) in omega arith);
    }

pub write-passed : (entries cells : List ℕ) (room : ℕ) → first_no (write_questions entries cells room) ≡ 0 → Writes entries cells room
write-passed entries cells room e = writes entries cells room (both-passed (write_fits entries cells room) (saved_once (saved_in entries)) e).0

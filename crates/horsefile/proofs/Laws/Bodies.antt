-- Laws on the cells of bodies, read from bytes.
use Prim.Native.Nat.{ℕ, suc, ◌+◌, ◌-◌, ◌*◌, ◌/◌, ◌<◌}
use mathlib.Core.Path.{◌≡◌, sym, ◌∙◌, ap, ap₂}
use mathlib.Core.Bool.{Bool, ◌&&◌, and_assoc, and-true}
use mathlib.Core.List.{List, [], ◌∷◌, ◌++◌}
use native.Mathlib.Omega.{arith}
use lib.Dec.{leb}
use lib.ListN.{length, drop}
use lib.Seq.{get_or-drop}
use Rattle.limits.specs.Cells.{legal_cell}
use Rattle.limits.specs.Lists.{tab, all}
use Rattle.limits.proofs.Laws.Lists.{tab-ext, split-tab}
use Rattle.buffers.specs.Bytes.{byte, number2, cells_at}

-- the cells from a place on are those of what is left from there
cells-from : (bytes : List ℕ) (at n : ℕ) → cells_at bytes at n ≡ cells_at (drop at bytes) 0 n
cells-from bytes at n =
    tab-ext n _ _ (λ k h.
    ap₂ (λ a b. a + 256 * b)
    (ap (byte bytes) {x = at + 2 * k} {y = at + (0 + 2 * k)} (omega arith) ∙ sym (get_or-drop at bytes (0 + 2 * k) 0))
    (ap (byte bytes) {x = at + 2 * k + 1} {y = at + (0 + 2 * k + 1)} (omega arith) ∙ sym (get_or-drop at bytes (0 + 2 * k + 1) 0)))

-- two bytes in front are a cell in front
cells-front : (x rest : List ℕ) → length x ≡ 2
    → cells_at (x ++ rest) 0 (length (x ++ rest) / 2) ≡ number2 x 0 ∷ cells_at rest 0 (length rest / 2)
unfolding tab
cells-front [] rest l = absurd (omega arith)
cells-front (a ∷ []) rest l = absurd (omega arith)
cells-front (a ∷ b ∷ z ∷ more) rest l = absurd (omega arith)
cells-front (a ∷ b ∷ []) rest l =
    ap (cells_at (a ∷ b ∷ rest) 0) {x = suc (suc (length rest)) / 2} {y = 1 + length rest / 2} (omega arith)
    ∙ split-tab 1 (1 + length rest / 2) (λ k. number2 (a ∷ b ∷ rest) (0 + 2 * k)) (omega arith)
    ∙ ap (λ cells. (a + 256 * b) ∷ cells)
    (ap (λ n. tab n (λ i. number2 (a ∷ b ∷ rest) (0 + 2 * (1 + i)))) {x = 1 + length rest / 2 - 1} {y = length rest / 2} (omega arith)
    ∙ tab-ext (length rest / 2) _ _ (λ i h.
    ap₂ (λ low high. low + 256 * high)
    (ap (byte (a ∷ b ∷ rest)) {x = 0 + 2 * (1 + i)} {y = suc (suc (0 + 2 * i))} (omega arith))
    (ap (byte (a ∷ b ∷ rest)) {x = 0 + 2 * (1 + i) + 1} {y = suc (suc (0 + 2 * i + 1))} (omega arith))))

cells-none : (bytes : List ℕ) → length bytes < 2 → cells_at bytes 0 (length bytes / 2) ≡ []
unfolding tab
cells-none bytes h = ap (cells_at bytes 0) {x = length bytes / 2} {y = 0} (omega arith)

-- the loop that tests each cell and keeps the greatest level: where it starts, a turn, and where it ends
module _ (all_legal : Bool) where
  pub bodies-start : (file : List ℕ) (at : ℕ) (rest : List ℕ) (n : ℕ) → all_legal ≡ all legal_cell (cells_at file at n) → rest ≡ drop at file → n ≡ length rest / 2
      → all_legal ≡ (leb 0 4096 && all legal_cell (cells_at rest 0 (length rest / 2)))
  bodies-start file at rest n e q o =
      e ∙ ap (all legal_cell) (cells-from file at n ∙ ap₂ (λ bytes k. cells_at bytes 0 k) (sym q) o)

  module _ (most : ℕ) (bytes : List ℕ) (e : all_legal ≡ (leb most 4096 && all legal_cell (cells_at bytes 0 (length bytes / 2)))) where
    pub bodies-turn : (x rest : List ℕ) (level next : ℕ) → bytes ≡ x ++ rest → length x ≡ 2 → leb level 4096 ≡ legal_cell (number2 x 0)
        → leb next 4096 ≡ (leb most 4096 && leb level 4096)
        → all_legal ≡ (leb next 4096 && all legal_cell (cells_at rest 0 (length rest / 2)))
    unfolding all
    bodies-turn x rest level next q l v o =
        e
        ∙ ap (leb most 4096 &&◌) (ap (λ b. all legal_cell (cells_at b 0 (length b / 2))) q ∙ ap (all legal_cell) (cells-front x rest l))
        ∙ sym (and_assoc (leb most 4096) (legal_cell (number2 x 0)) (all legal_cell (cells_at rest 0 (length rest / 2))))
        ∙ ap (λ b. b && all legal_cell (cells_at rest 0 (length rest / 2))) (ap (leb most 4096 &&◌) (sym v) ∙ sym o)

    pub bodies-end : length bytes < 2 → leb most 4096 ≡ all_legal
    unfolding all
    bodies-end h = sym (e ∙ ap (leb most 4096 &&◌) (ap (all legal_cell) (cells-none bytes h)) ∙ and-true (leb most 4096))

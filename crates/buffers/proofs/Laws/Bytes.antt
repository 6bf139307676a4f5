-- Laws on bytes, and on cells as bytes, low byte first.
use Prim.Native.Nat.{ℕ, zero, suc, ◌+◌, ◌*◌, ◌%◌, ◌/◌, ◌≤◌, ◌<◌}
use mathlib.Core.Path.{◌≡◌, refl, sym, ◌∙◌, ap, ap₂}
use mathlib.Core.Bool.{true}
use mathlib.Core.List.{List, [], ◌∷◌, ◌++◌, append_assoc}
use native.Mathlib.Omega.{arith}
use lib.ListN.{length, get_or, set, take, drop, length-take, length-drop}
use lib.Seq.{ext_get_or, get_or-take, get_or-drop, paste, paste-suc, take_all}
use Rattle.limits.specs.Lists.{all}
use Rattle.limits.specs.Cells.{legal_cell, legal_row}
use Rattle.limits.proofs.Laws.Cells.{legal-small}
use Rattle.limits.proofs.Laws.Choice.{and_left, and_right, split}
use Rattle.limits.proofs.Laws.Lists.{is-tab, length-tab, get_or-tab}
use Rattle.buffers.specs.Buffers.{wrote}
use Rattle.buffers.specs.Bytes.{byte, Bytes, number2, cells_at, cell_bytes}
use Rattle.buffers.proofs.Laws.Numbers.{number2-behind}

pub length-cells : (row : List ℕ) → length (cell_bytes row) ≡ 2 * length row
length-cells [] = refl
length-cells (c ∷ cs) = let l = length-cells cs in omega arith

low_byte : (row : List ℕ) (k : ℕ) → k < length row → get_or (cell_bytes row) (2 * k) 0 ≡ get_or row k 0 % 256
low_byte [] k h = absurd (omega arith)
low_byte (c ∷ cs) zero h = refl
low_byte (c ∷ cs) (suc k) h =
    ap (λ j. get_or (cell_bytes (c ∷ cs)) j 0) {x = 2 * suc k} {y = suc (suc (2 * k))} (omega arith) ∙ low_byte cs k (omega arith)

high_byte : (row : List ℕ) (k : ℕ) → k < length row → get_or (cell_bytes row) (2 * k + 1) 0 ≡ get_or row k 0 / 256
high_byte [] k h = absurd (omega arith)
high_byte (c ∷ cs) zero h = refl
high_byte (c ∷ cs) (suc k) h =
    ap (λ j. get_or (cell_bytes (c ∷ cs)) j 0) {x = 2 * suc k + 1} {y = suc (suc (2 * k + 1))} (omega arith) ∙ high_byte cs k (omega arith)

-- bytes that were read as cells, written again
bytes-again : (s row : List ℕ) → length s ≡ 2 * length row → Bytes s
    → ((k : ℕ) → k < length row → get_or row k 0 ≡ byte s (2 * k) + 256 * byte s (2 * k + 1)) → cell_bytes row ≡ s
bytes-again s row l small cell =
    ext_get_or 0 (cell_bytes row) s (length-cells row ∙ sym l)
    (λ i h. let n = length-cells row in
    let value = cell (i / 2) (omega arith) in
    let low = small (2 * (i / 2)) in
    let high = small (2 * (i / 2) + 1) in
    split (i % 2) 0
    (λ even. ap (λ j. get_or (cell_bytes row) j 0) {x = i} {y = 2 * (i / 2)} (omega arith)
    ∙ low_byte row (i / 2) (omega arith)
    ∙ (let p : get_or row (i / 2) 0 % 256 ≡ byte s (2 * (i / 2)) = omega arith in p)
    ∙ ap (λ j. get_or s j 0) {x = 2 * (i / 2)} {y = i} (omega arith))
    (λ odd. ap (λ j. get_or (cell_bytes row) j 0) {x = i} {y = 2 * (i / 2) + 1} (omega arith)
    ∙ high_byte row (i / 2) (omega arith)
    ∙ (let p : get_or row (i / 2) 0 / 256 ≡ byte s (2 * (i / 2) + 1) = omega arith in p)
    ∙ ap (λ j. get_or s j 0) {x = 2 * (i / 2) + 1} {y = i} (omega arith)))

-- cells that were written, read behind other bytes
pub cells-read : (front cells : List ℕ) (at n : ℕ) → at ≡ length front → n ≡ length cells → cells_at (front ++ cell_bytes cells) at n ≡ cells
cells-read front cells at n a e =
    sym
    (is-tab cells n _ 0 (sym e)
    (λ k h. let l = low_byte cells k (omega arith) in
    let m = high_byte cells k (omega arith) in
    let b = number2-behind front (cell_bytes cells) (at + 2 * k) (2 * k) (omega arith) in
    omega arith))

small-take : (n : ℕ) (s : List ℕ) → Bytes s → Bytes (take n s)
small-take zero s b i = omega arith
small-take (suc n) [] b i = b i
small-take (suc n) (x ∷ s) b zero = b 0
small-take (suc n) (x ∷ s) b (suc i) = small-take n s (λ j. b (suc j)) i

-- cells that were read, written again
pub cells-written : (bytes : List ℕ) (at n : ℕ) → Bytes bytes → at + 2 * n ≤ length bytes → cell_bytes (cells_at bytes at n) ≡ take (2 * n) (drop at bytes)
cells-written bytes at n small h =
    let l = length-tab n (λ k. number2 bytes (at + 2 * k)) in
    let d = length-drop at bytes in
    let t = length-take (2 * n) (drop at bytes) in
    bytes-again (take (2 * n) (drop at bytes)) (cells_at bytes at n) (omega arith)
    (small-take (2 * n) (drop at bytes) (λ i. let b = small (at + i) in rw (get_or-drop at bytes i 0) b))
    (λ k j. get_or-tab n (λ k. number2 bytes (at + 2 * k)) k 0 (omega arith)
    ∙ ap₂ (λ a b. a + 256 * b)
    (sym (get_or-take (2 * n) (drop at bytes) (2 * k) 0 (omega arith) ∙ get_or-drop at bytes (2 * k) 0))
    (ap (byte bytes) {x = at + 2 * k + 1} {y = at + (2 * k + 1)} (omega arith) ∙ sym (get_or-take (2 * n) (drop at bytes) (2 * k + 1) 0 (omega arith) ∙ get_or-drop at bytes (2 * k + 1) 0)))

-- a turn of the loop that writes cells: two bytes more
put-at : (b s ys : List ℕ) (at j at' v : ℕ) → at + j < length b → j < length s → ys ≡ paste b at s j → at' ≡ at + j → v ≡ get_or s j 0
    → set ys at' v ≡ paste b at s (suc j)
put-at b s ys at j at' v h k e p q = rw (e, p, q) (paste-suc b at s j 0 h k)

module _ (b cells ys : List ℕ) (at i : ℕ) (e : ys ≡ paste b at (cell_bytes cells) (2 * i)) where
  pub cell-turn : at + 2 * length cells ≤ length b → i < length cells
      → set (set ys (at + 2 * i) (get_or cells i 0 % 256)) (at + 2 * i + 1) (get_or cells i 0 / 256) ≡ paste b at (cell_bytes cells) (2 * (i + 1))
  cell-turn h k =
      let n = length-cells cells in
      put-at b (cell_bytes cells) (set ys (at + 2 * i) (get_or cells i 0 % 256)) at (suc (2 * i)) (at + 2 * i + 1) (get_or cells i 0 / 256) (omega arith) (omega arith)
      (put-at b (cell_bytes cells) ys at (2 * i) (at + 2 * i) (get_or cells i 0 % 256) (omega arith) (omega arith) e refl (sym (low_byte cells i k)))
      (omega arith)
      (sym (ap (λ j. get_or (cell_bytes cells) j 0) {x = suc (2 * i)} {y = 2 * i + 1} (omega arith) ∙ high_byte cells i k))
      ∙ ap (paste b at (cell_bytes cells)) {x = suc (suc (2 * i))} {y = 2 * (i + 1)} (omega arith)

  pub cells-put : i ≡ length cells → ys ≡ wrote at (cell_bytes cells) b
  unfolding wrote
  cells-put q =
      let n = length-cells cells in
      e
      ∙ ap (paste b at (cell_bytes cells)) {x = 2 * i} {y = length (cell_bytes cells)} (omega arith)
      ∙ ap (λ xs. take at b ++ xs ++ drop (at + length (cell_bytes cells)) b) (take_all (length (cell_bytes cells)) (cell_bytes cells) (omega arith))
      ∙ append_assoc (take at b) (cell_bytes cells) (drop (at + length (cell_bytes cells)) b)

-- legal cells make bytes
pub none-small : Bytes []
none-small i = omega arith

pub cons-small : (b : ℕ) (s : List ℕ) → b < 256 → Bytes s → Bytes (b ∷ s)
cons-small b s h small zero = h
cons-small b s h small (suc i) = small i

pub cells-small : (row : List ℕ) → legal_row row ≡ true → Bytes (cell_bytes row)
unfolding all
cells-small [] e = none-small
cells-small (c ∷ cs) e =
    let h = legal-small c (and_left (legal_cell c) (legal_row cs) e) in
    cons-small (c % 256) (c / 256 ∷ cell_bytes cs) (omega arith)
    (cons-small (c / 256) (cell_bytes cs) (omega arith) (cells-small cs (and_right (legal_cell c) (legal_row cs) e)))

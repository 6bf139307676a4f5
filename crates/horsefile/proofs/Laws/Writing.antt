-- Laws on a file that is written: its contents entry by entry, then the bodies.
use Prim.Native.Nat.{ℕ, ◌+◌, ◌*◌, ◌≤◌, ◌<◌}
use mathlib.Core.Path.{◌≡◌, refl, sym, ◌∙◌, ap, ap₂}
use mathlib.Core.List.{List, [], ◌∷◌, ◌++◌, map}
use native.Mathlib.Omega.{arith}
use lib.ListN.{length, drop, set, length-append}
use Rattle.limits.specs.Lists.{tab, joined}
use Rattle.buffers.specs.Buffers.{wrote, Wrote}
use Rattle.buffers.specs.Bytes.{cell_bytes}
use Rattle.buffers.proofs.Laws.Buffers.{Left, left-turn, left_end, wrote_on}
use Rattle.buffers.proofs.Laws.Bytes.{length-cells}
use Rattle.horsefile.specs.declared.Saved.{Saved}
use Rattle.horsefile.specs.declared.Entry.{Entry}
use Rattle.horsefile.specs.Layout.{entry_at, entry_bytes, bodies_at, body_bytes, placed, rows_of, contents_bytes, file_into, size_of}
use Rattle.horsefile.proofs.Laws.Items.{length-items}
use Rattle.horsefile.proofs.Laws.Placed.{length-placed}
use Rattle.horsefile.proofs.Laws.Walks.{placed-turn, placed-end}

abbrev pub bytes_of : List Entry → List ℕ
bytes_of entries = joined (map entry_bytes entries)

-- the loop that writes the contents: where it starts, a turn, and where it ends
pub entries-start : (saved : List Saved) (out : List ℕ) (n start : ℕ) → n ≡ length saved → start ≡ bodies_at n
    → Left 1 (contents_bytes saved) out 1 (bytes_of (placed start saved)) out
entries-start saved out n start w e =
    let p = ap (λ at. bytes_of (placed at saved)) (e ∙ ap bodies_at w) in
    record { buffer = ap (λ text. wrote 1 text out) p; behind = ap (λ text. 1 + length text) p }

module _ (text before : List ℕ) (n : ℕ) (f : ℕ → Saved) (i at start : ℕ) (now : List ℕ) (left : Left 1 text before at (bytes_of (placed start (drop i (tab n f)))) now) where
  pub entry-turn : (x : Saved) → x ≡ f i → i < n → (bytes after : List ℕ) (next_start next : ℕ) → bytes ≡ entry_bytes (record { saved = x; start = start })
      → Wrote at bytes now after next → next_start ≡ start + body_bytes x
      → Left 1 text before next (bytes_of (placed next_start (drop (i + 1) (tab n f)))) after
  unfolding joined
  entry-turn x e h bytes after next_start next b w s =
      left-turn 1 text before at bytes (bytes_of (placed next_start (drop (i + 1) (tab n f)))) (bytes_of (placed start (drop i (tab n f)))) now after next left
      (ap bytes_of (placed-turn n f i x e h start)
      ∙ ap₂ (λ front k. front ++ bytes_of (placed k (drop (i + 1) (tab n f)))) (sym b) (sym s))
      w

  pub entries-end : n ≤ i → now ≡ wrote 1 text before
  unfolding joined
  entries-end h = (left_end 1 text before at _ now left (ap bytes_of (placed-end n f i start h))).buffer

pub length-entries : (at : ℕ) (saved : List Saved) → length (bytes_of (placed at saved)) ≡ 10 * length saved
length-entries at saved = length-items entry_at entry_bytes 10 (λ x. refl) (placed at saved) ∙ ap (10 *◌) (length-placed at saved)

-- a byte in front of what is written from byte 1 on
front-byte : (c : ℕ) (text out : List ℕ) → 1 ≤ length out → wrote 1 text (set out 0 c) ≡ (c ∷ text) ++ drop (length (c ∷ text)) out
unfolding wrote
front-byte c text [] h = absurd (omega arith)
front-byte c text (x ∷ out) h = ap (λ k. c ∷ (text ++ drop k (c ∷ out))) {x = 1 + length text} {y = length (c ∷ text)} (omega arith)

pub file-written : (saved : List Saved) (n at : ℕ) (cells out mid after : List ℕ) → n ≡ length saved → at ≡ bodies_at n → 1 ≤ length out → length cells ≡ 16 * rows_of saved
    → mid ≡ wrote 1 (contents_bytes saved) (set out 0 n) → after ≡ wrote at (cell_bytes cells) mid → after ≡ file_into saved cells out
file-written saved n at cells out mid after w o h l m e =
    let k = length-entries (bodies_at (length saved)) saved in
    let a = contents_bytes saved in
    let p : at ≡ 1 + length a = omega arith in
    let s : length (n ∷ (a ++ cell_bytes cells)) ≡ size_of saved = (let q = length-append a (cell_bytes cells) in let r = length-cells cells in omega arith) in
    e
    ∙ ap₂ (λ q ys. wrote q (cell_bytes cells) ys) p m
    ∙ wrote_on 1 a (cell_bytes cells) (set out 0 n)
    ∙ front-byte n (a ++ cell_bytes cells) out h
    ∙ ap₂ (λ c size. (c ∷ (a ++ cell_bytes cells)) ++ drop size out) w s

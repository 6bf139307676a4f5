-- Laws on whole frames: what was written is read, and what is read was written.
use Prim.Native.Nat.{ℕ, ◌≤◌, ◌<◌}
use mathlib.Core.Path.{◌≡◌, refl, sym, ◌∙◌, ap, ap₂}
use mathlib.Core.List.{List, [], ◌∷◌}
use native.Mathlib.Omega.{arith}
use lib.ListN.{length, drop, length-drop}
use lib.Seq.{take_all}
use Rattle.buffers.specs.Bytes.{byte, Bytes, cells_at, cell_bytes}
use Rattle.buffers.proofs.Laws.Bytes.{cells-written, cons-small}

-- a frame by its bytes
four : (s : List ℕ) → 4 ≤ length s → byte s 0 ∷ byte s 1 ∷ byte s 2 ∷ byte s 3 ∷ drop 4 s ≡ s
four [] h = absurd (omega arith)
four (a ∷ []) h = absurd (omega arith)
four (a ∷ b ∷ []) h = absurd (omega arith)
four (a ∷ b ∷ c ∷ []) h = absurd (omega arith)
four (a ∷ b ∷ c ∷ d ∷ rest) h = refl

nothing : (s : List ℕ) → length s ≡ 0 → [] ≡ s
nothing [] e = refl
nothing (a ∷ s) e = absurd (omega arith)

pub data-again : (s : List ℕ) → length s ≡ 36 → Bytes s → byte s 0 ≡ 1
    → 1 ∷ byte s 1 ∷ byte s 2 ∷ byte s 3 ∷ cell_bytes (cells_at s 4 16) ≡ s
data-again s l small e =
    ap₂ (λ k rest. k ∷ byte s 1 ∷ byte s 2 ∷ byte s 3 ∷ rest) (sym e)
    (cells-written s 4 16 small (omega arith) ∙ take_all 32 (drop 4 s) (let d = length-drop 4 s in omega arith))
    ∙ four s (omega arith)

pub reply-again : (s : List ℕ) → length s ≡ 5 → byte s 0 ≡ 2 → 2 ∷ byte s 1 ∷ byte s 2 ∷ byte s 3 ∷ byte s 4 ∷ [] ≡ s
reply-again s l e = ap (λ k. k ∷ byte s 1 ∷ byte s 2 ∷ byte s 3 ∷ byte s 4 ∷ []) (sym e) ∙ five s l
  where
    five : (s : List ℕ) → length s ≡ 5 → byte s 0 ∷ byte s 1 ∷ byte s 2 ∷ byte s 3 ∷ byte s 4 ∷ [] ≡ s
    five [] l = absurd (omega arith)
    five (a ∷ []) l = absurd (omega arith)
    five (a ∷ b ∷ []) l = absurd (omega arith)
    five (a ∷ b ∷ c ∷ []) l = absurd (omega arith)
    five (a ∷ b ∷ c ∷ d ∷ []) l = absurd (omega arith)
    five (a ∷ b ∷ c ∷ d ∷ x ∷ rest) l = ap (λ r. a ∷ b ∷ c ∷ d ∷ x ∷ r) (nothing rest (omega arith))

-- four bytes in front
pub four-small : (a b c d : ℕ) (s : List ℕ) → a < 256 → b < 256 → c < 256 → d < 256 → Bytes s → Bytes (a ∷ b ∷ c ∷ d ∷ s)
four-small a b c d s ha hb hc hd small =
    cons-small a (b ∷ c ∷ d ∷ s) ha (cons-small b (c ∷ d ∷ s) hb (cons-small c (d ∷ s) hc (cons-small d s hd small)))

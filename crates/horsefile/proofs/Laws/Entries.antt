-- Laws on what was saved and on entries: read behind other bytes, and written as they were read.
use Prim.Native.Nat.{ℕ, ◌+◌, ◌≤◌}
use mathlib.Core.Path.{◌≡◌, sym, ◌∙◌, ap, ap₂}
use mathlib.Core.List.{List, [], ◌∷◌, ◌++◌}
use native.Mathlib.Omega.{arith}
use lib.ListN.{length, take, drop}
use lib.Seq.{take-add, drop-drop}
use Rattle.limits.specs.Lists.{tab}
use Rattle.buffers.specs.Bytes.{byte, Bytes}
use Rattle.buffers.proofs.Laws.Numbers.{byte-behind, number2-behind, number4-behind, part-bytes, bytes2-read, bytes4-read}
use Rattle.horsefile.specs.Layout.{saved_at, saved_bytes, entry_at, entry_bytes}

module _ (front bytes : List ℕ) where
  pub saved-behind : (n m : ℕ) → n ≡ length front + m → saved_at (front ++ bytes) n ≡ saved_at bytes m
  saved-behind n m e =
      λ i. record {
        horse = number2-behind front bytes n m e i;
        leg = byte-behind front bytes (n + 2) (m + 2) (omega arith) i;
        save = byte-behind front bytes (n + 3) (m + 3) (omega arith) i;
        rows = number2-behind front bytes (n + 4) (m + 4) (omega arith) i;
      }

  pub entry-behind : (n m : ℕ) → n ≡ length front + m → entry_at (front ++ bytes) n ≡ entry_at bytes m
  entry-behind n m e = λ i. record { saved = saved-behind n m e i; start = number4-behind front bytes (n + 6) (m + 6) (omega arith) i }

module _ (s : List ℕ) (small : Bytes s) where
  pub saved-written : (at : ℕ) → at + 6 ≤ length s → saved_bytes (saved_at s at) ≡ take 6 (drop at s)
  unfolding tab
  saved-written at h =
      ap₂ (λ a b. a ++ (byte s (at + 2) ∷ byte s (at + 3) ∷ b)) (bytes2-read s small at) (bytes2-read s small (at + 4))
      ∙ (λ i. byte s (here i) ∷ byte s (at + 1) ∷ byte s (at + 2) ∷ byte s (at + 3) ∷ byte s (at + 4) ∷ byte s (fifth i) ∷ [])
      ∙ sym (part-bytes s at 6 h)
    where
      here : at ≡ at + 0
      here = omega arith

      fifth : at + 4 + 1 ≡ at + 5
      fifth = omega arith

  pub entry-written : (at : ℕ) → at + 10 ≤ length s → entry_bytes (entry_at s at) ≡ take 10 (drop at s)
  unfolding tab
  entry-written at h =
      ap₂ ◌++◌ (saved-written at (omega arith))
      (bytes4-read s small (at + 6)
      ∙ (λ i. byte s (here i) ∷ byte s (at + 6 + 1) ∷ byte s (at + 6 + 2) ∷ byte s (last i) ∷ [])
      ∙ sym (part-bytes s (at + 6) 4 (omega arith)))
      ∙ ap (λ l. take 6 (drop at s) ++ take 4 l) (sym (drop-drop 6 at s))
      ∙ sym (take-add 6 4 (drop at s))
    where
      here : at + 6 ≡ at + 6 + 0
      here = omega arith

      last : at + 6 + 2 + 1 ≡ at + 6 + 3
      last = omega arith

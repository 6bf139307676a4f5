-- Laws on numbers of two and four bytes: read behind other bytes, read as they were written, and written as they were read.
use Prim.Native.Nat.{ℕ, ◌+◌, ◌*◌, ◌%◌, ◌/◌, ◌≤◌, ◌<◌}
use mathlib.Core.Path.{◌≡◌, ◌∙◌, ap, ap₂}
use mathlib.Core.List.{List, [], ◌∷◌, ◌++◌}
use native.Mathlib.Omega.{arith}
use lib.ListN.{length, take, drop, length-take, length-drop}
use lib.Seq.{get_or-append-add, get_or-take, get_or-drop}
use Rattle.limits.specs.Lists.{tab}
use Rattle.limits.proofs.Laws.Lists.{is-tab}
use Rattle.buffers.specs.Bytes.{byte, Bytes, number2, number4, bytes2, bytes4}

module _ (front bytes : List ℕ) where
  pub byte-behind : (n m : ℕ) → n ≡ length front + m → byte (front ++ bytes) n ≡ byte bytes m
  byte-behind n m e = ap (byte (front ++ bytes)) e ∙ get_or-append-add front bytes m 0

  pub number2-behind : (n m : ℕ) → n ≡ length front + m → number2 (front ++ bytes) n ≡ number2 bytes m
  number2-behind n m e = ap₂ (λ a b. a + 256 * b) (byte-behind n m e) (byte-behind (n + 1) (m + 1) (omega arith))

  pub number4-behind : (n m : ℕ) → n ≡ length front + m → number4 (front ++ bytes) n ≡ number4 bytes m
  number4-behind n m e = ap₂ (λ a b. a + 65536 * b) (number2-behind n m e) (number2-behind (n + 2) (m + 2) (omega arith))

pub two : (n : ℕ) → n % 256 + 256 * (n / 256) ≡ n
two n = omega arith

pub four : (n : ℕ) → n % 65536 % 256 + 256 * (n % 65536 / 256) + 65536 * (n / 65536 % 256 + 256 * (n / 65536 / 256)) ≡ n
four n = omega arith

-- as `to_le_bytes` gives them
pub stored2 : (n : ℕ) → n < 65536 → n % 256 ∷ n / 256 % 256 ∷ [] ≡ bytes2 n
stored2 n h = let p : n / 256 % 256 ≡ n / 256 = omega arith in ap (λ b. n % 256 ∷ b ∷ []) p

pub stored4 : (n : ℕ) → n < 4294967296 → n % 256 ∷ n / 256 % 256 ∷ n / 65536 % 256 ∷ n / 16777216 % 256 ∷ [] ≡ bytes4 n
stored4 n h =
    let p : n % 256 ≡ n % 65536 % 256 = omega arith in
    let q : n / 256 % 256 ≡ n % 65536 / 256 = omega arith in
    let r : n / 16777216 % 256 ≡ n / 65536 / 256 = omega arith in
    λ i. p i ∷ q i ∷ n / 65536 % 256 ∷ r i ∷ []

-- the first n of what is left of a list of bytes
pub part-bytes : (s : List ℕ) (at n : ℕ) → at + n ≤ length s → take n (drop at s) ≡ tab n (λ k. byte s (at + k))
part-bytes s at n h =
    let l = length-drop at s in
    is-tab (take n (drop at s)) n (λ k. byte s (at + k)) 0 (length-take n (drop at s) ∙ omega arith)
    (λ k j. get_or-take n (drop at s) k 0 j ∙ get_or-drop at s k 0)

module _ (s : List ℕ) (small : Bytes s) where
  pub bytes2-read : (at : ℕ) → bytes2 (number2 s at) ≡ byte s at ∷ byte s (at + 1) ∷ []
  bytes2-read at =
      let a = small at in
      let p : number2 s at % 256 ≡ byte s at = omega arith in
      let q : number2 s at / 256 ≡ byte s (at + 1) = omega arith in
      λ i. p i ∷ q i ∷ []

  pub bytes4-read : (at : ℕ) → bytes4 (number4 s at) ≡ byte s at ∷ byte s (at + 1) ∷ byte s (at + 2) ∷ byte s (at + 2 + 1) ∷ []
  bytes4-read at =
      let a = small at in let b = small (at + 1) in
      let p : number4 s at % 65536 ≡ number2 s at = omega arith in
      let q : number4 s at / 65536 ≡ number2 s (at + 2) = omega arith in
      ap₂ (λ low high. bytes2 low ++ bytes2 high) p q ∙ ap₂ ◌++◌ (bytes2-read at) (bytes2-read (at + 2))

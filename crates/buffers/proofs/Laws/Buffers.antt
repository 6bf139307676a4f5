-- Laws on bytes written into a buffer.
use Prim.Native.Nat.{ℕ, zero, suc, ◌+◌, ◌≤◌, ◌<◌}
use mathlib.Core.Path.{◌≡◌, refl, sym, ◌∙◌, ap, ap₂}
use mathlib.Core.List.{List, [], ◌∷◌, ◌++◌, append_assoc, append-nil}
use native.Mathlib.Nat.{suc-add}
use native.Mathlib.Omega.{arith}
use lib.ListN.{length, take, drop, set, length-append, drop_of_length-le, take-append-drop}
use lib.Seq.{drop-nil, take_at, take_all, drop-drop, drop-append-add, sets, sets-eq}
use Rattle.buffers.specs.Buffers.{wrote, Wrote}

-- text behind text, by the place of the first
at_front : (a b xs : List ℕ) (n m : ℕ) → length a ≡ n → m ≡ n + length b
    → take n (a ++ drop n xs) ++ (b ++ drop (n + length b) (a ++ drop n xs)) ≡ (a ++ b) ++ drop m xs
at_front a b xs n m e q =
    ap₂ (λ front back. front ++ (b ++ back)) (take_at a (drop n xs) n e)
    (ap (λ k. drop k (a ++ drop n xs)) {x = n + length b} {y = length a + length b} (omega arith)
    ∙ drop-append-add a (drop n xs) (length b)
    ∙ drop-drop (length b) n xs
    ∙ ap (λ k. drop k xs) (sym q))
    ∙ sym (append_assoc a b (drop m xs))

past_end : (a b : List ℕ) (n m : ℕ) → length a ≤ n
    → take n (a ++ drop n []) ++ (b ++ drop (n + length b) (a ++ drop n [])) ≡ (a ++ b) ++ drop m []
past_end a b n m h =
    rw (drop-nil n, append-nil a, take_all n a h, drop_of_length-le a {i = n + length b} (omega arith), drop-nil m)
    (sym (append_assoc a b []))

pub wrote_on : (at : ℕ) (a b xs : List ℕ) → wrote (at + length a) b (wrote at a xs) ≡ wrote at (a ++ b) xs
unfolding wrote
wrote_on zero a b xs = at_front a b xs (0 + length a) (0 + length (a ++ b)) (omega arith) (let l = length-append a b in omega arith)
wrote_on (suc at) a b [] = past_end a b (suc at + length a) (suc at + length (a ++ b)) (omega arith)
wrote_on (suc at) a b (x ∷ xs) = simp suc-add (ap (x ∷◌) (wrote_on at a b xs))

pub both-wrote : (at : ℕ) (a b xs ys zs : List ℕ) (p q : ℕ) → Wrote at a xs ys p → Wrote p b ys zs q → Wrote at (a ++ b) xs zs q
both-wrote at a b xs ys zs p q u v =
    record {
      buffer = v.buffer ∙ ap₂ (λ n l. wrote n b l) u.behind u.buffer ∙ wrote_on at a b xs;
      behind = let l = length-append a b in omega arith;
    }

pub none-wrote : (at : ℕ) (xs : List ℕ) → Wrote at [] xs xs at
unfolding wrote
none-wrote at xs =
    record {
      buffer = sym (ap (λ k. take at xs ++ drop k xs) {x = at + 0} {y = at} (omega arith) ∙ take-append-drop at xs);
      behind = omega arith;
    }

-- bytes stored one by one
pub stored : (xs : List ℕ) (at : ℕ) (vs ys text : List ℕ) (p : ℕ) → at + length vs ≤ length xs → ys ≡ sets xs at vs → text ≡ vs
    → p ≡ at + length vs → Wrote at text xs ys p
unfolding wrote
stored xs at vs ys text p h e t q =
    record {
      buffer =
          e
          ∙ sets-eq vs xs at h
          ∙ append_assoc (take at xs) vs (drop (at + length vs) xs)
          ∙ ap (λ l. take at xs ++ (l ++ drop (at + length l) xs)) (sym t);
      behind = q ∙ ap (λ l. at + length l) (sym t);
    }

-- text at the front
pub wrote-front : (text xs : List ℕ) → wrote 0 text xs ≡ text ++ drop (length text) xs
unfolding wrote
wrote-front text xs = ap (λ k. take 0 xs ++ (text ++ drop k xs)) {x = 0 + length text} {y = length text} (omega arith)

-- one byte more behind those that were written
pub wrote-byte : (at : ℕ) (a xs ys : List ℕ) (k v : ℕ) → ys ≡ wrote at a xs → k ≡ at + length a → k < length ys
    → set ys k v ≡ wrote at (a ++ (v ∷ [])) xs
wrote-byte at a xs ys k v e q h =
    let w : Wrote k (v ∷ []) ys (set ys k v) (k + 1) = stored ys k (v ∷ []) _ _ _ (omega arith) refl refl refl in
    w.buffer ∙ ap₂ (λ n l. wrote n (v ∷ []) l) q e ∙ wrote_on at a (v ∷ []) xs

pub same-wrote : (at : ℕ) (a b xs ys : List ℕ) (p : ℕ) → a ≡ b → Wrote at a xs ys p → Wrote at b xs ys p
same-wrote at a b xs ys p e w = rw e at w

-- `rest`, written at `next` into the buffer as it is, is what is left of `text`, written at `at` into the buffer as it was
pub record Left (at : ℕ) (text before : List ℕ) (next : ℕ) (rest present : List ℕ) : Type 0 where
  pub buffer : wrote next rest present ≡ wrote at text before
  pub behind : next + length rest ≡ at + length text

pub left-turn : (at : ℕ) (text xs : List ℕ) (p : ℕ) (a b rest ys zs : List ℕ) (q : ℕ) → Left at text xs p rest ys → rest ≡ a ++ b → Wrote p a ys zs q
    → Left at text xs q b zs
left-turn at text xs p a b rest ys zs q l e w =
    record {
      buffer = ap₂ (λ n s. wrote n b s) w.behind w.buffer ∙ wrote_on p a b ys ∙ ap (λ r. wrote p r ys) (sym e) ∙ l.buffer;
      behind = let s = length-append a b in let t = ap length e in omega arith;
    }

pub left_end : (at : ℕ) (text xs : List ℕ) (p : ℕ) (rest ys : List ℕ) → Left at text xs p rest ys → rest ≡ [] → Wrote at text xs ys p
left_end at text xs p rest ys l e =
    record {
      buffer = (none-wrote p ys).buffer ∙ ap (λ r. wrote p r ys) (sym e) ∙ l.buffer;
      behind = let t = ap length e in let n = l.behind in omega arith;
    }

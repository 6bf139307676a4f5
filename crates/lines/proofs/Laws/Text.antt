-- Laws on the lines of text.
use Prim.Native.Nat.{ℕ, ◌+◌, ◌/◌, ◌%◌, ◌≤◌, ◌<◌}
use mathlib.Core.Path.{◌≡◌, refl, sym}
use mathlib.Core.List.{List, [], ◌∷◌, ◌++◌, append_assoc}
use native.Mathlib.Omega.{arith}
use lib.Dec.{ltb}
use lib.ListN.{length, length-append}
use borrow.Author.Tests.{lt-ltb, le-ltb}
use Rattle.limits.proofs.Laws.Choice.{pick_yes, pick_no, pick-cases}
use Rattle.buffers.specs.Ascii.{digit, space, newline}
use Rattle.buffers.specs.Buffers.{Wrote}
use Rattle.buffers.proofs.Laws.Buffers.{both-wrote, same-wrote}
use Rattle.lines.specs.Text.{decimal, sent_word, acknowledged_word, recorded_word, refused_word, event_line, counts_line, refused_line}

pub one-digit : (n : ℕ) → n < 10 → digit n ∷ [] ≡ decimal n
unfolding decimal
one-digit n h = sym (pick_yes _ _ _ _ (lt-ltb n 10 h) refl)

pub two_digits : (n : ℕ) → 10 ≤ n → n < 100 → digit (n / 10) ∷ digit (n % 10) ∷ [] ≡ decimal n
unfolding decimal
two_digits n h k = sym (pick_no _ _ _ _ (le-ltb n 10 h) (pick_yes _ _ _ _ (lt-ltb n 100 k) refl))

pub three-digits : (n : ℕ) → 100 ≤ n → digit (n / 100) ∷ digit (n / 10 % 10) ∷ digit (n % 10) ∷ [] ≡ decimal n
unfolding decimal
three-digits n h = sym (pick_no _ _ _ _ (le-ltb n 10 (omega arith)) (pick_no _ _ _ _ (le-ltb n 100 h) refl))

pub decimal-most : (n : ℕ) → length (decimal n) ≤ 3
unfolding decimal
decimal-most n =
    pick-cases (λ text. length text ≤ 3) (ltb n 10) (digit n ∷ []) _ (λ _. omega arith)
    (λ _. pick-cases (λ text. length text ≤ 3) (ltb n 100) (digit (n / 10) ∷ digit (n % 10) ∷ []) _ (λ _. omega arith) (λ _. omega arith))

-- how far a number and what stands behind it can reach
pub field_room : (n at p : ℕ) (text xs ys : List ℕ) → Wrote at (decimal n ++ text) xs ys p → p ≤ at + 3 + length text
field_room n at p text xs ys w = let l = length-append (decimal n) text in let m = decimal-most n in omega arith

-- each line by its parts
pub event-wrote : (kind argument answer at p q r : ℕ) (xs ys zs us : List ℕ) → Wrote at (decimal kind ++ space) xs ys p
    → Wrote p (decimal argument ++ space) ys zs q → Wrote q (decimal answer ++ newline) zs us r → Wrote at (event_line kind argument answer) xs us r
unfolding event_line
event-wrote kind argument answer at p q r xs ys zs us u v w =
    same-wrote at _ _ xs us r (simp append_assoc)
    (both-wrote at (decimal kind ++ space) (decimal argument ++ space ++ (decimal answer ++ newline)) xs ys us p r u
    (both-wrote p (decimal argument ++ space) (decimal answer ++ newline) ys zs us q r v w))

pub counts-wrote : (sent acknowledged recorded at o p q r : ℕ) (xs ys zs us vs : List ℕ) → Wrote at sent_word xs ys o
    → Wrote o (decimal sent ++ acknowledged_word) ys zs p → Wrote p (decimal acknowledged ++ recorded_word) zs us q
    → Wrote q (decimal recorded ++ newline) us vs r → Wrote at (counts_line sent acknowledged recorded) xs vs r
unfolding counts_line
counts-wrote sent acknowledged recorded at o p q r xs ys zs us vs t u v w =
    same-wrote at _ _ xs vs r (simp append_assoc)
    (both-wrote at sent_word _ xs ys vs o r t
    (both-wrote o (decimal sent ++ acknowledged_word) _ ys zs vs p r u
    (both-wrote p (decimal acknowledged ++ recorded_word) (decimal recorded ++ newline) zs us vs q r v w)))

pub refused-wrote : (n at p q : ℕ) (xs ys zs : List ℕ) → Wrote at refused_word xs ys p → Wrote p (decimal n ++ newline) ys zs q
    → Wrote at (refused_line n) xs zs q
unfolding refused_line
refused-wrote n at p q xs ys zs u v =
    same-wrote at _ _ xs zs q (simp append_assoc) (both-wrote at refused_word (decimal n ++ newline) xs ys zs p q u v)

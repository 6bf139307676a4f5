-- Laws on legal cells, and on how a loop finds them.
use Prim.Native.Nat.{ℕ, ◌+◌, ◌%◌, ◌≤◌, ◌<◌, max}
use mathlib.Core.Path.{◌≡◌, sym, ◌∙◌, ap}
use mathlib.Core.Bool.{true, ◌&&◌, ◌||◌}
use native.Mathlib.Omega.{arith}
use lib.Dec.{eqb, leb}
use borrow.Author.Tests.{le-leb, lt-leb, eq-eqb, ne_eqb, eqb-true}
use Rattle.std.specs.Ordering.{ord_max, nat_cmp}
use Rattle.std.proofs.Common.{Less, Equal, Greater}
use Rattle.std.specs.Cmp.{nat_cmp_is}
use Rattle.limits.specs.Cells.{torn, legal_cell}
use Rattle.limits.specs.declared.cells.TheConstants.{LEGAL}
use Rattle.limits.specs.Lists.{tab, all}
use Rattle.limits.proofs.Laws.Choice.{split, both, and-no-left, and-no-right}
use Rattle.limits.proofs.Laws.Lists.{flag-turn}

-- a small number is a legal cell
pub small-legal : (c : ℕ) → c ≤ 4095 → legal_cell c ≡ true
unfolding legal_cell
small-legal c h = ap (λ b. b || eqb c torn) (le-leb c 4095 h)

-- of the larger numbers the torn cell alone
torn-alone : (c : ℕ) → 4095 < c → legal_cell c ≡ eqb c torn
unfolding legal_cell
torn-alone c h = ap (λ b. b || eqb c torn) (lt-leb c 4095 h)

-- a legal cell has 16 bits
pub legal-small : (c : ℕ) → legal_cell c ≡ true → c < 65536
legal-small c legal =
    split c 4095
    (λ low. omega arith)
    (λ high. let t = eqb-true c torn (sym (torn-alone c high) ∙ legal) in omega arith)

-- a legal cell that is not torn is at most 4095
pub whole-small : (c : ℕ) → legal_cell c ≡ true → (c ≡ torn → ⊥) → c ≤ 4095
whole-small c legal whole = split c 4095 (λ low. low) (λ high. absurd (whole (eqb-true c torn (sym (torn-alone c high) ∙ legal))))

pub level-is : (c e : ℕ) → c < 65536 → e ≡ (c + 1) % 65536 → leb e LEGAL ≡ legal_cell c
level-is c e h is =
    split c 4095
    (λ low. le-leb e LEGAL (omega arith) ∙ sym (small-legal c low))
    (λ high. split torn c
    (λ t. le-leb e LEGAL (omega arith) ∙ sym (torn-alone c high ∙ eq-eqb c torn (omega arith)))
    (λ n. lt-leb e LEGAL (omega arith) ∙ sym (torn-alone c high ∙ ne_eqb c torn (λ z. omega arith))))

-- what `max` gives
pub greater : (a b : ℕ) → ord_max nat_cmp a b ≡ max a b
greater a b =
    split a b
    (λ x. split b a
    (λ y. rw (sym (nat_cmp_is b a Equal (omega arith))) (omega arith))
    (λ y. rw (sym (nat_cmp_is b a Greater y)) (omega arith)))
    (λ x. rw (sym (nat_cmp_is b a Less x)) (omega arith))

-- the greater of two is at most n where both are
pub max_at_most : (a b n : ℕ) → leb (max a b) n ≡ (leb a n && leb b n)
max_at_most a b n =
    split a n
    (λ x. split b n
    (λ y. le-leb (max a b) n (omega arith) ∙ sym (both _ _ (le-leb a n x) (le-leb b n y)))
    (λ y. lt-leb (max a b) n (omega arith) ∙ sym (and-no-right _ _ (lt-leb b n y))))
    (λ x. lt-leb (max a b) n (omega arith) ∙ sym (and-no-left _ _ (lt-leb a n x)))

-- a turn of the loop, which keeps the greatest level: all cells so far are legal where it is at most n
pub level-turn : (f : ℕ → ℕ) (i most e n : ℕ) → leb most n ≡ all legal_cell (tab i f) → leb e n ≡ legal_cell (f i)
    → leb (ord_max nat_cmp most e) n ≡ all legal_cell (tab (i + 1) f)
level-turn f i most e n flag this =
    ap (λ k. leb k n) (greater most e)
    ∙ flag-turn legal_cell f i (leb most n) (leb (max most e) n) flag (max_at_most most e n ∙ ap (leb most n &&◌) this)

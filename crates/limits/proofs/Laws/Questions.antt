-- Laws on lists of questions one behind the other.
use Prim.Native.Nat.{ℕ}
use mathlib.Core.Path.{◌≡◌, refl, sym, ◌∙◌, ap}
use mathlib.Core.Bool.{Bool, true, false, not, ◌&&◌}
use mathlib.Core.List.{List, [], ◌∷◌, ◌++◌}
use lib.Dec.{eqb}
use borrow.Author.Tests.{eq-eqb, eqb-true, eqb-false, not-true}
use Rattle.limits.specs.Lists.{all}
use Rattle.limits.specs.Questions.{Question, ask, first_no}
use Rattle.limits.proofs.Laws.Choice.{pick_yes, pick_no, test, both, clash, and_left, and_right}

-- no question has the number 0
abbrev pub numbered : List Question → Bool
numbered qs = all (λ (q : Question). not (eqb q.code 0)) qs

abbrev pub passed : List Question → Bool
passed qs = all (λ (q : Question). q.passes) qs

-- the first no is 0 exactly where all are passed
pub all-passed : (qs : List Question) → numbered qs ≡ true → first_no qs ≡ 0 → passed qs ≡ true
unfolding all
all-passed [] n e = refl
all-passed (q ∷ qs) n e =
    go (all-passed qs (and_right (not (eqb q.code 0)) (numbered qs) n))
  where
    go : (first_no qs ≡ 0 → passed qs ≡ true) → (q.passes && passed qs) ≡ true
    go later =
        test q.passes
        (λ p. both q.passes (passed qs) p (later (sym (pick_yes q.passes (first_no qs) q.code (first_no qs) p refl) ∙ e)))
        (λ p. absurd (clash (eqb q.code 0) (eq-eqb q.code 0 (sym (pick_no q.passes (first_no qs) q.code q.code p refl) ∙ e)) (not-true (eqb q.code 0) (and_left (not (eqb q.code 0)) (numbered qs) n))))

pub none-fails : (qs : List Question) → passed qs ≡ true → first_no qs ≡ 0
unfolding all
none-fails [] e = refl
none-fails (q ∷ qs) e =
    pick_yes q.passes (first_no qs) q.code 0 (and_left q.passes (passed qs) e) (none-fails qs (and_right q.passes (passed qs) e))

-- a question that was passed in front of others
pub passed_first : (code : ℕ) (b : Bool) (qs : List Question) → eqb code 0 ≡ false → first_no (ask code b ∷ qs) ≡ 0 → (b ≡ true) × (first_no qs ≡ 0)
passed_first code b qs n e =
    test b
    (λ p. (p, sym (pick_yes b (first_no qs) code (first_no qs) p refl) ∙ e))
    (λ p. absurd (eqb-false code 0 n (sym (pick_no b (first_no qs) code code p refl) ∙ e)))

-- more questions behind those that were passed, and behind one that was not
pub first-later : (qs rest : List Question) → passed qs ≡ true → first_no (qs ++ rest) ≡ first_no rest
unfolding all
first-later [] rest e = refl
first-later (q ∷ qs) rest e =
    pick_yes q.passes (first_no (qs ++ rest)) q.code (first_no rest) (and_left q.passes (passed qs) e)
    (first-later qs rest (and_right q.passes (passed qs) e))

pub first-stays : (qs rest : List Question) → eqb (first_no qs) 0 ≡ false → first_no (qs ++ rest) ≡ first_no qs
first-stays [] rest e = absurd (mathlib.Core.Bool.true≢false e)
first-stays (q ∷ qs) rest e =
    go (first-stays qs rest)
  where
    go : (eqb (first_no qs) 0 ≡ false → first_no (qs ++ rest) ≡ first_no qs) → first_no ((q ∷ qs) ++ rest) ≡ first_no (q ∷ qs)
    go later =
        test q.passes
        (λ p. pick_yes q.passes (first_no (qs ++ rest)) q.code (first_no (q ∷ qs)) p
        (later (ap (λ n. eqb n 0) (sym (pick_yes q.passes (first_no qs) q.code (first_no qs) p refl)) ∙ e)
        ∙ sym (pick_yes q.passes (first_no qs) q.code (first_no qs) p refl)))
        (λ p. pick_no q.passes (first_no (qs ++ rest)) q.code (first_no (q ∷ qs)) p (sym (pick_no q.passes (first_no qs) q.code q.code p refl)))

pub front-passed : (qs rest : List Question) → first_no (qs ++ rest) ≡ 0 → first_no qs ≡ 0
front-passed qs rest e =
    test (eqb (first_no qs) 0)
    (λ p. eqb-true (first_no qs) 0 p)
    (λ p. sym (first-stays qs rest p) ∙ e)

-- one more question behind those that were answered
module _ (qs : List Question) (found : ℕ) (first : found ≡ first_no qs) where
  pub more_stays : (rest : List Question) → eqb found 0 ≡ false → found ≡ first_no (qs ++ rest)
  more_stays rest e = first ∙ sym (first-stays qs rest (ap (λ n. eqb n 0) (sym first) ∙ e))

  module _ (code : ℕ) (b : Bool) (n : numbered qs ≡ true) (e : found ≡ 0) where
    pub more-passes : b ≡ true → 0 ≡ first_no (qs ++ (ask code b ∷ []))
    more-passes p = sym (first-later qs (ask code b ∷ []) (all-passed qs n (sym first ∙ e)) ∙ pick_yes b 0 code 0 p refl)

    pub more-fails : b ≡ false → code ≡ first_no (qs ++ (ask code b ∷ []))
    more-fails p = sym (first-later qs (ask code b ∷ []) (all-passed qs n (sym first ∙ e)) ∙ pick_no b 0 code code p refl)

-- questions behind others that were passed
pub behind-passed : (qs rest : List Question) → numbered qs ≡ true → first_no qs ≡ 0 → first_no (qs ++ rest) ≡ first_no rest
behind-passed qs rest n e = first-later qs rest (all-passed qs n e)

-- every question was passed, one fact for each
abbrev pub Each : List Question → Type 0
Each [] = Unit {0}
Each (q ∷ qs) = (q.passes ≡ true) × Each qs

pub each : (qs : List Question) → numbered qs ≡ true → first_no qs ≡ 0 → Each qs
unfolding all
each [] n e = tt
each (q ∷ qs) n e =
    go (each qs (and_right (not (eqb q.code 0)) (numbered qs) n))
  where
    go : (first_no qs ≡ 0 → Each qs) → (q.passes ≡ true) × Each qs
    go later =
        let p = passed_first q.code q.passes qs (not-true (eqb q.code 0) (and_left (not (eqb q.code 0)) (numbered qs) n)) e in
        (p.0, later p.1)

-- Two lists of questions that give the same first no.
use mathlib.Core.Path.{◌≡◌, refl, sym, ◌∙◌}
use mathlib.Core.Bool.{true}
use mathlib.Core.List.{List, [], ◌∷◌}
use Rattle.limits.specs.Questions.{Question, first_no}
use Rattle.limits.proofs.Laws.Questions.{Each}
use Rattle.limits.proofs.Laws.Choice.{test, pick_yes, pick_no}

-- Question for question the same, where the ones before were passed. What the first list asks beyond the second is passed,
-- once all of the second are.
abbrev pub Agrees : List Question → List Question → Type 0
Agrees [] [] = Unit {0}
Agrees [] (q ∷ qs) = ⊥
Agrees (p ∷ ps) [] = (p.passes ≡ true) × Agrees ps []
Agrees (p ∷ ps) (q ∷ qs) = (p.code ≡ q.code) × (p.passes ≡ q.passes) × (q.passes ≡ true → Agrees ps qs)

pub agrees : (ps qs : List Question) → Agrees ps qs → first_no ps ≡ first_no qs
agrees [] [] a = refl
agrees [] (q ∷ qs) a = absurd a
agrees (p ∷ ps) [] a = pick_yes _ _ _ _ a.0 (agrees ps [] a.1)
agrees (p ∷ ps) (q ∷ qs) a =
    test q.passes
    (λ e. pick_yes _ _ _ _ (a.1 ∙ e) (agrees ps qs (a.2 e)) ∙ sym (pick_yes _ _ _ _ e refl))
    (λ e. pick_no _ _ _ _ (a.1 ∙ e) a.0 ∙ sym (pick_no _ _ _ _ e refl))

-- a list whose every test is passed gives none
pub none-refused : (qs : List Question) → Each qs → first_no qs ≡ 0
none-refused [] a = refl
none-refused (q ∷ qs) a = pick_yes _ _ _ _ a.0 (none-refused qs a.1)

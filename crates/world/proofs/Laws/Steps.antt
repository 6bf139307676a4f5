-- One event of the link, answered with a number, as a list of one event; and questions behind a device's own.
use Prim.Native.Nat.{ℕ}
use mathlib.Core.Path.{◌≡◌, refl, sym, ◌∙◌, ap, ap₂}
use mathlib.Core.Bool.{Bool, true, false, false≢true}
use mathlib.Core.List.{List, [], ◌∷◌, ◌++◌}
use lib.Dec.{eqb}
use lib.ListN.{length, take}
use borrow.Author.Tests.{eqb-true, eq-eqb}
use Rattle.limits.specs.Questions.{Question, ask, first_no}
use Rattle.limits.specs.Events.{Event}
use Rattle.limits.proofs.Laws.Choice.{test, pick_yes, pick_no}
use Rattle.limits.proofs.Laws.Questions.{numbered, first-stays, behind-passed}
use Rattle.events.specs.State.{Moved}
use Rattle.events.specs.Rules.{acted, answer, stepped}
use Rattle.lists.specs.Runs.{supply_left, buffer_left, continued, next, after_all, answers}
use Rattle.agreement.proofs.Laws.Shift.{continued-unmoved}
use Rattle.agreement.specs.Agreed.{never_full}
use Rattle.world.specs.Chains.{for_lent, if_lent}

abbrev pub answer_at : List ℕ → Moved → Event → ℕ
answer_at supply y e = answer (supply_left supply y) (buffer_left y) y.state e

-- what the events of a step did, and the numbers that it gave them
pub record Steps (supply : List ℕ) (y z : Moved) (es : List Event) (numbers : List ℕ) : Type 0 where
  pub moved : z ≡ after_all supply y es
  pub told : numbers ≡ answers supply y es

module _ (supply : List ℕ) (y : Moved) where
  pub no-event : Steps supply y y [] []
  unfolding after_all answers
  no-event = record { moved = refl; told = refl }

  module _ (e : Event) where
    pub event-done : (z : Moved) → 0 ≡ answer_at supply y e → z ≡ continued y (acted (supply_left supply y) (buffer_left y) y.state e)
        → Steps supply y z (e ∷ []) (0 ∷ [])
    unfolding after_all answers next stepped
    event-done z a h =
        record {
          moved = h ∙ ap (continued y) (sym (pick_yes _ _ _ _ (eq-eqb (answer_at supply y e) 0 (sym a)) refl));
          told = ap (◌∷ []) a;
        }

    pub event-refused : (n : ℕ) → eqb n 0 ≡ false → n ≡ answer_at supply y e → Steps supply y y (e ∷ []) (n ∷ [])
    unfolding after_all answers next stepped
    event-refused n no_zero a =
        record {
          moved = sym (continued-unmoved y) ∙ ap (continued y) (sym (pick_no _ _ _ _ (ap (λ k. eqb k 0) (sym a) ∙ no_zero) refl));
          told = ap (◌∷ []) a;
        }

    -- a call that may be refused for what is lent to it
    pub call-refused : (n : ℕ) → eqb n 0 ≡ false → (for_lent n ≡ false → n ≡ answer_at supply y e)
        → Steps supply y y (if_lent n e) (take (length (if_lent n e)) (n ∷ []))
    call-refused n no_zero a =
        test (for_lent n)
        (λ b. alike (pick_yes _ _ _ _ b refl) no-event)
        (λ b. alike (pick_no _ _ _ _ b refl) (event-refused n no_zero (a b)))
      where
        alike : {es fs : List Event} → fs ≡ es → Steps supply y y es (take (length es) (n ∷ [])) → Steps supply y y fs (take (length fs) (n ∷ []))
        alike h s = rw h s

-- steps one behind the other
after-append : (supply : List ℕ) (y : Moved) (es fs : List Event) → after_all supply y (es ++ fs) ≡ after_all supply (after_all supply y es) fs
unfolding after_all
after-append supply y [] fs = refl
after-append supply y (e ∷ es) fs = after-append supply (next supply y e) es fs

answers-append : (supply : List ℕ) (y : Moved) (es fs : List Event) → answers supply y (es ++ fs) ≡ answers supply y es ++ answers supply (after_all supply y es) fs
unfolding after_all answers
answers-append supply y [] fs = refl
answers-append supply y (e ∷ es) fs = ap (answer_at supply y e ∷◌) (answers-append supply (next supply y e) es fs)

pub then : (supply : List ℕ) (y z x : Moved) (es fs : List Event) (ns ms : List ℕ) → Steps supply y z es ns → Steps supply z x fs ms
    → Steps supply y x (es ++ fs) (ns ++ ms)
then supply y z x es fs ns ms a b =
    record {
      moved = b.moved ∙ ap (λ u. after_all supply u fs) a.moved ∙ sym (after-append supply y es fs);
      told = ap₂ ◌++◌ a.told (b.told ∙ ap (λ u. answers supply u fs) a.moved) ∙ sym (answers-append supply y es fs);
    }

-- one question more behind others, whose number did not come
pub not-asked : (qs : List Question) (code : ℕ) (b : Bool) → numbered qs ≡ true → (first_no (qs ++ (ask code b ∷ [])) ≡ code → ⊥)
    → first_no (qs ++ (ask code b ∷ [])) ≡ first_no qs
not-asked qs code b k h =
    test (eqb (first_no qs) 0)
    (λ z. let zero = eqb-true (first_no qs) 0 z in
    let last = behind-passed qs (ask code b ∷ []) k zero in
    test b
    (λ t. last ∙ pick_yes _ _ _ _ t refl ∙ sym zero)
    (λ f. absurd (h (last ∙ pick_no _ _ _ _ f refl))))
    (λ z. first-stays qs (ask code b ∷ []) z)

-- Of a call that is not refused for what is lent to it.
module _ (k : ℕ) (q : for_lent k ≡ false) where
  -- 6, 11, 21 and 28 are not its answer
  pub not-lent : (c : ℕ) → for_lent c ≡ true → k ≡ c → ⊥
  not-lent c t h = false≢true (sym q ∙ ap for_lent h ∙ t)

  module _ (qs : List Question) (some : numbered qs ≡ true) (b : Bool) where
    pub without-28 : k ≡ first_no (qs ++ (ask 28 b ∷ [])) → k ≡ first_no qs
    without-28 e = e ∙ not-asked qs 28 b some (λ h. not-lent 28 refl (e ∙ h))

    pub without-6 : (a : Bool) → k ≡ first_no (ask 6 a ∷ (qs ++ (ask 28 b ∷ []))) → k ≡ first_no qs
    without-6 a e =
        test a
        (λ t. without-28 (e ∙ pick_yes _ _ _ _ t refl))
        (λ f. absurd (not-lent 6 refl (e ∙ pick_no _ _ _ _ f refl)))

-- the numbers that never come
pub never-13 : (a : ℕ) → never_full a ≡ true → a ≡ 13 → ⊥
never-13 a e h = false≢true (sym (ap never_full h) ∙ e)

pub never-18 : (a : ℕ) → never_full a ≡ true → a ≡ 18 → ⊥
never-18 a e h = false≢true (sym (ap never_full h) ∙ e)

-- A part of the supply or of the record that is lent, from the front on: a send and a reply with it are those with all of it.
use Prim.Native.Nat.{ℕ, ◌*◌, ◌≤◌}
use mathlib.Core.Path.{◌≡◌, refl, sym, ◌∙◌, ap}
use mathlib.Core.Bool.{false, true≢false}
use mathlib.Core.List.{List, [], ◌∷◌, ◌++◌, append_assoc, map}
use native.Mathlib.Omega.{arith}
use lib.Dec.{eqb, leb, ltb}
use lib.ListN.{length, take, drop, take-append-drop, length-take}
use borrow.Author.Tests.{leb-true, le-leb}
use Rattle.std.proofs.lemmas.List.{drop-append-le, take-append-le}
use Rattle.limits.specs.declared.Limits.{Limits}
use Rattle.limits.specs.Cells.{legal_row}
use Rattle.limits.specs.Lists.{joined, all}
use Rattle.limits.proofs.Laws.Questions.{each}
use Rattle.limits.specs.Questions.{ask, first_no}
use Rattle.limits.proofs.Laws.Choice.{test, pick_yes, pick_no}
use Rattle.mat.specs.Window.{MatState, outstanding}
use Rattle.mat.specs.Rules.{send_questions, sending}
use Rattle.pad.specs.Window.{PadState, contents}
use Rattle.pad.specs.Rules.{run, reply_questions, replying}
use Rattle.world.specs.Chains.{Front, for_lent}
use Rattle.world.proofs.Laws.Steps.{not-lent}

module _ (part whole : List ℕ) (f : Front part whole) where
  -- the rest stands behind it
  pub behind : part ++ drop (length part) whole ≡ whole
  behind = ap (◌++ drop (length part) whole) f ∙ take-append-drop (length part) whole

  no-longer : length part ≤ length whole
  no-longer = let a = ap length f in let b = length-take (length part) whole in omega arith

  drop-behind : (k : ℕ) → k ≤ length part → drop k part ++ drop (length part) whole ≡ drop k whole
  drop-behind k h = sym (drop-append-le k part (drop (length part) whole) h) ∙ ap (drop k) behind

  same-front : (k : ℕ) → k ≤ length part → take k part ≡ take k whole
  same-front k h = sym (take-append-le k part (drop (length part) whole) h) ∙ ap (take k) behind

  -- a send with a row: it is the row of the whole
  pub same-send : (l : Limits) (s : MatState) → 16 ≤ length part → sending l s part ≡ sending l s whole
  unfolding sending
  same-send l s h = ap (λ row. record {
    state =
        record {
          oldest = s.oldest;
          next = Rattle.limits.specs.Ring.step (2 * l.window) s.next 1;
          rows = s.rows ++ (record { acknowledged = false; cells = row } ∷ []);
          timers = drop 1 s.timers ++ (l.resendwait ∷ []);
        };
    message = record { number = s.next; row = row };
  }) (same-front 16 h)

  -- its questions, where they are passed
  pub asks-send : (l : Limits) (s : MatState) → first_no (send_questions l s part) ≡ 0 → first_no (send_questions l s whole) ≡ 0
  unfolding all
  asks-send l s e =
      let q = each (send_questions l s part) refl e in
      let h = leb-true 16 (length part) q.1.0 in
      pick_yes _ _ _ _ q.0
      (pick_yes _ _ _ _ (le-leb 16 (length whole) (let n = no-longer in omega arith))
      (pick_yes _ _ _ _ (ap legal_row (sym (same-front 16 h)) ∙ q.1.1.0) refl))

  -- those of a reply
  pub asks-reply : (s : PadState) → first_no (reply_questions s (length part)) ≡ 0 → first_no (reply_questions s (length whole)) ≡ 0
  unfolding all
  asks-reply s e =
      let q = each (reply_questions s (length part)) refl e in
      let h = leb-true (16 * run s) (length part) q.1.0 in
      pick_yes _ _ _ _ q.0 (pick_yes _ _ _ _ (le-leb (16 * run s) (length whole) (let n = no-longer in omega arith)) refl)

  -- the record, what is behind the part with it
  pub same-record : (l : Limits) (s : PadState) → 16 * run s ≤ length part
      → (replying l s part).buffer ++ drop (length part) whole ≡ (replying l s whole).buffer
  unfolding replying
  same-record l s h =
      append_assoc (joined (map contents (take (run s) s.slots))) (drop (16 * run s) part) (drop (length part) whole)
      ∙ ap (joined (map contents (take (run s) s.slots)) ++◌) (drop-behind (16 * run s) h)

-- A send or a reply that is refused, and not for what is lent to it, is refused whatever is lent: with 10, with 20.
pub refused-send : (l : Limits) (s : MatState) (part whole : List ℕ) (j : ℕ) → eqb j 0 ≡ false → for_lent j ≡ false → j ≡ first_no (send_questions l s part)
    → j ≡ first_no (send_questions l s whole)
refused-send l s part whole j z q e =
    test (ltb (outstanding s) l.window)
    (λ a. absurd (by_row (e ∙ pick_yes _ _ _ _ a refl)))
    (λ a. e ∙ pick_no _ _ _ _ a refl ∙ sym (pick_no _ _ _ _ a refl))
  where
    by_row : j ≡ first_no (ask 11 (leb 16 (length part)) ∷ ask 12 (legal_row (take 16 part)) ∷ []) → ⊥
    by_row i =
        test (leb 16 (length part))
        (λ t. test (legal_row (take 16 part))
        (λ u. true≢false (sym (ap (λ k. eqb k 0) (i ∙ pick_yes _ _ _ _ t (pick_yes _ _ _ _ u refl))) ∙ z))
        (λ u. not-lent j q 12 refl (i ∙ pick_yes _ _ _ _ t (pick_no _ _ _ _ u refl))))
        (λ t. not-lent j q 11 refl (i ∙ pick_no _ _ _ _ t refl))

pub refused-reply : (s : PadState) (part whole : List ℕ) (j : ℕ) → eqb j 0 ≡ false → for_lent j ≡ false → j ≡ first_no (reply_questions s (length part))
    → j ≡ first_no (reply_questions s (length whole))
refused-reply s part whole j z q e =
    test (ltb 0 (run s))
    (λ a. absurd (by_space (e ∙ pick_yes _ _ _ _ a refl)))
    (λ a. e ∙ pick_no _ _ _ _ a refl ∙ sym (pick_no _ _ _ _ a refl))
  where
    by_space : j ≡ first_no (ask 21 (leb (16 * run s) (length part)) ∷ []) → ⊥
    by_space i =
        test (leb (16 * run s) (length part))
        (λ t. true≢false (sym (ap (λ k. eqb k 0) (i ∙ pick_yes _ _ _ _ t refl)) ∙ z))
        (λ t. not-lent j q 21 refl (i ∙ pick_no _ _ _ _ t refl))

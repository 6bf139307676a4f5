-- Agreement of the events send and resend, and of those that are refused where their bytes are read.
use Prim.Native.Nat.{ℕ, ◌+◌, ◌-◌, ◌*◌, ◌≤◌, ◌<◌}
use mathlib.Core.Path.{◌≡◌, refl, sym, ◌∙◌, ap, ap₂}
use mathlib.Core.Bool.{true, not}
use mathlib.Core.List.{List, [], ◌∷◌, ◌++◌, map, map-append}
use native.Mathlib.Omega.{arith}
use lib.Dec.{eqb, ltb}
use lib.ListN.{length, get_or, drop, set, length-append, length-drop, length-map}
use borrow.Author.Tests.{lt-ltb, ltb-true}
use Rattle.limits.specs.declared.Limits.{Limits}
use Rattle.limits.specs.Lists.{tab, all}
use Rattle.limits.specs.Cells.{row_at}
use Rattle.limits.specs.Questions.{first_no}
use Rattle.limits.specs.Tables.{Message, Data}
use Rattle.limits.specs.Events.{unknown, misfit, send, resend}
use Rattle.mat.specs.Window.{Kept, no_row}
use Rattle.mat.specs.Rules.{sending, resending}
use Rattle.events.specs.Rules as link
use Rattle.unbounded.specs.Ends.{Ends}
use Rattle.unbounded.specs.Rules.{questions}
use Rattle.unbounded.proofs.Laws.Reads.{Reads}
use Rattle.agreement.specs.Reading.{reading, mat_of, data_modulo, timer_of}
use Rattle.agreement.proofs.Laws.Modulo.{step-modulo}
use Rattle.limits.proofs.Laws.Questions.{each}
use Rattle.agreement.proofs.Laws.Agrees.{agrees, none-refused}
use Rattle.agreement.proofs.Laws.Tests.{leb-leb}
use Rattle.agreement.proofs.Laws.Mat.{window-length, window-at, timer-before, timers-sent, timers-resent, rows-sent, rows-resent}
use Rattle.agreement.proofs.Laws.Events.{Room, Asks, Acts, link-path}

-- a table with room for a message more
room-13 : (n : ℕ) (ds : List (Message Data)) (x : Message Data) → length (ds ++ (x ∷ [])) ≤ 32 → ltb (length (map (data_modulo n) ds)) 32 ≡ true
room-13 n ds x h =
    let a = length-append ds (x ∷ []) in let b = length-map ds (data_modulo n) in
    lt-ltb (length (map (data_modulo n) ds)) 32 (omega arith)

module _ (l : Limits) (some : 1 ≤ l.window) (supply : List ℕ) (space : ℕ) (buffer : List ℕ) (s : Ends) where
  pub asks-unknown : Asks l supply space buffer s unknown
  asks-unknown = refl

  pub asks-misfit : Asks l supply space buffer s misfit
  asks-misfit = refl

  pub asks-send : Reads l s → Room l supply space s send → Asks l supply space buffer s send
  unfolding reading
  asks-send r room =
      agrees (link.questions (drop (16 * s.next) supply) (length buffer) (reading l s) send) (questions l supply space s send) (
        refl,
        ap (λ x. ltb x l.window) (window-length s.oldest s.next s.acknowledged s.kept_row),
        λ q10. (
          refl,
          (let d = length-drop (16 * s.next) supply in
              leb-leb 16 (length (drop (16 * s.next) supply)) (16 * (s.next + 1)) (length supply) (λ h. omega arith) (λ h. omega arith)),
          λ q11. (
            refl,
            refl,
            λ q12. (
              room-13 (2 * l.window) s.data_table _ (room (none-refused (questions l supply space s send) (q10, (q11, (q12, tt))))).0,
              tt,
            ),
          ),
        ),
      )

  pub acts-send : Reads l s → first_no (questions l supply space s send) ≡ 0 → Acts l supply buffer s send
  unfolding reading sending
  acts-send r e =
      record {
        state =
            link-path l _ _ _ _ _ _ _ _ _ _ _ _ _ refl (step-modulo (2 * l.window) s.next 1)
            (rows-sent s.oldest s.next s.acknowledged s.kept_row (row_at supply s.next) (omega arith) (r.unsent s.next (omega arith)))
            (timers-sent l.window s.next l.resendwait s.resend_timer some)
            (sym (map-append (data_modulo (2 * l.window)) s.data_table _))
            refl;
        sent = refl;
        acknowledged = omega arith;
        recorded = omega arith;
        buffer = refl;
      }

  -- refused, and so never done; nothing changes
  pub acts-unknown : Acts l supply buffer s unknown
  acts-unknown = record { state = refl; sent = omega arith; acknowledged = omega arith; recorded = omega arith; buffer = refl }

  pub acts-misfit : Acts l supply buffer s misfit
  acts-misfit = record { state = refl; sent = omega arith; acknowledged = omega arith; recorded = omega arith; buffer = refl }

  module _ (k : ℕ) (r : Reads l s) where
    row-at : k < s.next - s.oldest → get_or (mat_of l.window s).rows k no_row ≡ record { acknowledged = s.acknowledged (s.oldest + k); cells = s.kept_row (s.oldest + k) }
    row-at h = window-at s.oldest s.next s.acknowledged s.kept_row k no_row h

    -- where the timer of row oldest + k stands
    place_is : l.window - length (mat_of l.window s).rows + k ≡ l.window - (s.next - s.oldest) + k
    place_is = ap (λ x. l.window - x + k) (window-length s.oldest s.next s.acknowledged s.kept_row)

    timer-at : k < s.next - s.oldest
        → get_or (mat_of l.window s).timers (l.window - length (mat_of l.window s).rows + k) 0 ≡ s.resend_timer (s.oldest + k)
    timer-at h =
        ap (λ x. get_or (tab l.window (timer_of l.window s)) x 0) place_is
        ∙ timer-before l.window s.next s.oldest k s.resend_timer (omega arith) h

    pub asks-resend : Room l supply space s (resend k) → Asks l supply space buffer s (resend k)
    unfolding reading
    asks-resend room =
        agrees (link.questions (drop (16 * s.next) supply) (length buffer) (reading l s) (resend k)) (questions l supply space s (resend k)) (
          refl,
          ap (ltb k) (window-length s.oldest s.next s.acknowledged s.kept_row),
          λ q14. (
            refl,
            ap (λ (x : Kept). not x.acknowledged) (row-at (ltb-true k (s.next - s.oldest) q14)),
            λ q15. (
              refl,
              ap (λ x. eqb x 0) (timer-at (ltb-true k (s.next - s.oldest) q14)),
              λ q16. (
                room-13 (2 * l.window) s.data_table _ (room (none-refused (questions l supply space s (resend k)) (q14, (q15, (q16, tt))))).0,
                tt,
              ),
            ),
          ),
        )

    pub acts-resend : first_no (questions l supply space s (resend k)) ≡ 0 → Acts l supply buffer s (resend k)
    unfolding reading resending all
    acts-resend e =
        let q = each (questions l supply space s (resend k)) refl e in
        let h : k < s.next - s.oldest = ltb-true k (s.next - s.oldest) q.0 in
        record {
          state =
              link-path l _ _ _ _ _ _ _ _ _ _ _ _ _ refl refl
              (rows-resent s.oldest s.next s.acknowledged s.kept_row (s.oldest + k))
              (ap (λ x. set (tab l.window (timer_of l.window s)) x l.resendwait) place_is
              ∙ timers-resent l.window s.next s.oldest k l.resendwait s.resend_timer (omega arith) h)
              (ap₂ (λ m cells. map (data_modulo (2 * l.window)) s.data_table ++ (record { body = record { number = m; row = cells }; life = l.datalife } ∷ []))
              (step-modulo (2 * l.window) s.oldest k) (ap (λ (x : Kept). x.cells) (row-at h))
              ∙ sym (map-append (data_modulo (2 * l.window)) s.data_table _))
              refl;
          sent = omega arith;
          acknowledged = omega arith;
          recorded = omega arith;
          buffer = refl;
        }

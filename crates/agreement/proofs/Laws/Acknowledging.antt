-- Agreement of an arriving reply: the span read on the ring is the span of numbers, and oldest passes the same rows.
use Prim.Native.Nat.{ℕ, ◌+◌, ◌-◌, ◌*◌, ◌%◌, ◌≤◌, ◌<◌}
use mathlib.Core.Path.{◌≡◌, refl, ◌∙◌, ap, ap₂}
use mathlib.Core.List.{List}
use native.Mathlib.Omega.{arith}
use lib.Dec.{ltb}
use lib.ListN.{length, drop, length-map}
use borrow.Author.Tests.{le-leb, ltb-true}
use Rattle.limits.specs.declared.Limits.{Limits}
use Rattle.limits.specs.Lists.{tab, leading, all}
use Rattle.limits.specs.Questions.{first_no}
use Rattle.limits.specs.Ring.{step}
use Rattle.limits.specs.Tables.{span, no_reply}
use Rattle.limits.specs.Events.{arrive_reply}
use Rattle.mat.specs.Window.{Kept, no_row}
use Rattle.mat.specs.Rules.{start_of, marked, passing}
use Rattle.events.specs.Rules as link
use Rattle.unbounded.specs.Ends.{Ends}
use Rattle.unbounded.specs.Rules.{questions, marks, reply_at}
use Rattle.unbounded.proofs.Laws.Reads.{Reads}
use Rattle.agreement.specs.Reading.{reading, mat_of, reply_modulo}
use Rattle.agreement.proofs.Laws.Modulo.{step-modulo, distance-modulo}
use Rattle.limits.proofs.Laws.Questions.{each}
use Rattle.agreement.proofs.Laws.Agrees.{agrees}
use Rattle.limits.proofs.Laws.Mapped.{table_at, table-remove}
use Rattle.agreement.proofs.Laws.Mat.{window, window-length, rows-marked, rows-passed, front-agrees}
use Rattle.agreement.proofs.Laws.Events.{Asks, Acts, link-path}

module _ (l : Limits) (some : 1 ≤ l.window) (supply : List ℕ) (space : ℕ) (buffer : List ℕ) (s : Ends) (p : ℕ) (r : Reads l s) where
  module _ (h : p < length s.reply_table) where
    -- the message as the built mat reads it
    body_is : link.reply_at (reading l s) p ≡ record { first = (reply_at s p).first % (2 * l.window); last = (reply_at s p).last % (2 * l.window) }
    unfolding reading
    body_is = ap (λ x. x.body) (table_at (reply_modulo (2 * l.window)) s.reply_table p _ no_reply h)

    start_is : start_of l (mat_of l.window s) (link.reply_at (reading l s) p) ≡ (reply_at s p).first - s.oldest
    start_is =
        ap (start_of l (mat_of l.window s)) body_is
        ∙ (let i = r.replies p h in distance-modulo (2 * l.window) s.oldest (reply_at s p).first i.1 (omega arith))

    span-is : span l.window (link.reply_at (reading l s) p) ≡ (reply_at s p).last - (reply_at s p).first + 1
    span-is =
        ap (span l.window) body_is
        ∙ (let i = r.replies p h in ap (◌+ 1) (distance-modulo (2 * l.window) (reply_at s p).first (reply_at s p).last i.0 (omega arith)))

  pub asks-arrive_reply : Asks l supply space buffer s (arrive_reply p)
  unfolding reading
  asks-arrive_reply =
      agrees (link.questions (drop (16 * s.next) supply) (length buffer) (reading l s) (arrive_reply p)) (questions l supply space s (arrive_reply p)) (
        refl,
        ap (ltb p) (length-map s.reply_table (reply_modulo (2 * l.window))),
        λ q17. (
          (let h = ltb-true p (length s.reply_table) q17 in
              let a = start_is h in let b = span-is h in let i = r.replies p h in
              let o = window-length s.oldest s.next s.acknowledged s.kept_row in
              le-leb (start_of l (mat_of l.window s) (link.reply_at (reading l s) p) + span l.window (link.reply_at (reading l s) p)) (length (mat_of l.window s).rows) (omega arith)),
          tt,
        ),
      )

  module _ (h : p < length s.reply_table) where
    marked-is : marked (start_of l (mat_of l.window s) (link.reply_at (reading l s) p)) (span l.window (link.reply_at (reading l s) p)) (mat_of l.window s)
        ≡ window s.oldest s.next (marks s (reply_at s p)) s.kept_row
    unfolding marked
    marked-is =
        let i = r.replies p h in
        rows-marked s.oldest s.next s.acknowledged s.kept_row (reply_at s p).first (reply_at s p).last _ _ no_row i.1 i.0 (start_is h) (span-is h)

    passed_is : leading (λ (k : Kept). k.acknowledged)
        (marked (start_of l (mat_of l.window s) (link.reply_at (reading l s) p)) (span l.window (link.reply_at (reading l s) p)) (mat_of l.window s))
        ≡ leading (marks s (reply_at s p)) (tab (s.next - s.oldest) (λ i. s.oldest + i))
    passed_is = ap (leading (λ (k : Kept). k.acknowledged)) marked-is ∙ front-agrees s.oldest s.next (marks s (reply_at s p)) s.kept_row

  pub acts-arrive_reply : first_no (questions l supply space s (arrive_reply p)) ≡ 0 → Acts l supply buffer s (arrive_reply p)
  unfolding reading passing all
  acts-arrive_reply e =
      let q = each (questions l supply space s (arrive_reply p)) refl e in
      let h : p < length s.reply_table = ltb-true p (length s.reply_table) q.0 in
      record {
        state =
            link-path l _ _ _ _ _ _ _ _ _ _ _ _ _
            (ap (step (2 * l.window) (s.oldest % (2 * l.window))) (passed_is h) ∙ step-modulo (2 * l.window) s.oldest _)
            refl
            (ap₂ drop (passed_is h) (marked-is h) ∙ rows-passed s.oldest s.next (marks s (reply_at s p)) s.kept_row _)
            refl refl
            (table-remove (reply_modulo (2 * l.window)) p s.reply_table);
        sent = omega arith;
        acknowledged = ap (s.oldest +◌) (passed_is h);
        recorded = omega arith;
        buffer = refl;
      }

-- Every row that the ends carry is the supply's row of its number, and the record is the front of the supply.
use Prim.Native.Nat.{ℕ, zero, suc, ◌+◌, ◌-◌, ◌*◌, ◌≤◌, ◌<◌}
use mathlib.Core.Path.{◌≡◌, refl, sym, ◌∙◌, ap, ap₂}
use mathlib.Core.Bool.{true, false}
use mathlib.Core.List.{List, [], ◌∷◌, ◌++◌, append_assoc, append-nil}
use native.Mathlib.Omega.{arith}
use lib.Dec.{eqb, ltb}
use borrow.Author.Tests.{eqb-true, ltb-true, leb-true}
use lib.ListN.{length, take}
use lib.Seq.{take-add}
use Rattle.limits.specs.declared.Limits.{Limits}
use Rattle.limits.specs.Lists.{tab, joined}
use Rattle.limits.specs.Cells.{row_at}
use Rattle.limits.specs.Questions.{first_no}
use Rattle.limits.specs.Tables.{Message, Data, Reply, remove, no_data}
use Rattle.limits.specs.Events.{Event, unknown, misfit, send, resend, arrive_data, reply, arrive_reply, lose_data, lose_reply, tick}
use Rattle.limits.proofs.Laws.Lists.{joined-append}
use Rattle.limits.proofs.Laws.Choice.{test, pick-cases, and_left, clash}
use Rattle.limits.proofs.Laws.Good.{Good}
use Rattle.unbounded.specs.Ends.{Ends, fresh, at, run}
use Rattle.unbounded.specs.Rules.{questions, act, after, sent, with_tables, holding, arrived, recording, acknowledging, later, data_at, reply_at}
use Rattle.unbounded.proofs.Laws.Count.{All, all_none, all-put, all_remove, all-at, all-age}
use Rattle.unbounded.proofs.Laws.Invariant.{Base, Inv, asked}
use Rattle.unbounded.proofs.Laws.Base.{at-cases, at_same, at_other, run-ready}
use Rattle.unbounded.proofs.Laws.Keep.{after-keeps}

abbrev pub RowOk : List ℕ → Message Data → Type 0
RowOk supply x = x.body.row ≡ row_at supply x.body.number

pub record Carried (supply : List ℕ) (space : ℕ) (s : Ends) : Type 0 where
  pub kept : (m : ℕ) → m < s.next → s.kept_row m ≡ row_at supply m
  pub datas : All (RowOk supply) s.data_table
  pub rows : (m : ℕ) → s.held m ≡ true → s.held_row m ≡ row_at supply m
  pub recorded : s.recorded ≡ take (16 * s.wanted) supply
  pub supplied : 16 * s.next ≤ length supply
  pub fits : 16 * s.wanted ≤ space

pub fresh-carried : (supply : List ℕ) (space : ℕ) → Carried supply space fresh
fresh-carried supply space =
    record {
      kept = λ m h. absurd (omega arith);
      datas = all_none (RowOk supply);
      rows = λ m e. absurd (clash false e refl);
      recorded = refl;
      supplied = omega arith;
      fits = omega arith;
    }

-- rows behind the front of the supply make a longer front
front-more : (supply : List ℕ) (a n : ℕ) (f : ℕ → List ℕ) → ((i : ℕ) → i < n → f i ≡ row_at supply (a + i))
    → take (16 * a) supply ++ joined (tab n f) ≡ take (16 * (a + n)) supply
unfolding joined tab
front-more supply a zero f rows = append-nil _ ∙ ap (λ k. take k supply) {x = 16 * a} {y = 16 * (a + 0)} (omega arith)
front-more supply a (suc n) f rows =
    ap (take (16 * a) supply ++◌) (joined-append (tab n f) (f n ∷ []) ∙ ap (joined (tab n f) ++◌) (append-nil (f n)))
    ∙ sym (append_assoc (take (16 * a) supply) (joined (tab n f)) (f n))
    ∙ ap₂ ◌++◌ (front-more supply a n f (λ i h. rows i (omega arith))) (rows n (omega arith))
    ∙ sym (take-add (16 * (a + n)) 16 supply)
    ∙ ap (λ k. take k supply) {x = 16 * (a + n) + 16} {y = 16 * (a + suc n)} (omega arith)

module _ (l : Limits) (supply : List ℕ) (space : ℕ) (s : Ends) (c : Carried supply space s) where
  carried-sent : (m next : ℕ) (row : List ℕ) → row ≡ row_at supply m → ((k : ℕ) → k < next → (k ≡ m → ⊥) → k < s.next) → 16 * next ≤ length supply
      → Carried supply space (sent l s m next row)
  carried-sent m next row e more supplied =
      record {
        kept = λ k h.
            at-cases (λ r. r ≡ row_at supply k) m row s.kept_row k (λ q. e ∙ ap (row_at supply) (sym q)) (λ ne. c.kept k (more k h ne));
        datas = all-put _ _ _ c.datas e;
        rows = c.rows;
        recorded = c.recorded;
        supplied = supplied;
        fits = c.fits;
      }

  carried-tables : (datas : List (Message Data)) (replies : List (Message Reply)) → All (RowOk supply) datas → Carried supply space (with_tables s datas replies)
  carried-tables datas replies d =
      record { kept = c.kept; datas = d; rows = c.rows; recorded = c.recorded; supplied = c.supplied; fits = c.fits }

  carried-holding : (x : Data) → x.row ≡ row_at supply x.number → Carried supply space (holding l s x)
  carried-holding x e =
      record {
        kept = c.kept;
        datas = c.datas;
        rows = rows;
        recorded = c.recorded;
        supplied = c.supplied;
        fits = c.fits;
      }
    where
      rows : (m : ℕ) → at x.number true s.held m ≡ true → at x.number x.row s.held_row m ≡ row_at supply m
      rows m h =
          test (eqb m x.number)
          (λ y. at_same x.number x.row s.held_row m y ∙ e ∙ ap (row_at supply) (sym (eqb-true m x.number y)))
          (λ n. at_other x.number x.row s.held_row m n ∙ c.rows m (sym (at_other x.number true s.held m n) ∙ h))

  carried-recording : (n : ℕ) → ((i : ℕ) → i < n → s.held (s.wanted + i) ≡ true) → 16 * (s.wanted + n) ≤ space → Carried supply space (recording s n)
  carried-recording n held room =
      record {
        kept = c.kept;
        datas = c.datas;
        rows = c.rows;
        recorded =
            ap (◌++ joined (tab n (λ i. s.held_row (s.wanted + i)))) c.recorded
            ∙ front-more supply s.wanted n (λ i. s.held_row (s.wanted + i)) (λ i h. c.rows (s.wanted + i) (held i h));
        supplied = c.supplied;
        fits = room;
      }

  carried-acknowledging : (x : Reply) → Carried supply space (acknowledging s x)
  carried-acknowledging x =
      record { kept = c.kept; datas = c.datas; rows = c.rows; recorded = c.recorded; supplied = c.supplied; fits = c.fits }

  carried_later : (d : ℕ) → Carried supply space (later d s)
  carried_later d =
      record {
        kept = c.kept;
        datas = all-age _ _ d _ (λ x h e. e) c.datas;
        rows = c.rows;
        recorded = c.recorded;
        supplied = c.supplied;
        fits = c.fits;
      }

carried-arrived : (l : Limits) (supply : List ℕ) (space : ℕ) (s : Ends) (p : ℕ) → Carried supply space s → p < length s.data_table
    → Carried supply space (arrived l (with_tables s (remove p s.data_table) s.reply_table) (data_at s p))
carried-arrived l supply space s p c h =
    let left = carried-tables l supply space s c (remove p s.data_table) s.reply_table (all_remove _ p _ c.datas) in
    pick-cases (Carried supply space) (ltb (data_at s p).number s.wanted) _ _
    (λ _. carried-tables l supply space _ left _ _ left.datas)
    (λ _. carried-holding l supply space _ left (data_at s p) (all-at (RowOk supply) p s.data_table no_data c.datas h))

pub carried-act : (l : Limits) (g : Good l) (supply : List ℕ) (space : ℕ) (s : Ends) (e : Event) → Base l s → Carried supply space s
    → first_no (questions l supply space s e) ≡ 0 → Carried supply space (act l supply s e)
carried-act l g supply space s unknown b c q = c
carried-act l g supply space s misfit b c q = c
carried-act l g supply space s send b c q =
    let a = asked _ _ _ q (omega arith) in
    let d = asked _ _ _ a.1 (omega arith) in
    carried-sent l supply space s c s.next (s.next + 1) _ refl (λ k h ne. omega arith) (leb-true _ _ d.0)
carried-act l g supply space s (resend k) b c q =
    let a = asked _ _ _ q (omega arith) in
    let out = ltb-true k (s.next - s.oldest) a.0 in
    carried-sent l supply space s c (s.oldest + k) s.next _ (c.kept (s.oldest + k) (omega arith)) (λ j h ne. h) c.supplied
carried-act l g supply space s (arrive_data p) b c q = carried-arrived l supply space s p c (ltb-true _ _ (asked _ _ _ q (omega arith)).0)
carried-act l g supply space s reply b c q =
    let a = asked _ _ _ q (omega arith) in
    let d = asked _ _ _ a.1 (omega arith) in
    carried-recording l supply space _ (carried-tables l supply space s c s.data_table _ c.datas) (run l.window s)
    (λ i h. and_left (s.held (s.wanted + i)) _ (run-ready l g s b i h)) (leb-true _ _ d.0)
carried-act l g supply space s (arrive_reply p) b c q =
    carried-acknowledging l supply space _ (carried-tables l supply space s c s.data_table (remove p s.reply_table) c.datas) (reply_at s p)
carried-act l g supply space s (lose_data p) b c q = carried-tables l supply space s c _ _ (all_remove _ p _ c.datas)
carried-act l g supply space s (lose_reply p) b c q = carried-tables l supply space s c _ _ c.datas
carried-act l g supply space s (tick d) b c q = carried_later l supply space s c d

pub carried-after : (l : Limits) (g : Good l) (supply : List ℕ) (space : ℕ) (s : Ends) (e : Event) → Inv l s → Carried supply space s
    → Carried supply space (after l supply space s e)
carried-after l g supply space s e i c = after-keeps (Carried supply space) l supply space s e c (carried-act l g supply space s e i.base c)

-- Every event keeps `Base`. Nothing here uses that messages are unique.
use Prim.Native.Nat.{ℕ, ◌+◌, ◌-◌, ◌≤◌, ◌<◌}
use mathlib.Core.Path.{◌≡◌, refl, sym, ◌∙◌, ap}
use mathlib.Core.Bool.{true, false, ◌||◌}
use mathlib.Core.List.{List}
use native.Mathlib.Omega.{arith}
use lib.Dec.{eqb, leb, ltb}
use borrow.Author.Tests.{eqb-true, eqb-false, ltb-true, leb-true}
use lib.ListN.{length}
use Rattle.limits.specs.declared.Limits.{Limits}
use Rattle.limits.specs.Lists.{tab, leading}
use Rattle.limits.specs.Questions.{first_no}
use Rattle.limits.specs.Tables.{Message, Data, Reply, remove}
use Rattle.limits.specs.Events.{Event, unknown, misfit, send, resend, arrive_data, reply, arrive_reply, lose_data, lose_reply, tick}
use Rattle.limits.proofs.Laws.Choice.{test, split, pick_yes, pick_no, pick-cases, and_left, and_right, or-goes-on, clash}
use Rattle.limits.proofs.Laws.Lists.{length-tab, leading-most, leading_at, leading_end}
use Rattle.limits.proofs.Laws.Good.{Good}
use Rattle.unbounded.specs.Ends.{Ends, at, ready, run}
use Rattle.unbounded.specs.Rules.{questions, act, sent, replied, with_tables, holding, arrived, recording, marks, acknowledging, later, data_at, reply_at}
use Rattle.unbounded.proofs.Laws.Count.{All, all-put, all_remove, all-at, all-imp, all-age}
use Rattle.unbounded.proofs.Laws.Invariant.{DataOk, ReplyOk, Base, covers, asked}

pub at-cases : {A : Type 0} (P : A → Type 0) (m : ℕ) (v : A) (f : ℕ → A) (k : ℕ) → (k ≡ m → P v) → ((k ≡ m → ⊥) → P (f k)) → P (at m v f k)
unfolding at
at-cases P m v f k same other = pick-cases P (eqb k m) v (f k) (λ e. same (eqb-true k m e)) (λ e. other (eqb-false k m e))

pub at_same : {A : Type 0} (m : ℕ) (v : A) (f : ℕ → A) (k : ℕ) → eqb k m ≡ true → at m v f k ≡ v
unfolding at
at_same m v f k e = pick_yes _ _ _ _ e refl

pub at_other : {A : Type 0} (m : ℕ) (v : A) (f : ℕ → A) (k : ℕ) → eqb k m ≡ false → at m v f k ≡ f k
unfolding at
at_other m v f k e = pick_no _ _ _ _ e refl

-- a timer that runs is not the one that is started
running : (m t n : ℕ) (timer : ℕ → ℕ) (k : ℕ) → (m < n → timer m ≡ 0) → k < n → 0 < timer k → at m t timer k ≡ timer k
running m t n timer k idle h r =
    at-cases (λ x. x ≡ timer k) m t timer k
    (λ e. let q = ap timer e in let z = idle (omega arith) in absurd (omega arith))
    (λ ne. refl)

module _ (l : Limits) (g : Good l) (s : Ends) (b : Base l s) where
  -- row m goes out: a new one, or one whose timer has run out
  pub base-sent : (m next : ℕ) (row : List ℕ) → m < next → s.next ≤ next → next ≤ s.oldest + l.window → (m < s.next → s.resend_timer m ≡ 0)
      → Base l (sent l s m next row)
  base-sent m next row mine more fits idle =
      record {
        low = b.low;
        mid = omega arith;
        high = fits;
        below = b.below;
        first = b.first;
        marked = b.marked;
        datas = all-put _ _ _ (all-imp _ _ _ data-stays b.datas) new;
        replies = all-imp _ _ _ reply-stays b.replies;
        ahead = λ k e h. let a = b.ahead k e h in omega arith;
        bound = λ k e h t. let a = b.ahead k e h in let p = b.bound k e h t in let q = stays k a (omega arith) in omega arith;
      }
    where
      timer : ℕ → ℕ
      timer = at m l.resendwait s.resend_timer

      stays : (k : ℕ) → k < s.next → 0 < s.resend_timer k → timer k ≡ s.resend_timer k
      stays k h r = running m l.resendwait s.next s.resend_timer k idle h r

      data-stays : (x : Message Data) → DataOk l s.next s.resend_timer x → DataOk l next timer x
      data-stays x o =
          let q = stays x.body.number o.sent (omega arith) in
          record { sent = omega arith; alive = o.alive; bound = omega arith }

      reply-stays : (x : Message Reply) → ReplyOk s.wanted s.resend_timer x → ReplyOk s.wanted timer x
      reply-stays x o =
          record {
            ordered = o.ordered;
            passed = o.passed;
            alive = o.alive;
            bound = λ k from upto. let p = o.bound k from upto in let q = stays k (omega arith) (omega arith) in omega arith;
          }

      new : DataOk l next timer (record { body = record { number = m; row = row }; life = l.datalife })
      new =
          record {
            sent = mine;
            alive = omega arith;
            bound = at-cases (λ t. l.datalife + l.replywait + l.replylife ≤ t + 2) m l.resendwait s.resend_timer m (λ e. omega arith) (λ ne. absurd (ne refl));
          }

  pub base-tables : (datas : List (Message Data)) (replies : List (Message Reply)) → All (DataOk l s.next s.resend_timer) datas
      → All (ReplyOk s.wanted s.resend_timer) replies → Base l (with_tables s datas replies)
  base-tables datas replies d r =
      record {
        low = b.low;
        mid = b.mid;
        high = b.high;
        below = b.below;
        first = b.first;
        marked = b.marked;
        datas = d;
        replies = r;
        ahead = b.ahead;
        bound = b.bound;
      }

  pub base-lose-data : (p : ℕ) → Base l (with_tables s (remove p s.data_table) s.reply_table)
  base-lose-data p = base-tables _ _ (all_remove _ p _ b.datas) b.replies

  pub base-lose-reply : (p : ℕ) → Base l (with_tables s s.data_table (remove p s.reply_table))
  base-lose-reply p = base-tables _ _ b.datas (all_remove _ p _ b.replies)

  pub base-replied : (first last : ℕ) → first ≤ last → last < s.wanted → ((m : ℕ) → first ≤ m → m ≤ last → l.replylife ≤ s.resend_timer m)
      → Base l (replied l s first last)
  base-replied first last o h p =
      base-tables _ _ b.datas (all-put _ _ _ b.replies (record { ordered = o; passed = h; alive = omega arith; bound = p }))

  pub base-holding : (x : Data) → x.number < s.next → l.replywait + l.replylife ≤ s.resend_timer x.number + 1 → Base l (holding l s x)
  base-holding x h p =
      record {
        low = b.low;
        mid = b.mid;
        high = b.high;
        below = b.below;
        first = b.first;
        marked = b.marked;
        datas = b.datas;
        replies = b.replies;
        ahead = λ m. at-cases (λ y. y ≡ true → s.wanted ≤ m → m < s.next) x.number true s.held m (λ e _ _. omega arith) (λ ne. b.ahead m);
        bound = bound;
      }
    where
      bound : (m : ℕ) → at x.number true s.held m ≡ true → s.wanted ≤ m → 0 < at x.number l.replywait s.reply_timer m
          → at x.number l.replywait s.reply_timer m + l.replylife ≤ s.resend_timer m + 1
      bound m e h t =
          test (eqb m x.number)
          (λ y. let q = eqb-true m x.number y in
          let a = at_same x.number l.replywait s.reply_timer m y in
          let z = ap s.resend_timer q in omega arith)
          (λ y. let a = at_other x.number l.replywait s.reply_timer m y in
          let r = b.bound m (sym (at_other x.number true s.held m y) ∙ e) h (omega arith) in omega arith)

  pub base-recording : (n : ℕ) → s.wanted + n ≤ s.next → Base l (recording s n)
  base-recording n h =
      record {
        low = omega arith;
        mid = h;
        high = b.high;
        below = b.below;
        first = b.first;
        marked = λ m e. let a = b.marked m e in omega arith;
        datas = b.datas;
        replies = all-imp _ _ _ (λ x o. record { ordered = o.ordered; passed = omega arith; alive = o.alive; bound = o.bound }) b.replies;
        ahead = λ m e k. b.ahead m e (omega arith);
        bound = λ m e k t. b.bound m e (omega arith) t;
      }

  pub base-acknowledging : (x : Reply) → x.last < s.wanted → Base l (acknowledging s x)
  base-acknowledging x h =
      record {
        low = omega (arith, below-wanted);
        mid = b.mid;
        high = omega arith;
        below = passed;
        first = stops;
        marked = marked;
        datas = b.datas;
        replies = b.replies;
        ahead = b.ahead;
        bound = b.bound;
      }
    where
      n : ℕ
      n = leading (marks s x) (tab (s.next - s.oldest) (λ i. s.oldest + i))

      marked : (m : ℕ) → marks s x m ≡ true → m < s.wanted
      marked m e =
          test (s.acknowledged m) (b.marked m)
          (λ a. let c = and_right (leb x.first m) (leb m x.last) (or-goes-on _ _ a ∙ e) in omega (arith, leb-true))

      fits : n ≤ s.next - s.oldest
      fits =
          let a = leading-most (marks s x) (tab (s.next - s.oldest) (λ i. s.oldest + i)) in
          let e = length-tab (s.next - s.oldest) (λ i. s.oldest + i) in omega arith

      front : (i : ℕ) → i < n → marks s x (s.oldest + i) ≡ true
      front i = leading_at (marks s x) (s.next - s.oldest) (λ i. s.oldest + i) i

      below-wanted : s.oldest + n ≤ s.wanted
      below-wanted = split n 0 (λ z. omega arith) (λ some. let a = marked (s.oldest + (n - 1)) (front (n - 1) (omega arith)) in omega arith)

      passed : (m : ℕ) → m < s.oldest + n → marks s x m ≡ true
      passed m k =
          split s.oldest m
          (λ o. ap (marks s x) {x = m} {y = s.oldest + (m - s.oldest)} (omega arith) ∙ front (m - s.oldest) (omega arith))
          (λ o. ap (◌|| covers m x) (b.below m o))

      stops : marks s x (s.oldest + n) ≡ false
      stops =
          test (marks s x (s.oldest + n))
          (λ e. let a = marked (s.oldest + n) e in
          absurd (clash _ e (leading_end (marks s x) (s.next - s.oldest) (λ i. s.oldest + i) (omega arith))))
          (λ e. e)

  pub base-later : (d : ℕ) → Base l (later d s)
  base-later d =
      record {
        low = b.low;
        mid = b.mid;
        high = b.high;
        below = b.below;
        first = b.first;
        marked = b.marked;
        datas = all-age _ _ d _ (λ x h o. record { sent = o.sent; alive = omega arith; bound = omega arith }) b.datas;
        replies =
            all-age _ _ d _
            (λ x h o. record { ordered = o.ordered; passed = o.passed; alive = omega arith; bound = λ m f t. let p = o.bound m f t in omega arith })
            b.replies;
        ahead = b.ahead;
        bound = λ m e h t. let p = b.bound m e h (omega arith) in omega arith;
      }

  -- the run of a reply: rows that the mat sent, and whose timers outlast the reply
  pub run-ready : (i : ℕ) → i < run l.window s → ready s (s.wanted + i) ≡ true
  run-ready i h = leading_at (ready s) l.window (λ i. s.wanted + i) i h

  pub run-some : ready s s.wanted ≡ true → 1 ≤ run l.window s
  run-some e =
      split 1 (run l.window s) (λ h. h)
      (λ h. absurd (clash (ready s s.wanted) e
      (ap (ready s) {x = s.wanted} {y = s.wanted + run l.window s} (omega arith)
      ∙ leading_end (ready s) l.window (λ i. s.wanted + i) (omega arith))))

  pub run_fits : s.wanted + run l.window s ≤ s.next
  run_fits =
      split (run l.window s) 0 (λ z. omega arith)
      (λ some.
      let a = b.ahead (s.wanted + (run l.window s - 1)) (and_left _ _ (run-ready (run l.window s - 1) (omega arith))) (omega arith) in
      omega arith)

  -- a ready row of the window from wanted on, m, has a timer that outlasts a reply
  ready-bound : (m : ℕ) → s.wanted ≤ m → ready s m ≡ true → l.replylife ≤ s.resend_timer m
  ready-bound m h e =
      let t = ltb-true 0 (s.reply_timer m) (and_right (s.held m) _ e) in
      let p = b.bound m (and_left (s.held m) _ e) h t in omega arith

  -- the same by number
  pub run-ready-at : (m : ℕ) → s.wanted ≤ m → m ≤ s.wanted + run l.window s - 1 → 1 ≤ run l.window s → ready s m ≡ true
  run-ready-at m h k some =
      ap (ready s) {x = m} {y = s.wanted + (m - s.wanted)} (omega arith) ∙ run-ready (m - s.wanted) (omega arith)

-- a run is recorded and one reply is put for it
pub base-reply : (l : Limits) (g : Good l) (s : Ends) → Base l s → ready s s.wanted ≡ true
    → Base l (recording (replied l s s.wanted (s.wanted + run l.window s - 1)) (run l.window s))
base-reply l g s b e =
    let some = run-some l g s b e in
    base-replied l g (recording s (run l.window s)) (base-recording l g s b (run l.window s) (run_fits l g s b))
    s.wanted (s.wanted + run l.window s - 1) (omega arith) (omega arith)
    (λ m h k. ready-bound l g s b m h (run-ready-at l g s b m h k some))

pub base-arrived : (l : Limits) (g : Good l) (s : Ends) (p : ℕ) → Base l s → p < length s.data_table
    → Base l (arrived l (with_tables s (remove p s.data_table) s.reply_table) (data_at s p))
base-arrived l g s p b h =
    let o = all-at _ p s.data_table _ b.datas h in
    let left = base-lose-data l g s b p in
    pick-cases (Base l) (ltb (data_at s p).number s.wanted) _ _
    (λ old. base-replied l g _ left _ _ (omega arith) (ltb-true _ _ old)
    (λ m f t. let q = ap s.resend_timer {x = m} {y = (data_at s p).number} (omega arith) in omega arith))
    (λ new. base-holding l g _ left (data_at s p) o.sent (omega arith))

pub base-act : (l : Limits) (g : Good l) (supply : List ℕ) (space : ℕ) (s : Ends) (e : Event) → Base l s
    → first_no (questions l supply space s e) ≡ 0 → Base l (act l supply s e)
base-act l g supply space s unknown b q = b
base-act l g supply space s misfit b q = b
base-act l g supply space s send b q =
    let a = asked _ _ _ q (omega arith) in
    let room = ltb-true (s.next - s.oldest) l.window a.0 in
    base-sent l g s b s.next (s.next + 1) _ (omega arith) (omega arith) (omega arith) (λ h. absurd (omega arith))
base-act l g supply space s (resend k) b q =
    let a = asked _ _ _ q (omega arith) in
    let c = asked _ _ _ a.1 (omega arith) in
    let d = asked _ _ _ c.1 (omega arith) in
    let out = ltb-true k (s.next - s.oldest) a.0 in
    base-sent l g s b (s.oldest + k) s.next _ (omega arith) (omega arith) b.high (λ h. eqb-true _ _ d.0)
base-act l g supply space s (arrive_data p) b q = base-arrived l g s p b (ltb-true _ _ (asked _ _ _ q (omega arith)).0)
base-act l g supply space s reply b q = base-reply l g s b (asked _ _ _ q (omega arith)).0
base-act l g supply space s (arrive_reply p) b q =
    base-acknowledging l g _ (base-lose-reply l g s b p) (reply_at s p)
    (all-at _ p s.reply_table _ b.replies (ltb-true _ _ (asked _ _ _ q (omega arith)).0)).passed
base-act l g supply space s (lose_data p) b q = base-lose-data l g s b p
base-act l g supply space s (lose_reply p) b q = base-lose-reply l g s b p
base-act l g supply space s (tick d) b q = base-later l g s b d

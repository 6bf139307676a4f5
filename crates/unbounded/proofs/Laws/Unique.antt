-- Every event keeps `Unique`, where messages are never copied.
use Prim.Native.Nat.{ℕ, ◌+◌, ◌-◌, ◌≤◌, ◌<◌}
use mathlib.Core.Path.{◌≡◌, refl, sym, ◌∙◌, ap, ap₂}
use mathlib.Core.Bool.{Bool, true, false, ◌&&◌}
use mathlib.Core.List.{List}
use native.Mathlib.Omega.{arith}
use lib.Dec.{eqb, leb, ltb}
use borrow.Author.Tests.{eqb-true, ne_eqb, eq-eqb, ltb-true, leb-true, lt-ltb, not-true}
use lib.ListN.{length}
use Rattle.limits.specs.declared.Limits.{Limits}
use Rattle.limits.specs.Questions.{first_no}
use Rattle.limits.specs.Tables.{Message, Data, Reply, remove, no_data, no_reply}
use Rattle.limits.specs.Events.{Event, unknown, misfit, send, resend, arrive_data, reply, arrive_reply, lose_data, lose_reply, tick}
use Rattle.limits.proofs.Laws.Choice.{test, pick-cases, and_left, and_right, both, or-goes-on, clash}
use Rattle.limits.proofs.Laws.Good.{Good}
use Rattle.unbounded.specs.Ends.{Ends, ready, run}
use Rattle.unbounded.specs.Rules.{questions, act, sent, replied, with_tables, holding, arrived, recording, acknowledging, later, data_at, reply_at}
use Rattle.unbounded.proofs.Laws.Count.{one, one-yes, one-no, count-put, count-remove, count-age, count_no}
use Rattle.unbounded.proofs.Laws.Invariant.{DataOk, ReplyOk, Base, Unique, in_air, numbered, covers, asked}
use Rattle.unbounded.proofs.Laws.Base.{at_other, run-ready-at, run-some}

-- what a passed test of a span says
pub covers-from : (m : ℕ) (x : Reply) → covers m x ≡ true → x.first ≤ m
covers-from m x e = leb-true _ _ (and_left (leb x.first m) _ e)

pub covers-upto : (m : ℕ) (x : Reply) → covers m x ≡ true → m ≤ x.last
covers-upto m x e = leb-true _ _ (and_right (leb x.first m) _ e)

-- no message speaks of a number that is not yet sent, or whose timer has run out
module _ (l : Limits) (g : Good l) (s : Ends) (b : Base l s) (m : ℕ) (idle : m < s.next → s.resend_timer m ≡ 0) where
  idle-data : (x : Message Data) → DataOk l s.next s.resend_timer x → numbered m x.body ≡ false
  idle-data x o =
      ne_eqb x.body.number m
      (λ e. let q = ap s.resend_timer e in let h : m < s.next = (let k = o.sent in omega arith) in let z = idle h in omega arith)

  idle-reply : (x : Message Reply) → ReplyOk s.wanted s.resend_timer x → covers m x.body ≡ false
  idle-reply x o =
      test (covers m x.body)
      (λ e. let f = covers-from m x.body e in let t = covers-upto m x.body e in
      let p = o.bound m f t in let z = idle (omega arith) in absurd (omega arith))
      (λ e. e)

  pub idle-absent : in_air s m ≡ 0
  unfolding in_air
  idle-absent =
      let d = count_no (numbered m) _ s.data_table b.datas idle-data in
      let r = count_no (covers m) _ s.reply_table b.replies idle-reply in omega arith

  pub idle-waiting : s.wanted ≤ m → ready s m ≡ true → ⊥
  idle-waiting h e =
      let held = and_left (s.held m) _ e in
      let t = ltb-true 0 (s.reply_timer m) (and_right (s.held m) _ e) in
      let a = b.ahead m held h in
      let p = b.bound m held h t in
      let z = idle a in omega arith

-- From s to t one message came at most, which speaks of the numbers that pass c. Nothing was marked and nothing became ready.
module _ (l : Limits) (s t : Ends) (u : Unique l s) (c : ℕ → Bool) (air : (k : ℕ) → in_air t k ≤ in_air s k + one (c k))
    (marked : (k : ℕ) → t.acknowledged k ≡ true → s.acknowledged k ≡ true)
    (waits : (k : ℕ) → t.wanted ≤ k → ready t k ≡ true → (s.wanted ≤ k) × (ready s k ≡ true))
    (absent : (k : ℕ) → c k ≡ true → in_air s k ≡ 0) (unmarked : (k : ℕ) → c k ≡ true → t.acknowledged k ≡ true → ⊥)
    (not-ready : (k : ℕ) → c k ≡ true → t.wanted ≤ k → ready t k ≡ true → ⊥) where
  pub one_more : Unique l t
  one_more =
      record {
        unmarked = λ k e.
            test (c k) (λ y. absurd (unmarked k y e))
            (λ n. let a = air k in let z = one-no (c k) n in let o = u.unmarked k (marked k e) in omega arith);
        alone = λ k.
            test (c k) (λ y. let a = air k in let o = one-yes (c k) y in let z = absent k y in omega arith)
            (λ n. let a = air k in let z = one-no (c k) n in let o = u.alone k in omega arith);
        waiting = λ k h e.
            test (c k) (λ y. absurd (not-ready k y h e))
            (λ n. let a = air k in let z = one-no (c k) n in let w = waits k h e in let o = u.waiting k w.0 w.1 in omega arith);
      }

-- the same with no message
pub no_more : (l : Limits) (s t : Ends) → Unique l s → ((k : ℕ) → in_air t k ≤ in_air s k) → ((k : ℕ) → t.acknowledged k ≡ true → s.acknowledged k ≡ true)
    → ((k : ℕ) → t.wanted ≤ k → ready t k ≡ true → (s.wanted ≤ k) × (ready s k ≡ true)) → Unique l t
no_more l s t u air marked waits =
    one_more l s t u (λ k. false) (λ k. let a = air k in omega arith) marked waits
    (λ k e. absurd (clash false e refl)) (λ k e _. clash false e refl) (λ k e _ _. clash false e refl)

-- what is in the air once a message came or left
air-sent : (l : Limits) (s : Ends) (m next : ℕ) (row : List ℕ) (k : ℕ) → in_air (sent l s m next row) k ≡ in_air s k + one (eqb m k)
unfolding in_air
air-sent l s m next row k = let a = count-put (numbered k) (record { body = record { number = m; row = row }; life = l.datalife }) s.data_table in omega arith

air-replied : (l : Limits) (s : Ends) (first last k : ℕ)
    → in_air (replied l s first last) k ≡ in_air s k + one (covers k (record { first = first; last = last }))
unfolding in_air
air-replied l s first last k =
    let a = count-put (covers k) (record { body = record { first = first; last = last }; life = l.replylife }) s.reply_table in omega arith

air-recording : (s : Ends) (n k : ℕ) → in_air (recording s n) k ≡ in_air s k
unfolding in_air
air-recording s n k = refl

air-holding : (l : Limits) (s : Ends) (x : Data) (k : ℕ) → in_air (holding l s x) k ≡ in_air s k
unfolding in_air
air-holding l s x k = refl

air-acknowledging : (s : Ends) (x : Reply) (k : ℕ) → in_air (acknowledging s x) k ≡ in_air s k
unfolding in_air
air-acknowledging s x k = refl

air-less-data : (s : Ends) (p : ℕ) → p < length s.data_table → (k : ℕ)
    → in_air (with_tables s (remove p s.data_table) s.reply_table) k + one (numbered k (data_at s p)) ≡ in_air s k
unfolding in_air
air-less-data s p h k = let a = count-remove (numbered k) p s.data_table no_data h in omega arith

air-less-reply : (s : Ends) (p : ℕ) → p < length s.reply_table → (k : ℕ)
    → in_air (with_tables s s.data_table (remove p s.reply_table)) k + one (covers k (reply_at s p)) ≡ in_air s k
unfolding in_air
air-less-reply s p h k = let a = count-remove (covers k) p s.reply_table no_reply h in omega arith

module _ (l : Limits) (g : Good l) (s : Ends) (b : Base l s) (u : Unique l s) where
  pub unique-sent : (m next : ℕ) (row : List ℕ) → s.acknowledged m ≡ false → (m < s.next → s.resend_timer m ≡ 0) → Unique l (sent l s m next row)
  unique-sent m next row unmarked idle =
      one_more l s (sent l s m next row) u (λ k. eqb m k) (λ k. let a = air-sent l s m next row k in omega arith) (λ k e. e) (λ k h e. (h, e))
      (λ k e. ap (in_air s) (sym (eqb-true m k e)) ∙ idle-absent l g s b m idle)
      (λ k e a. clash (s.acknowledged m) (ap s.acknowledged (eqb-true m k e) ∙ a) unmarked)
      (λ k e h r. let q = eqb-true m k e in idle-waiting l g s b m idle (omega arith) (ap (ready s) q ∙ r))

  pub unique-lose-data : (p : ℕ) → p < length s.data_table → Unique l (with_tables s (remove p s.data_table) s.reply_table)
  unique-lose-data p h = no_more l s _ u (λ k. let a = air-less-data s p h k in omega arith) (λ k e. e) (λ k o e. (o, e))

  pub unique-lose-reply : (p : ℕ) → p < length s.reply_table → Unique l (with_tables s s.data_table (remove p s.reply_table))
  unique-lose-reply p h = no_more l s _ u (λ k. let a = air-less-reply s p h k in omega arith) (λ k e. e) (λ k o e. (o, e))

  air-later : (d k : ℕ) → in_air (later d s) k ≤ in_air s k
  unfolding in_air
  air-later d k = let a = count-age (numbered k) d s.data_table in let c = count-age (covers k) d s.reply_table in omega arith

  pub unique-later : (d : ℕ) → Unique l (later d s)
  unique-later d =
      no_more l s (later d s) u (air-later d) (λ k e. e)
      (λ k h e. let t = ltb-true 0 (s.reply_timer k - d) (and_right (s.held k) _ e) in
      (h, both (s.held k) _ (and_left (s.held k) _ e) (lt-ltb 0 (s.reply_timer k) (omega arith))))

  -- The rows of the run were waiting, and now the reply speaks of them.
  pub unique-reply : ready s s.wanted ≡ true → Unique l (recording (replied l s s.wanted (s.wanted + run l.window s - 1)) (run l.window s))
  unique-reply e =
      one_more l s _ u (λ k. covers k span)
      (λ k. let a = air-replied l s span.first span.last k in let c = air-recording (replied l s span.first span.last) n k in omega arith) (λ k a. a)
      (λ k h r. (omega arith, r))
      (λ k y. u.waiting k (covers-from k span y) (run-ready-at l g s b k (covers-from k span y) (covers-upto k span y) some))
      (λ k y a. let m = b.marked k a in let f = covers-from k span y in omega arith)
      (λ k y h r. let t = covers-upto k span y in omega (arith, some))
    where
      n : ℕ
      n = run l.window s

      span : Reply
      span = record { first = s.wanted; last = s.wanted + run l.window s - 1 }

      some : 1 ≤ run l.window s
      some = run-some l g s b e

-- A data message leaves: the row is old and its reply takes its place, or it waits for its reply.
module _ (l : Limits) (s : Ends) (u : Unique l s) (p : ℕ) (h : p < length s.data_table) where
  abbrev left : Ends
  left = with_tables s (remove p s.data_table) s.reply_table

  abbrev v : ℕ
  v = (data_at s p).number

  -- a reply for v alone speaks of v alone
  only : (k : ℕ) → one (covers k (record { first = v; last = v })) ≤ one (numbered k (data_at s p))
  only k =
      test (covers k (record { first = v; last = v }))
      (λ y. let a = one-yes _ y in let f = covers-from k (record { first = v; last = v }) y in let t = covers-upto k (record { first = v; last = v }) y in
      let q = one-yes (eqb v k) (eq-eqb v k (omega arith)) in omega arith)
      (λ y. let a = one-no _ y in omega arith)

  unique-old : Unique l (replied l left v v)
  unique-old =
      no_more l s (replied l left v v) u
      (λ k. let a = air-less-data s p h k in let c = air-replied l left v v k in let o = only k in omega arith) (λ k e. e) (λ k o e. (o, e))

  held-before : (k : ℕ) → eqb k v ≡ false → ready (holding l left (data_at s p)) k ≡ true → ready s k ≡ true
  held-before k ne e =
      ap₂ (λ a t. a && ltb 0 t) (sym (at_other v true s.held k ne)) (sym (at_other v l.replywait s.reply_timer k ne)) ∙ e

  unique-new : Unique l (holding l left (data_at s p))
  unique-new =
      record {
        unmarked = λ k e. let a = fewer k in let o = u.unmarked k e in omega arith;
        alone = λ k. let a = fewer k in let o = u.alone k in omega arith;
        waiting = λ k o e.
            test (eqb k v)
            (λ y. let a = fewer k in let q = one-yes (eqb v k) (eq-eqb v k (sym (eqb-true k v y))) in let z = u.alone k in omega arith)
            (λ ne. let a = fewer k in let z = u.waiting k o (held-before k ne e) in omega arith);
      }
    where
      fewer : (k : ℕ) → in_air (holding l left (data_at s p)) k + one (eqb v k) ≡ in_air s k
      fewer k = let a = air-less-data s p h k in let c = air-holding l left (data_at s p) k in omega arith

  pub unique-arrived : Unique l (arrived l left (data_at s p))
  unique-arrived = pick-cases (Unique l) (ltb v s.wanted) _ _ (λ _. unique-old) (λ _. unique-new)

-- A reply leaves, and nothing else speaks of the numbers that it marks.
pub unique-acknowledging : (l : Limits) (s : Ends) (p : ℕ) → Unique l s → p < length s.reply_table
    → Unique l (acknowledging (with_tables s s.data_table (remove p s.reply_table)) (reply_at s p))
unique-acknowledging l s p u h =
    record {
      unmarked = λ k e.
          test (s.acknowledged k)
          (λ y. let a = fewer k in let o = u.unmarked k y in omega arith)
          (λ n. let a = fewer k in let o = u.alone k in let q = one-yes (covers k (reply_at s p)) (or-goes-on _ _ n ∙ e) in omega arith);
      alone = λ k. let a = fewer k in let o = u.alone k in omega arith;
      waiting = λ k o e. let a = fewer k in let z = u.waiting k o e in omega arith;
    }
  where
    left : Ends
    left = with_tables s s.data_table (remove p s.reply_table)

    fewer : (k : ℕ) → in_air (acknowledging left (reply_at s p)) k + one (covers k (reply_at s p)) ≡ in_air s k
    fewer k = let a = air-less-reply s p h k in let c = air-acknowledging left (reply_at s p) k in omega arith

pub unique-act : (l : Limits) (g : Good l) (supply : List ℕ) (space : ℕ) (s : Ends) (e : Event) → Base l s → Unique l s
    → first_no (questions l supply space s e) ≡ 0 → Unique l (act l supply s e)
unique-act l g supply space s unknown b u q = u
unique-act l g supply space s misfit b u q = u
unique-act l g supply space s send b u q =
    unique-sent l g s b u s.next (s.next + 1) _
    (test (s.acknowledged s.next) (λ y. let a = b.marked s.next y in absurd (omega arith)) (λ n. n)) (λ h. absurd (omega arith))
unique-act l g supply space s (resend k) b u q =
    let a = asked _ _ _ q (omega arith) in
    let c = asked _ _ _ a.1 (omega arith) in
    let d = asked _ _ _ c.1 (omega arith) in
    unique-sent l g s b u (s.oldest + k) s.next _ (not-true _ c.0) (λ h. eqb-true _ _ d.0)
unique-act l g supply space s (arrive_data p) b u q = unique-arrived l s u p (ltb-true _ _ (asked _ _ _ q (omega arith)).0)
unique-act l g supply space s reply b u q = unique-reply l g s b u (asked _ _ _ q (omega arith)).0
unique-act l g supply space s (arrive_reply p) b u q = unique-acknowledging l s p u (ltb-true _ _ (asked _ _ _ q (omega arith)).0)
unique-act l g supply space s (lose_data p) b u q = unique-lose-data l g s b u p (ltb-true _ _ (asked _ _ _ q (omega arith)).0)
unique-act l g supply space s (lose_reply p) b u q = unique-lose-reply l g s b u p (ltb-true _ _ (asked _ _ _ q (omega arith)).0)
unique-act l g supply space s (tick d) b u q = unique-later l g s b u d

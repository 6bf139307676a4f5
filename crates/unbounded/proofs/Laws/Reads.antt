-- What the invariant says of the windows in which numbers lie, and of the size of the tables.
use Prim.Native.Nat.{ℕ, ◌+◌, ◌-◌, ◌≤◌, ◌<◌}
use mathlib.Core.Path.{◌≡◌, refl}
use mathlib.Core.Bool.{true, false}
use native.Mathlib.Omega.{arith}
use borrow.Author.Tests.{eq-eqb, le-leb}
use lib.ListN.{length}
use Rattle.limits.specs.Tables.{no_data, no_reply}
use Rattle.limits.specs.declared.Limits.{Limits}
use Rattle.limits.proofs.Laws.Choice.{test, split, both}
use Rattle.limits.proofs.Laws.Good.{Good}
use Rattle.unbounded.specs.Ends.{Ends}
use Rattle.unbounded.specs.Rules.{data_at, reply_at}
use Rattle.unbounded.proofs.Laws.Count.{count, one-yes, count-remove, all-at, sum, sum-add, sum-most, pigeonhole}
use Rattle.unbounded.proofs.Laws.Invariant.{Inv, in_air, numbered, covers}

-- What the reading of numbers modulo 2w needs: each message lies within a window.
pub record Reads (l : Limits) (s : Ends) : Type 0 where
  pub low : s.oldest ≤ s.wanted
  pub mid : s.wanted ≤ s.next
  pub high : s.next ≤ s.oldest + l.window
  pub ahead : (m : ℕ) → s.held m ≡ true → s.wanted ≤ m → m < s.next
  pub unsent : (m : ℕ) → s.next ≤ m → s.acknowledged m ≡ false
  pub datas : (p : ℕ) → p < length s.data_table → ((data_at s p).number < s.wanted + l.window) × (s.wanted ≤ (data_at s p).number + l.window)
  pub replies : (p : ℕ) → p < length s.reply_table
      → ((reply_at s p).first ≤ (reply_at s p).last) × (s.oldest ≤ (reply_at s p).first) × ((reply_at s p).last < s.next)

module _ (l : Limits) (s : Ends) (i : Inv l s) where
  data-ok : (p : ℕ) → p < length s.data_table → (data_at s p).number < s.next
  data-ok p h = (all-at _ p s.data_table no_data i.base.datas h).sent

  reply-ok : (p : ℕ) → p < length s.reply_table → ((reply_at s p).first ≤ (reply_at s p).last) × ((reply_at s p).last < s.wanted)
  reply-ok p h =
      let o = all-at _ p s.reply_table no_reply i.base.replies h in
      (o.ordered, o.passed)

  data-counts : (p : ℕ) → p < length s.data_table → 1 ≤ in_air s (data_at s p).number
  unfolding in_air
  data-counts p h =
      let c = count-remove (numbered (data_at s p).number) p s.data_table no_data h in
      let o = one-yes (numbered (data_at s p).number (data_at s p)) (eq-eqb (data_at s p).number (data_at s p).number refl) in omega arith

  reply-counts : (p m : ℕ) → p < length s.reply_table → (reply_at s p).first ≤ m → m ≤ (reply_at s p).last → 1 ≤ in_air s m
  unfolding in_air
  reply-counts p m h f t =
      let c = count-remove (covers m) p s.reply_table no_reply h in
      let o = one-yes (covers m (reply_at s p)) (both _ _ (le-leb _ _ f) (le-leb _ _ t)) in omega arith

  -- what a message speaks of is not marked, and everything below oldest is
  outstanding : (m : ℕ) → 1 ≤ in_air s m → s.oldest ≤ m
  outstanding m h = split s.oldest m (λ k. k) (λ k. let z = i.unique.unmarked m (i.base.below m k) in absurd (omega arith))

pub reads : (l : Limits) (s : Ends) → Good l → Inv l s → Reads l s
reads l s g i =
    record {
      low = i.base.low;
      mid = i.base.mid;
      high = i.base.high;
      ahead = i.base.ahead;
      unsent = λ m h. test (s.acknowledged m) (λ e. let a = i.base.marked m e in absurd (omega arith)) (λ e. e);
      datas = λ p h.
          let a = data-ok l s i p h in
          let o = outstanding l s i (data_at s p).number (data-counts l s i p h) in
          (omega arith, omega arith);
      replies = λ p h.
          let a = reply-ok l s i p h in
          (a.0, outstanding l s i (reply_at s p).first (reply-counts l s i p (reply_at s p).first h (omega arith) a.0), omega arith);
    }

-- Every message speaks of one of the outstanding numbers, and each of these is spoken of once at most.
pub tables : (l : Limits) (s : Ends) → Good l → Inv l s → length s.data_table + length s.reply_table ≤ l.window
unfolding in_air
tables l s g i =
    let d = pigeonhole n (λ j. numbered (s.oldest + j)) (λ x. x.number - s.oldest) s.data_table no_data in-data in
    let r = pigeonhole n (λ j. covers (s.oldest + j)) (λ x. x.first - s.oldest) s.reply_table no_reply in-replies in
    let a = sum-add n (λ j. count (numbered (s.oldest + j)) s.data_table) (λ j. count (covers (s.oldest + j)) s.reply_table) in
    let m = most in omega arith
  where
    n : ℕ
    n = s.next - s.oldest

    in-data : (p : ℕ) → p < length s.data_table
        → ((data_at s p).number - s.oldest < n) × (numbered (s.oldest + ((data_at s p).number - s.oldest)) (data_at s p) ≡ true)
    in-data p h =
        let a = data-ok l s i p h in
        let o = outstanding l s i (data_at s p).number (data-counts l s i p h) in
        (omega arith, eq-eqb (data_at s p).number (s.oldest + ((data_at s p).number - s.oldest)) (omega arith))

    in-replies : (p : ℕ) → p < length s.reply_table
        → ((reply_at s p).first - s.oldest < n) × (covers (s.oldest + ((reply_at s p).first - s.oldest)) (reply_at s p) ≡ true)
    in-replies p h =
        let a = reply-ok l s i p h in
        let o = outstanding l s i (reply_at s p).first (reply-counts l s i p (reply_at s p).first h (omega arith) a.0) in
        let m = s.oldest + ((reply_at s p).first - s.oldest) in
        (omega arith, both _ _ (le-leb (reply_at s p).first m (omega arith)) (le-leb m (reply_at s p).last (omega arith)))

    most : sum n (λ j. in_air s (s.oldest + j)) ≤ n
    most = sum-most n (λ j. in_air s (s.oldest + j)) (λ j h. i.unique.alone (s.oldest + j))

-- The invariant of the unbounded ends. `Base` holds of a link whose air copies messages too, `Unique` of one whose air does not.
use Prim.Native.Nat.{ℕ, ◌+◌, ◌≤◌, ◌<◌}
use mathlib.Core.Path.{◌≡◌, refl}
use mathlib.Core.Bool.{Bool, true, false, ◌&&◌}
use native.Mathlib.Omega.{arith}
use lib.Dec.{eqb, leb}
use Rattle.limits.specs.declared.Limits.{Limits}
use Rattle.limits.specs.Questions.{pick}
use Rattle.limits.specs.Tables.{Message, Data, Reply}
use Rattle.limits.proofs.Laws.Choice.{clash}
use Rattle.limits.proofs.Laws.Good.{Good}
use Rattle.unbounded.specs.Ends.{Ends, fresh, ready}
use Rattle.unbounded.proofs.Laws.Count.{All, all_none, count, count_none}

-- A data message was sent, and the resend timer of its number outlasts it and the reply to it.
pub record DataOk (l : Limits) (next : ℕ) (timer : ℕ → ℕ) (x : Message Data) : Type 0 where
  pub sent : x.body.number < next
  pub alive : 1 ≤ x.life
  pub bound : x.life + l.replywait + l.replylife ≤ timer x.body.number + 2

-- A reply speaks of recorded rows, and the resend timer of each outlasts it.
pub record ReplyOk (wanted : ℕ) (timer : ℕ → ℕ) (x : Message Reply) : Type 0 where
  pub ordered : x.body.first ≤ x.body.last
  pub passed : x.body.last < wanted
  pub alive : 1 ≤ x.life
  pub bound : (m : ℕ) → x.body.first ≤ m → m ≤ x.body.last → x.life ≤ timer m

pub record Base (l : Limits) (s : Ends) : Type 0 where
  pub low : s.oldest ≤ s.wanted
  pub mid : s.wanted ≤ s.next
  pub high : s.next ≤ s.oldest + l.window
  pub below : (m : ℕ) → m < s.oldest → s.acknowledged m ≡ true
  pub first : s.acknowledged s.oldest ≡ false
  pub marked : (m : ℕ) → s.acknowledged m ≡ true → m < s.wanted
  pub datas : All (DataOk l s.next s.resend_timer) s.data_table
  pub replies : All (ReplyOk s.wanted s.resend_timer) s.reply_table
  pub ahead : (m : ℕ) → s.held m ≡ true → s.wanted ≤ m → m < s.next
  pub bound : (m : ℕ) → s.held m ≡ true → s.wanted ≤ m → 0 < s.reply_timer m → s.reply_timer m + l.replylife ≤ s.resend_timer m + 1

abbrev pub numbered : ℕ → Data → Bool
numbered m x = eqb x.number m

abbrev pub covers : ℕ → Reply → Bool
covers m x = leb x.first m && leb m x.last

-- what `data_at` and `reply_at` read past the end of a table
-- how many messages in the air speak of m
unfoldable pub in_air : Ends → ℕ → ℕ
in_air s m = count (numbered m) s.data_table + count (covers m) s.reply_table

-- What a message speaks of is not marked. At most one message speaks of m, and none while m waits for its reply.
pub record Unique (l : Limits) (s : Ends) : Type 0 where
  pub unmarked : (m : ℕ) → s.acknowledged m ≡ true → in_air s m ≡ 0
  pub alone : (m : ℕ) → in_air s m ≤ 1
  pub waiting : (m : ℕ) → s.wanted ≤ m → ready s m ≡ true → in_air s m ≡ 0

pub record Inv (l : Limits) (s : Ends) : Type 0 where
  pub base : Base l s
  pub unique : Unique l s

fresh-base : (l : Limits) → Base l fresh
fresh-base l =
    record {
      low = omega arith;
      mid = omega arith;
      high = omega arith;
      below = λ m h. absurd (omega arith);
      first = refl;
      marked = λ m e. absurd (clash false e refl);
      datas = all_none (DataOk l 0 (λ m. 0));
      replies = all_none (ReplyOk 0 (λ m. 0));
      ahead = λ m e h. absurd (clash false e refl);
      bound = λ m e h t. absurd (clash false e refl);
    }

fresh-air : (m : ℕ) → in_air fresh m ≡ 0
unfolding in_air
fresh-air m = let a = count_none (numbered m) in let b = count_none (covers m) in omega arith

pub fresh-inv : (l : Limits) → Good l → Inv l fresh
fresh-inv l g =
    record {
      base = fresh-base l;
      unique = record { unmarked = λ m e. fresh-air m; alone = λ m. let a = fresh-air m in omega arith; waiting = λ m h e. fresh-air m };
    }

-- a question that was passed, and the rest of the list
pub asked : (b : Bool) (k n : ℕ) → pick b k n ≡ 0 → 0 < n → (b ≡ true) × (k ≡ 0)
unfolding pick
asked true k n e h = (refl, e)
asked false k n e h = absurd (omega arith)

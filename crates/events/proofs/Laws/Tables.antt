-- A link with another table: a message lost, and one that the pad took.
use Prim.Native.Nat.{ℕ, ◌≤◌, ◌<◌}
use mathlib.Core.Path.{◌≡◌, refl, sym, ap, ap₂}
use mathlib.Core.Bool.{Bool, true, false}
use mathlib.Core.List.{List}
use native.Mathlib.Omega.{arith}
use lib.Dec.{ltb}
use lib.ListN.{length}
use Rattle.limits.specs.declared.answer.Refusal.TheVariants.{NoMessage, ReplyTableFull}
use Rattle.std.specs.Prelude.{Ok, Err}
use Rattle.limits.specs.Tables.{Reply, capacity, put, remove}
use Rattle.limits.specs.Events.{lose_data, lose_reply}
use Rattle.limits.proofs.Laws.Choice.{pick_yes, pick_no}
use Rattle.mat.specs.View.{mat_state}
use Rattle.pad.specs.View.{pad_state}
use Rattle.air.specs.Data.{DataTable, data_messages, DataHolds}
use Rattle.air.specs.Replies.{ReplyTable, reply_messages, ReplyHolds}
use Rattle.air.proofs.Laws.Sound.{place-passed, place-refused}
use Rattle.air.specs.Forms.{data_form, reply_form}
use Rattle.air.proofs.Laws.Forms.{count-few, length-messages}
use Rattle.events.specs.declared.Link.{Link}
use Rattle.events.specs.View.{link_state}
use Rattle.events.specs.Lent.{OldTaken}
use Rattle.events.proofs.Laws.Parts.{Parts, whole}
use Rattle.events.proofs.Laws.Ends.{Moves, refused, done}

-- what the counts tell of the tables
module _ (t : DataTable) where
  pub data-below : (p : ℕ) → p < length (data_messages t) → p < t.count
  data-below p h = rw (length-messages data_form t.count t.words) at h

  pub data-room : (b : Bool) → ltb t.count capacity ≡ b → ltb (length (data_messages t)) capacity ≡ b
  data-room b e = rw (length-messages data_form t.count t.words) e

  pub data-most : t.count ≤ 32 → length (data_messages t) ≤ 32
  data-most h = let n = length-messages data_form t.count t.words in omega arith

module _ (t : ReplyTable) where
  pub reply-below : (p : ℕ) → p < length (reply_messages t) → p < t.count
  reply-below p h = rw (length-messages reply_form t.count t.words) at h

  pub reply-room : (b : Bool) → ltb t.count capacity ≡ b → ltb (length (reply_messages t)) capacity ≡ b
  reply-room b e = rw (length-messages reply_form t.count t.words) e

  pub reply-most : t.count ≤ 32 → length (reply_messages t) ≤ 32
  reply-most h = let n = length-messages reply_form t.count t.words in omega arith

-- a sound link has at most 32 messages of each kind in the air
module _ (k : Link) (p : Parts k) where
  pub few-datas : length (data_messages k.datas) ≤ 32
  few-datas = data-most k.datas (count-few data_form _ _ _ p.datas)

  pub few-replies : length (reply_messages k.replies) ≤ 32
  few-replies = reply-most k.replies (count-few reply_form _ _ _ p.replies)

module _ (k : Link) (n : ℕ) (supply b : List ℕ) where
  pub no-data : k.datas.count ≤ n → Moves k supply b b (lose_data n) (tt {0}) k (Err NoMessage)
  unfolding link_state
  no-data f = refused _ _ k k b NoMessage (place-refused (data_messages k.datas) k.datas.count (length-messages data_form k.datas.count k.datas.words) n f) refl

  pub no-reply : k.replies.count ≤ n → Moves k supply b b (lose_reply n) (tt {0}) k (Err NoMessage)
  unfolding link_state
  no-reply f = refused _ _ k k b NoMessage (place-refused (reply_messages k.replies) k.replies.count (length-messages reply_form k.replies.count k.replies.words) n f) refl

  module _ (p : Parts k) where
    pub data-lost : (t : DataTable) → n < k.datas.count → DataHolds k.limits t (remove n (data_messages k.datas))
        → Moves k supply b b (lose_data n) (tt {0}) (record { limits = k.limits; mat = k.mat; pad = k.pad; datas = t; replies = k.replies }) (Ok tt)
    unfolding link_state
    data-lost t f h =
        done _ _ k _ b b tt (sym (place-passed (data_messages k.datas) k.datas.count (length-messages data_form k.datas.count k.datas.words) n f)) refl
        (ap (λ ms. record { limits = k.limits; mat = mat_state k.limits.window k.mat; pad = pad_state k.limits.window k.pad; datas = ms; replies = reply_messages k.replies }) h.1)
        refl
        (whole _ (record { limits = p.limits; mat = p.mat; pad = p.pad; datas = h.0; replies = p.replies }))

    pub reply-lost : (t : ReplyTable) → n < k.replies.count → ReplyHolds k.limits t (remove n (reply_messages k.replies))
        → Moves k supply b b (lose_reply n) (tt {0}) (record { limits = k.limits; mat = k.mat; pad = k.pad; datas = k.datas; replies = t }) (Ok tt)
    unfolding link_state
    reply-lost t f h =
        done _ _ k _ b b tt (sym (place-passed (reply_messages k.replies) k.replies.count (length-messages reply_form k.replies.count k.replies.words) n f)) refl
        (ap (λ ms. record { limits = k.limits; mat = mat_state k.limits.window k.mat; pad = pad_state k.limits.window k.pad; datas = data_messages k.datas; replies = ms }) h.1)
        refl
        (whole _ (record { limits = p.limits; mat = p.mat; pad = p.pad; datas = p.datas; replies = h.0 }))

-- the reply to an old row, and data message n that it takes
module _ (k : Link) (n : ℕ) (x : Reply) (b : List ℕ) where
  -- the reply table has no place for it
  pub old-refused : ltb (length (reply_messages k.replies)) capacity ≡ false → OldTaken k b n x k (Err ReplyTableFull)
  old-refused e = refused _ _ k k b ReplyTableFull (sym (pick_no _ _ _ _ e refl)) refl

  pub old-taken : Parts k → (left : DataTable) → DataHolds k.limits left (remove n (data_messages k.datas))
      → (into : ReplyTable) → ltb (length (reply_messages k.replies)) capacity ≡ true
      → ReplyHolds k.limits into (put (record { body = x; life = k.limits.replylife }) (reply_messages k.replies))
      → OldTaken k b n x (record { limits = k.limits; mat = k.mat; pad = k.pad; datas = left; replies = into }) (Ok tt)
  unfolding link_state
  old-taken p left h into e d =
      done _ _ k _ b b tt (pick_yes _ _ _ _ e refl) refl
      (ap₂ (λ ms rs. record { limits = k.limits; mat = mat_state k.limits.window k.mat; pad = pad_state k.limits.window k.pad; datas = ms; replies = rs }) h.1 d.1)
      refl
      (whole _ (record { limits = p.limits; mat = p.mat; pad = p.pad; datas = h.0; replies = d.0 }))

-- Events of the pad, of losses and of time: the built link answers as the unbounded ends do, and does what they do.
use Prim.Native.Nat.{ℕ, ◌+◌, ◌-◌, ◌*◌, ◌%◌, ◌≤◌}
use mathlib.Core.Path.{◌≡◌, refl, sym, ◌∙◌, ap}
use mathlib.Core.Bool.{true}
use mathlib.Core.List.{List, ◌++◌, map, append_assoc}
use native.Mathlib.Omega.{arith}
use lib.Dec.{leb, ltb}
use borrow.Author.Tests.{lt-ltb, ltb-true}
use lib.ListN.{length, drop, length-map}
use Rattle.limits.specs.declared.Limits.{Limits}
use Rattle.limits.specs.Lists.{tab, joined, all}
use Rattle.limits.specs.Questions.{Question, first_no}
use Rattle.limits.specs.Tables.{Data, Reply, capacity, put}
use Rattle.limits.specs.Events.{Event, arrive_data, reply, lose_data, lose_reply, tick}
use Rattle.limits.proofs.Laws.Questions.{each}
use Rattle.limits.proofs.Laws.Choice.{pick_yes, pick-cases}
use Rattle.mat.specs.Rules as mat
use Rattle.pad.specs.Rules as pad
use Rattle.unbounded.specs.Ends as ends
use Rattle.unbounded.specs.Ends.{Ends}
use Rattle.unbounded.specs.Rules as unbounded
use Rattle.events.specs.State.{LinkState, Moved, unmoved}
use Rattle.events.specs.Rules as link
use Rattle.unbounded.proofs.Laws.Reads.{Reads}
use Rattle.agreement.specs.Reading.{data_modulo, reply_modulo, mat_of, pad_of, reading}
use Rattle.agreement.proofs.Laws.Events.{built, Room, Asks, Acts}
use Rattle.agreement.proofs.Laws.Agrees.{agrees}
use Rattle.limits.proofs.Laws.Mapped.{length-put, table-remove, table-put, table-age}
use Rattle.agreement.proofs.Laws.Pad.{ticked-read, run-read, run-some}
use Rattle.agreement.proofs.Laws.Replying.{answered, reply_read, replying-read, space-read}
use Rattle.agreement.proofs.Laws.Arriving.{arriving-read, arriving-room, fresh_reply}

-- what event e asks of the built link, where the unbounded ends have come to s
abbrev built_questions : Limits → List ℕ → List ℕ → Ends → Event → List Question
built_questions l supply buffer s e = link.questions (drop (16 * s.next) supply) (length buffer) (reading l s) e

-- neither end's numbers nor the record changed
record Still (s u : Ends) : Type 0 where
  next : s.next ≡ u.next
  oldest : s.oldest ≡ u.oldest
  wanted : s.wanted ≡ u.wanted
  recorded : s.recorded ≡ u.recorded

acts-still : (l : Limits) (supply buffer : List ℕ) (s : Ends) (e : Event) (k : LinkState)
    → built l supply buffer s e ≡ unmoved k buffer → k ≡ reading l (unbounded.act l supply s e) → Still s (unbounded.act l supply s e)
    → Acts l supply buffer s e
acts-still l supply buffer s e k is state still =
    record {
      state = ap (λ (a : Moved). a.state) is ∙ state;
      sent = ap (λ (a : Moved). s.next + a.counts.sent) is ∙ (let h = still.next in omega arith);
      acknowledged = ap (λ (a : Moved). s.oldest + a.counts.acknowledged) is ∙ (let h = still.oldest in omega arith);
      recorded = ap (λ (a : Moved). s.wanted + a.counts.recorded) is ∙ (let h = still.wanted in omega arith);
      buffer = ap (λ (a : Moved). s.recorded ++ a.buffer) is
          ∙ ap (◌++ buffer) still.recorded
          ∙ sym (ap (λ (a : Moved). (unbounded.act l supply s e).recorded ++ drop (16 * a.counts.recorded) buffer) is);
    }

-- the built link once the pad made the reply x
abbrev replied_as : LinkState → pad.Replying → LinkState
replied_as k x =
    record { limits = k.limits; mat = k.mat; pad = x.state; datas = k.datas; replies = put (link.reply_out k x.reply) k.replies }

-- every event takes the same first arguments, used or not, so that they are put together in one form
module _ (l : Limits) (some : 1 ≤ l.window) (supply : List ℕ) (space : ℕ) (buffer : List ℕ) (s : Ends) where
  pub asks-lose_data : (p : ℕ) → Asks l supply space buffer s (lose_data p)
  unfolding reading
  asks-lose_data p =
      agrees (built_questions l supply buffer s (lose_data p)) (unbounded.questions l supply space s (lose_data p))
      (refl, ap (ltb p) (length-map s.data_table (data_modulo (2 * l.window))), λ _. tt)

  pub asks-lose_reply : (p : ℕ) → Asks l supply space buffer s (lose_reply p)
  unfolding reading
  asks-lose_reply p =
      agrees (built_questions l supply buffer s (lose_reply p)) (unbounded.questions l supply space s (lose_reply p))
      (refl, ap (ltb p) (length-map s.reply_table (reply_modulo (2 * l.window))), λ _. tt)

  pub asks-tick : (d : ℕ) → Asks l supply space buffer s (tick d)
  asks-tick d = refl

  pub asks-arrive_data : (p : ℕ) → Reads l s → Room l supply space s (arrive_data p) → Asks l supply space buffer s (arrive_data p)
  unfolding reading
  asks-arrive_data p reads room =
      agrees (built_questions l supply buffer s (arrive_data p)) (unbounded.questions l supply space s (arrive_data p)) (
        refl,
        ap (ltb p) (length-map s.data_table (data_modulo (2 * l.window))),
        λ q. (arriving-room l s p reads (ltb-true p (length s.data_table) q) (room (pick_yes _ _ _ _ q refl)).1, tt),
      )

  pub asks-reply : Reads l s → length buffer ≡ space - 16 * s.wanted → 16 * s.wanted ≤ space → Room l supply space s reply → Asks l supply space buffer s reply
  unfolding reading
  asks-reply reads left fits room =
      agrees (built_questions l supply buffer s reply) (unbounded.questions l supply space s reply) (
        refl,
        ap (ltb 0) (run-read l.window s) ∙ run-some l.window s some,
        λ q. (
          refl,
          ap (λ n. leb (16 * n) (length buffer)) (run-read l.window s) ∙ space-read (ends.run l.window s) s.wanted space (length buffer) left fits,
          λ q'. (reply-room (room (pick_yes _ _ _ _ q (pick_yes _ _ _ _ q' refl))).1, tt),
        ),
      )
    where
      reply-room : length (unbounded.act l supply s reply).reply_table ≤ 32 → ltb (length (reading l s).replies) capacity ≡ true
      reply-room h =
          let e = length-map s.reply_table (reply_modulo (2 * l.window)) in
          let e' = length-put (fresh_reply l s.wanted (s.wanted + ends.run l.window s - 1)) s.reply_table in
          lt-ltb (length (map (reply_modulo (2 * l.window)) s.reply_table)) 32 (omega arith)

  pub acts-lose_data : (p : ℕ) → Acts l supply buffer s (lose_data p)
  unfolding reading
  acts-lose_data p =
      acts-still l supply buffer s (lose_data p) _ refl
      (λ i. record {
        limits = l;
        mat = mat_of l.window s;
        pad = pad_of l.window s;
        datas = table-remove (data_modulo (2 * l.window)) p s.data_table i;
        replies = map (reply_modulo (2 * l.window)) s.reply_table;
      })
      (record { next = refl; oldest = refl; wanted = refl; recorded = refl })

  pub acts-lose_reply : (p : ℕ) → Acts l supply buffer s (lose_reply p)
  unfolding reading
  acts-lose_reply p =
      acts-still l supply buffer s (lose_reply p) _ refl
      (λ i. record {
        limits = l;
        mat = mat_of l.window s;
        pad = pad_of l.window s;
        datas = map (data_modulo (2 * l.window)) s.data_table;
        replies = table-remove (reply_modulo (2 * l.window)) p s.reply_table i;
      })
      (record { next = refl; oldest = refl; wanted = refl; recorded = refl })

  pub acts-tick : (d : ℕ) → mat.ticked d (mat_of l.window s) ≡ mat_of l.window (unbounded.later d s) → Acts l supply buffer s (tick d)
  unfolding reading
  acts-tick d mats =
      acts-still l supply buffer s (tick d) _ refl
      (λ i. record {
        limits = l;
        mat = mats i;
        pad = ticked-read l.window d s i;
        datas = table-age (λ (x : Data). record { number = x.number % (2 * l.window); row = x.row }) d s.data_table i;
        replies = table-age (λ (x : Reply). record { first = x.first % (2 * l.window); last = x.last % (2 * l.window) }) d s.reply_table i;
      })
      (record { next = refl; oldest = refl; wanted = refl; recorded = refl })

  pub acts-arrive_data : (p : ℕ) → Reads l s → first_no (unbounded.questions l supply space s (arrive_data p)) ≡ 0 → Acts l supply buffer s (arrive_data p)
  unfolding all
  acts-arrive_data p reads q =
      acts-still l supply buffer s (arrive_data p) _ refl
      (arriving-read l s p reads (ltb-true p (length s.data_table) (each (unbounded.questions l supply space s (arrive_data p)) refl q).0))
      (pick-cases (Still s) _ _ _
      (λ _. record { next = refl; oldest = refl; wanted = refl; recorded = refl })
      (λ _. record { next = refl; oldest = refl; wanted = refl; recorded = refl }))

  pub acts-reply : Reads l s → first_no (unbounded.questions l supply space s reply) ≡ 0 → Acts l supply buffer s reply
  unfolding reading all
  acts-reply reads q =
      record {
        state = ap (replied_as (reading l s)) is
            ∙ (λ i. record {
              limits = l;
              mat = mat_of l.window s;
              pad = pad_of l.window (answered l s (ends.run l.window s));
              datas = map (data_modulo (2 * l.window)) s.data_table;
              replies = table-put (reply_modulo (2 * l.window)) (fresh_reply l s.wanted (s.wanted + ends.run l.window s - 1)) s.reply_table i;
            });
        sent = omega arith;
        acknowledged = omega arith;
        recorded = ap (λ (x : pad.Replying). s.wanted + x.count) is;
        buffer = ap (λ (x : pad.Replying). s.recorded ++ x.buffer) is
            ∙ sym (append_assoc s.recorded (joined (tab (ends.run l.window s) (λ i. s.held_row (s.wanted + i)))) (drop (16 * ends.run l.window s) buffer))
            ∙ ap (λ (x : pad.Replying). (answered l s (ends.run l.window s)).recorded ++ drop (16 * x.count) buffer) (sym is);
      }
    where
      is : pad.replying l (pad_of l.window s) buffer ≡ reply_read l s buffer (ends.run l.window s)
      is = replying-read l s buffer reads (ltb-true 0 (ends.run l.window s) (run-some l.window s some ∙ (each (unbounded.questions l supply space s reply) refl q).0))

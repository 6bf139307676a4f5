-- What an event asks of the unbounded ends, and what it does. They never put 13, 18 and 19.
use Rattle.std.specs.Prelude.{ℕ, ◌+◌, ◌-◌, ◌*◌, Bool, true, false, not, ◌&&◌, ◌||◌, List, [], ◌∷◌, ◌++◌, eqb, leb, ltb, length, get_or}
use Rattle.limits.specs.declared.Limits.{Limits}
use Rattle.limits.specs.Lists.{tab, leading, joined}
use Rattle.limits.specs.Cells.{row_at, legal_row}
use Rattle.limits.specs.Questions.{pick, Question, ask, first_no}
use Rattle.limits.specs.Tables.{Message, Data, Reply, no_data, no_reply, put, remove, age}
use Rattle.limits.specs.Events.{Event, unknown, misfit, send, resend, arrive_data, reply, arrive_reply, lose_data, lose_reply, tick}
use Rattle.unbounded.specs.Ends.{Ends, at, ready, run}

-- `supply` is the lent list of cells, and `space` the length of the record in cells
abbrev pub questions : Limits → List ℕ → ℕ → Ends → Event → List Question
questions l supply space s unknown = ask 8 false ∷ []
questions l supply space s misfit = ask 9 false ∷ []
questions l supply space s send =
    ask 10 (ltb (s.next - s.oldest) l.window)
    ∷ ask 11 (leb (16 * (s.next + 1)) (length supply))
    ∷ ask 12 (legal_row (row_at supply s.next))
    ∷ []
questions l supply space s (resend k) =
    ask 14 (ltb k (s.next - s.oldest)) ∷ ask 15 (not (s.acknowledged (s.oldest + k))) ∷ ask 16 (eqb (s.resend_timer (s.oldest + k)) 0) ∷ []
questions l supply space s (arrive_data p) = ask 17 (ltb p (length s.data_table)) ∷ []
questions l supply space s reply = ask 20 (ready s s.wanted) ∷ ask 21 (leb (16 * (s.wanted + run l.window s)) space) ∷ []
questions l supply space s (arrive_reply p) = ask 17 (ltb p (length s.reply_table)) ∷ []
questions l supply space s (lose_data p) = ask 17 (ltb p (length s.data_table)) ∷ []
questions l supply space s (lose_reply p) = ask 17 (ltb p (length s.reply_table)) ∷ []
questions l supply space s (tick d) = []

-- the ends with other values at the mat, at the pad, and in the air
abbrev pub with_mat : Ends → ℕ → ℕ → (ℕ → Bool) → (ℕ → ℕ) → (ℕ → List ℕ) → Ends
with_mat s oldest next acknowledged resend_timer kept_row =
    record {
      oldest = oldest;
      next = next;
      wanted = s.wanted;
      acknowledged = acknowledged;
      resend_timer = resend_timer;
      kept_row = kept_row;
      held = s.held;
      reply_timer = s.reply_timer;
      held_row = s.held_row;
      data_table = s.data_table;
      reply_table = s.reply_table;
      recorded = s.recorded;
    }

abbrev pub with_pad : Ends → ℕ → (ℕ → Bool) → (ℕ → ℕ) → (ℕ → List ℕ) → List ℕ → Ends
with_pad s wanted held reply_timer held_row recorded =
    record {
      oldest = s.oldest;
      next = s.next;
      wanted = wanted;
      acknowledged = s.acknowledged;
      resend_timer = s.resend_timer;
      kept_row = s.kept_row;
      held = held;
      reply_timer = reply_timer;
      held_row = held_row;
      data_table = s.data_table;
      reply_table = s.reply_table;
      recorded = recorded;
    }

abbrev pub with_tables : Ends → List (Message Data) → List (Message Reply) → Ends
with_tables s datas replies =
    record {
      oldest = s.oldest;
      next = s.next;
      wanted = s.wanted;
      acknowledged = s.acknowledged;
      resend_timer = s.resend_timer;
      kept_row = s.kept_row;
      held = s.held;
      reply_timer = s.reply_timer;
      held_row = s.held_row;
      data_table = datas;
      reply_table = replies;
      recorded = s.recorded;
    }

-- row m goes out: a message with a full life, and its resend timer started; `next` is the number to be sent after it
abbrev pub sent : Limits → Ends → ℕ → ℕ → List ℕ → Ends
sent l s m next row =
    with_mat (with_tables s (put (record { body = record { number = m; row = row }; life = l.datalife }) s.data_table) s.reply_table)
    s.oldest next s.acknowledged (at m l.resendwait s.resend_timer) (at m row s.kept_row)

-- a reply for the numbers from first to last is put with the reply life
abbrev pub replied : Limits → Ends → ℕ → ℕ → Ends
replied l s first last =
    with_tables s s.data_table (put (record { body = record { first = first; last = last }; life = l.replylife }) s.reply_table)

-- the row is held, whatever was there, and its reply timer starts
abbrev pub holding : Limits → Ends → Data → Ends
holding l s x =
    with_pad s s.wanted (at x.number true s.held)
    (at x.number l.replywait s.reply_timer)
    (at x.number x.row s.held_row) s.recorded

-- an old row gets a reply of its own, any other is held
abbrev pub arrived : Limits → Ends → Data → Ends
arrived l s x = pick (ltb x.number s.wanted) (replied l s x.number x.number) (holding l s x)

-- n rows from wanted on go to the record, and wanted passes them
abbrev pub recording : Ends → ℕ → Ends
recording s n =
    with_pad s (s.wanted + n) s.held s.reply_timer s.held_row (s.recorded ++ joined (tab n (λ i. s.held_row (s.wanted + i))))

-- marks once the span of a reply is added
abbrev pub marks : Ends → Reply → ℕ → Bool
marks s x m = s.acknowledged m || (leb x.first m && leb m x.last)

-- oldest moves on to the first number without a mark, and no further than next
abbrev pub acknowledging : Ends → Reply → Ends
acknowledging s x =
    with_mat s (s.oldest + leading (marks s x) (tab (s.next - s.oldest) (λ i. s.oldest + i))) s.next (marks s x) s.resend_timer s.kept_row

-- every timer and life falls by d
abbrev pub later : ℕ → Ends → Ends
later d s =
    with_mat
    (with_pad (with_tables s (age d s.data_table) (age d s.reply_table)) s.wanted s.held (λ m. s.reply_timer m - d) s.held_row s.recorded)
    s.oldest s.next s.acknowledged (λ m. s.resend_timer m - d) s.kept_row

abbrev pub data_at : Ends → ℕ → Data
data_at s p = (get_or s.data_table p no_data).body

abbrev pub reply_at : Ends → ℕ → Reply
reply_at s p = (get_or s.reply_table p no_reply).body

-- what an event does that passed its questions
abbrev pub act : Limits → List ℕ → Ends → Event → Ends
act l supply s unknown = s
act l supply s misfit = s
act l supply s send = sent l s s.next (s.next + 1) (row_at supply s.next)
act l supply s (resend k) = sent l s (s.oldest + k) s.next (s.kept_row (s.oldest + k))
act l supply s (arrive_data p) = arrived l (with_tables s (remove p s.data_table) s.reply_table) (data_at s p)
act l supply s reply = recording (replied l s s.wanted (s.wanted + run l.window s - 1)) (run l.window s)
act l supply s (arrive_reply p) = acknowledging (with_tables s s.data_table (remove p s.reply_table)) (reply_at s p)
act l supply s (lose_data p) = with_tables s (remove p s.data_table) s.reply_table
act l supply s (lose_reply p) = with_tables s s.data_table (remove p s.reply_table)
act l supply s (tick d) = later d s

abbrev pub answer : Limits → List ℕ → ℕ → Ends → Event → ℕ
answer l supply space s e = first_no (questions l supply space s e)

-- A refused event changes nothing.
unfoldable pub after : Limits → List ℕ → ℕ → Ends → Event → Ends
after l supply space s e = pick (eqb (answer l supply space s e) 0) (act l supply s e) s

-- An arriving row at the built link is one at the unbounded ends, read modulo 2w.
use Prim.Native.Nat.{ℕ, ◌*◌, ◌≤◌, ◌<◌}
use mathlib.Core.Path.{◌≡◌, refl, ◌∙◌, ap, ap₂}
use mathlib.Core.Bool.{Bool, true, false, not, ◌||◌}
use mathlib.Core.List.{map}
use native.Mathlib.Omega.{arith}
use lib.Dec.{ltb}
use borrow.Author.Tests.{lt-ltb}
use lib.ListN.{length, length-map}
use Rattle.limits.specs.declared.Limits.{Limits}
use Rattle.limits.specs.Questions.{pick}
use Rattle.limits.specs.Tables.{Message, Data, Reply, capacity, remove}
use Rattle.pad.specs.Rules as pad
use Rattle.unbounded.specs.Ends.{Ends}
use Rattle.unbounded.specs.Rules as unbounded
use Rattle.events.specs.Rules as link
use Rattle.unbounded.proofs.Laws.Reads.{Reads}
use Rattle.agreement.specs.Reading.{data_modulo, reply_modulo, mat_of, pad_of, reading}
use Rattle.limits.proofs.Laws.Mapped.{length-put, table_at, table-remove, table-put}
use Rattle.agreement.proofs.Laws.Pad.{number_read, old_row, new_row, arrival-read}

-- a reply with a full life
abbrev pub fresh_reply : Limits → ℕ → ℕ → Message Reply
fresh_reply l first last = record { body = record { first = first; last = last }; life = l.replylife }

module _ (l : Limits) (s : Ends) (p : ℕ) (reads : Reads l s) (h : p < length s.data_table) where
  pub data-read : link.data_at (reading l s) p ≡ number_read l s (unbounded.data_at s p)
  unfolding reading
  data-read = ap (λ (x : Message Data). x.body) (table_at (data_modulo (2 * l.window)) s.data_table p _ _ h)

  -- what the pad makes of message p
  pub arrival-is : link.arrival_at (reading l s) p
      ≡ pick (ltb (unbounded.data_at s p).number s.wanted) (old_row l s (unbounded.data_at s p)) (new_row l s (unbounded.data_at s p))
  unfolding reading
  arrival-is =
      let b = reads.datas p h in
      ap (pad.arrival l (pad_of l.window s)) data-read ∙ arrival-read l s (unbounded.data_at s p) b.0 b.1

-- the unbounded ends without message p
abbrev pub without : Ends → ℕ → Ends
without s p = unbounded.with_tables s (remove p s.data_table) s.reply_table

module _ (l : Limits) (s : Ends) (p : ℕ) where
  taken-read : (x : Data) (b : Bool)
      → link.taken (reading l s) p (pick b (old_row l s x) (new_row l s x))
      ≡ reading l (pick b (unbounded.replied l (without s p) x.number x.number) (unbounded.holding l (without s p) x))
  unfolding reading pick
  taken-read x true =
      λ i. record {
        limits = l;
        mat = mat_of l.window s;
        pad = pad_of l.window s;
        datas = table-remove (data_modulo (2 * l.window)) p s.data_table i;
        replies = table-put (reply_modulo (2 * l.window)) (fresh_reply l x.number x.number) s.reply_table i;
      }
  taken-read x false =
      λ i. record {
        limits = l;
        mat = mat_of l.window s;
        pad = pad_of l.window (unbounded.holding l s x);
        datas = table-remove (data_modulo (2 * l.window)) p s.data_table i;
        replies = map (reply_modulo (2 * l.window)) s.reply_table;
      }

  -- the link after the arrival
  pub arriving-read : Reads l s → p < length s.data_table
      → link.taken (reading l s) p (link.arrival_at (reading l s) p) ≡ reading l (unbounded.arrived l (without s p) (unbounded.data_at s p))
  arriving-read reads h =
      ap (link.taken (reading l s) p) (arrival-is l s p reads h) ∙ taken-read (unbounded.data_at s p) (ltb (unbounded.data_at s p).number s.wanted)

  -- an old row finds room for its reply
  room-with : (x : Data) (b : Bool)
      → length (pick b (unbounded.replied l (without s p) x.number x.number) (unbounded.holding l (without s p) x)).reply_table ≤ 32
      → (not (pick b (old_row l s x) (new_row l s x)).old || ltb (length s.reply_table) capacity) ≡ true
  unfolding pick
  room-with x true h =
      let e = length-put (fresh_reply l x.number x.number) s.reply_table in
      lt-ltb (length s.reply_table) 32 (omega arith)
  room-with x false h = refl

  pub arriving-room : Reads l s → p < length s.data_table → length (unbounded.arrived l (without s p) (unbounded.data_at s p)).reply_table ≤ 32
      → (not (link.arrival_at (reading l s) p).old || ltb (length (reading l s).replies) capacity) ≡ true
  unfolding reading
  arriving-room reads h fits =
      ap₂ (λ (y : pad.Arrival) n. not y.old || ltb n capacity) (arrival-is l s p reads h) (length-map s.reply_table (reply_modulo (2 * l.window)))
      ∙ room-with (unbounded.data_at s p) (ltb (unbounded.data_at s p).number s.wanted) fits

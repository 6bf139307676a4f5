-- The unbounded ends read as the built ones: numbers modulo 2w, and of all rows those in the windows of mat and pad.
use Rattle.std.specs.Prelude.{ℕ, ◌+◌, ◌-◌, ◌*◌, ◌%◌, map, leb}
use Rattle.limits.specs.declared.Limits.{Limits}
use Rattle.limits.specs.Lists.{tab}
use Rattle.limits.specs.Questions.{pick}
use Rattle.limits.specs.Tables.{Message, Data, Reply}
use Rattle.mat.specs.Window.{Kept, MatState}
use Rattle.pad.specs.Window.{Slot, empty, full, PadState}
use Rattle.unbounded.specs.Ends.{Ends}
use Rattle.events.specs.State.{LinkState}

-- mark and cells of number m at the mat
abbrev pub kept_of : Ends → ℕ → Kept
kept_of s m = record { acknowledged = s.acknowledged m; cells = s.kept_row m }

-- the resend timer of row next - w + i; 0 where there is no such row
abbrev pub timer_of : ℕ → Ends → ℕ → ℕ
timer_of w s i = pick (leb w (s.next + i)) (s.resend_timer (s.next + i - w)) 0

-- number m at the pad: not held, or held with its reply timer and its cells
abbrev pub slot_of : Ends → ℕ → Slot
slot_of s m = pick (s.held m) (full (s.reply_timer m) (s.held_row m)) empty

abbrev pub data_modulo : ℕ → Message Data → Message Data
data_modulo n x = record { body = record { number = x.body.number % n; row = x.body.row }; life = x.life }

abbrev pub reply_modulo : ℕ → Message Reply → Message Reply
reply_modulo n x = record { body = record { first = x.body.first % n; last = x.body.last % n }; life = x.life }

abbrev pub mat_of : ℕ → Ends → MatState
mat_of w s =
    record {
      oldest = s.oldest % (2 * w);
      next = s.next % (2 * w);
      rows = tab (s.next - s.oldest) (λ i. kept_of s (s.oldest + i));
      timers = tab w (timer_of w s);
    }

abbrev pub pad_of : ℕ → Ends → PadState
pad_of w s = record { wanted = s.wanted % (2 * w); slots = tab w (λ i. slot_of s (s.wanted + i)) }

unfoldable pub reading : Limits → Ends → LinkState
reading l s =
    record {
      limits = l;
      mat = mat_of l.window s;
      pad = pad_of l.window s;
      datas = map (data_modulo (2 * l.window)) s.data_table;
      replies = map (reply_modulo (2 * l.window)) s.reply_table;
    }

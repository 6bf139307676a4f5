-- The built ends agree with the unbounded ends: every clause of the comparison.
use Rattle.std.specs.Prelude.{ℕ, ◌+◌, ◌*◌, ◌≤◌, ◌≡◌, Bool, true, not, ◌||◌, List, ◌++◌, eqb, length, take, drop, Ok}
use Rattle.limits.specs.declared.Limits.{Limits}
use Rattle.limits.specs.Answer.{number_of}
use Rattle.limits.specs.Lists.{all}
use Rattle.limits.specs.Limits.{accepted}
use Rattle.mat.specs.View.{mat_state}
use Rattle.pad.specs.View.{pad_state}
use Rattle.air.specs.Data.{data_messages}
use Rattle.air.specs.Replies.{reply_messages}
use Rattle.unbounded.specs.Ends.{Ends, fresh}
use Rattle.unbounded.specs.Lists.{answers, after_all}
use Rattle.events.specs.declared.Link.{Link}
use Rattle.link.specs.View.{Opened}
use Rattle.agreement.specs.Reading.{reading}
use Rattle.agreement.specs.Calls.{Made, Line, start, Chain, end_of, all_events, all_numbers}

-- `x` is where the calls have come to, and `s` where the unbounded ends have; `first` is the record as it was at first
pub record Same (l : Limits) (supply first : List ℕ) (x : Line) (s : Ends) : Type 0 where
  pub sent : x.counts.sent ≡ s.next
  pub acknowledged : x.counts.acknowledged ≡ s.oldest
  pub recorded : x.counts.recorded ≡ s.wanted
  pub limits : x.link.limits ≡ l
  pub oldest : x.link.mat.oldest ≡ (reading l s).mat.oldest
  pub next : x.link.mat.next ≡ (reading l s).mat.next
  pub wanted : x.link.pad.wanted ≡ (reading l s).pad.wanted
  pub data_table : data_messages x.link.datas ≡ (reading l s).datas
  pub reply_table : reply_messages x.link.replies ≡ (reading l s).replies
  pub outstanding : (mat_state l.window x.link.mat).rows ≡ (reading l s).mat.rows
  pub resend_timers : (mat_state l.window x.link.mat).timers ≡ (reading l s).mat.timers
  pub held_rows : (pad_state l.window x.link.pad).slots ≡ (reading l s).pad.slots
  pub record_is : x.buffer ≡ s.recorded ++ drop (16 * s.wanted) first
  pub rows_in_order : s.recorded ≡ take (16 * s.wanted) supply
  pub acknowledged_recorded : s.oldest ≤ s.wanted
  pub recorded_sent : s.wanted ≤ s.next
  pub sent_window : s.next ≤ s.oldest + l.window
  pub supplied : 16 * s.next ≤ length supply
  pub record_fits : 16 * s.wanted ≤ length first

-- 13, 18 and 19 are not among the numbers
abbrev pub never_full : ℕ → Bool
never_full n = not (eqb n 13 || (eqb n 18 || eqb n 19))

pub record Agreed (l : Limits) (supply first : List ℕ) (x : Line) (cs : List Made) : Type 0 where
  pub answers : all_numbers supply cs ≡ answers l supply (length first) fresh (all_events supply cs)
  pub same : Same l supply first (end_of x cs) (after_all l supply (length first) fresh (all_events supply cs))
  pub never_refused : all never_full (all_numbers supply cs) ≡ true
  pub never_unsound : all (λ (c : Made). not (eqb (number_of c.result) 4)) cs ≡ true

-- Demand 3: whatever was opened, whatever is called and whatever the air did.
abbrev pub Agreement : Type 0
Agreement =
    (asked : Limits) (k : Link) → Opened asked (Ok k)
    → (supply first : List ℕ) (cs : List Made) → Chain supply (start k first) cs
    → Agreed (accepted asked) supply first (start k first) cs

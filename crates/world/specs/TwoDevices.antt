-- Two devices with nothing but frames between them are the link.
use Rattle.std.specs.Prelude.{ℕ, ◌+◌, ◌*◌, ◌≤◌, ◌≡◌, Bool, true, not, List, ◌++◌, eqb, length, map, take, drop, Result, Ok}
use Rattle.limits.specs.declared.Limits.{Limits}
use Rattle.limits.specs.declared.answer.Refusal.{Refusal}
use Rattle.limits.specs.Answer.{number_of}
use Rattle.limits.specs.Lists.{all}
use Rattle.limits.specs.Limits.{accepted}
use Rattle.limits.specs.Questions.{first_no}
use Rattle.limits.specs.Tables.{on_body}
use Rattle.mat.specs.View.{mat_state}
use Rattle.pad.specs.View.{pad_state}
use Rattle.devices.specs.declared.MatDevice.{MatDevice}
use Rattle.devices.specs.declared.PadDevice.{PadDevice}
use Rattle.devices.specs.Frames.{data_questions, reply_questions, data_in, reply_in}
use Rattle.devices.specs.Mats as mats
use Rattle.devices.specs.Pads as pads
use Rattle.unbounded.specs.Ends.{Ends, fresh}
use Rattle.unbounded.specs.Lists as unbounded
use Rattle.events.specs.State.{Moved, unmoved}
use Rattle.events.specs.View.{link_state}
use Rattle.lists.specs.Runs as link
use Rattle.link.specs.View.{fresh_link}
use Rattle.agreement.specs.Reading.{reading}
use Rattle.agreement.specs.Agreed.{never_full}
use Rattle.world.specs.World.{InAir, World, Made, ticked, start}
use Rattle.world.specs.Chains.{Chain, end_of, number, all_events, all_numbers}

-- A world as the link whose tables hold the messages of the frames in the air, with the lives that are left to them.
abbrev pub as_link : Limits → World → Moved
as_link l x =
    record {
      state =
          record {
            limits = l;
            mat = mat_state l.window x.mat.mat;
            pad = pad_state l.window x.pad.pad;
            datas = map (on_body data_in) x.datas;
            replies = map (on_body reply_in) x.replies;
          };
      counts = x.counts;
      buffer = x.buffer;
    }

-- frames that pass every question of the device that they go to
abbrev pub good_data : Limits → InAir → Bool
good_data l f = eqb (first_no (data_questions l f.body)) 0

abbrev pub good_reply : Limits → InAir → Bool
good_reply l f = eqb (first_no (reply_questions l f.body)) 0

-- both devices answer a tick alike
abbrev pub alike : Made → Bool
alike (ticked d mat r pad q) = eqb (number_of r) (number_of q)
alike c = true

-- The rules of the link, from its fresh state, on the events that happened: the answers, and all that is left.
pub record IsTheLink (l : Limits) (supply first : List ℕ) (x : World) (cs : List Made) : Type 0 where
  pub answers : all_numbers cs ≡ link.answers supply (unmoved (link_state (fresh_link l)) first) (all_events cs)
  pub same : as_link l x ≡ link.after_all supply (unmoved (link_state (fresh_link l)) first) (all_events cs)
  pub limits : (x.mat.limits ≡ l) × (x.pad.limits ≡ l)
  pub data_frames : all (good_data l) x.datas ≡ true
  pub reply_frames : all (good_reply l) x.replies ≡ true
  pub ticks : all alike cs ≡ true

-- Whatever is handed to a device next that is no frame for it is refused with the number of its own question, and changes nothing.
pub record NoiseIsRefused (l : Limits) (x : World) : Type 0 where
  pub at_mat : (bytes : List ℕ) (mat : MatDevice) (r : Result ℕ Refusal) → (first_no (reply_questions l bytes) ≡ 0 → ⊥)
      → mats.ReceiveCall x.mat bytes mat r → (number_of r ≡ first_no (reply_questions l bytes)) × (mat ≡ x.mat)
  pub at_pad : (bytes before after : List ℕ) (pad : PadDevice) (r : Result ℕ Refusal) → (first_no (data_questions l bytes) ≡ 0 → ⊥)
      → pads.ReceiveCall x.pad bytes before pad after r → (number_of r ≡ first_no (data_questions l bytes)) × (pad ≡ x.pad) × (after ≡ before)

-- Demand 3: `s` is where the unbounded ends have come to. The record is the first rows sent, in order, each once.
pub record IsUnbounded (l : Limits) (supply first : List ℕ) (x : World) (s : Ends) : Type 0 where
  pub ends : (as_link l x).state ≡ reading l s
  pub sent : x.counts.sent ≡ s.next
  pub acknowledged : x.counts.acknowledged ≡ s.oldest
  pub recorded : x.counts.recorded ≡ s.wanted
  pub record_is : x.buffer ≡ take (16 * x.counts.recorded) supply ++ drop (16 * x.counts.recorded) first
  pub acknowledged_recorded : x.counts.acknowledged ≤ x.counts.recorded
  pub recorded_sent : x.counts.recorded ≤ x.counts.sent
  pub sent_window : x.counts.sent ≤ x.counts.acknowledged + l.window
  pub supplied : 16 * x.counts.sent ≤ length supply
  pub record_fits : 16 * x.counts.recorded ≤ length first

pub record Agreed (l : Limits) (supply first : List ℕ) (x : World) (cs : List Made) : Type 0 where
  pub link : IsTheLink l supply first (end_of x cs) cs
  pub noise : NoiseIsRefused l (end_of x cs)
  pub answers : all_numbers cs ≡ unbounded.answers l supply (length first) fresh (all_events cs)
  pub unbounded : IsUnbounded l supply first (end_of x cs) (unbounded.after_all l supply (length first) fresh (all_events cs))
  pub never_refused : all never_full (all_numbers cs) ≡ true
  pub never_unsound : all (λ c. not (eqb (number c) 4)) cs ≡ true

-- Whatever is called on two devices from fresh that were opened with the same accepted limits, and whatever the air does.
abbrev pub TwoDevices : Type 0
TwoDevices =
    (asked other : Limits) (mat : MatDevice) (pad : PadDevice) → mats.Opened asked (Ok mat) → pads.Opened other (Ok pad)
    → accepted other ≡ accepted asked → (supply first : List ℕ) (cs : List Made) → Chain supply (start mat pad first) cs
    → Agreed (accepted asked) supply first (start mat pad first) cs

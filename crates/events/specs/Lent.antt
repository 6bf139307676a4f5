-- A link whose arrays are lent, and events as the enum of them.
use Rattle.std.specs.Prelude.{ℕ, ◌≡◌, Bool, List, Result, Ok, Err}
use Rattle.limits.specs.declared.Limits.{Limits}
use Rattle.limits.specs.declared.answer.Refusal.{Refusal}
use Rattle.limits.specs.Answer.{refusal_number}
use Rattle.limits.specs.Questions.{Answer}
use Rattle.limits.specs.Tables as tables
use Rattle.limits.specs.Events as paper
use Rattle.mat.specs.View.{mat_of}
use Rattle.pad.specs.View.{pad_of}
use Rattle.air.specs.Rules.{room_questions}
use Rattle.air.specs.Data.{data_table}
use Rattle.air.specs.Replies.{reply_table, reply_messages}
use Rattle.events.specs.declared.Link.{Link}
use Rattle.events.specs.declared.Numbers.{Numbers}
use Rattle.events.specs.declared.LentLink.{LentLink}
use Rattle.events.specs.declared.event.Event.{Event}
use Rattle.events.specs.declared.event.Event.TheVariants.{Send, Resend, ArriveData, Reply, ArriveReply, LoseData, LoseReply, Tick}
use Rattle.events.specs.State.{LinkState}
use Rattle.events.specs.Rules.{old_taken, answer}
use Rattle.events.specs.View.{link_state, LinkCall}

-- the link of its limits, its numbers and its arrays
abbrev pub link_of : Limits → Numbers → List Bool → List ℕ → List ℕ → List Bool → List ℕ → List ℕ → List ℕ → List ℕ → Link
link_of l n marks mattimers matcells held padtimers padcells datas replies =
    record {
      limits = l;
      mat = mat_of n.oldest n.next marks mattimers matcells;
      pad = pad_of n.wanted held padtimers padcells;
      datas = data_table n.datas datas;
      replies = reply_table n.replies replies;
    }

-- the link that is lent
abbrev pub lent_link : LentLink → Link
lent_link k =
    link_of k.limits k.numbers k.marks.now k.mattimers.now k.matcells.now k.held.now k.padtimers.now k.padcells.now k.datas.now k.replies.now

-- What every call leaves: the limits, and the arrays that are lent, so that whoever lent them finds what it wrote.
abbrev pub StaysLent : LentLink → LentLink → Type 0
StaysLent a b =
    (b.limits ≡ a.limits)
    × (b.marks.ghost_name ≡ a.marks.ghost_name) × (b.mattimers.ghost_name ≡ a.mattimers.ghost_name)
    × (b.matcells.ghost_name ≡ a.matcells.ghost_name) × (b.held.ghost_name ≡ a.held.ghost_name)
    × (b.padtimers.ghost_name ≡ a.padtimers.ghost_name) × (b.padcells.ghost_name ≡ a.padcells.ghost_name)
    × (b.datas.ghost_name ≡ a.datas.ghost_name) × (b.replies.ghost_name ≡ a.replies.ghost_name)

-- the event of the papers that it is
abbrev pub event_of : Event → paper.Event
event_of Send = paper.send
event_of (Resend k) = paper.resend k
event_of (ArriveData p) = paper.arrive_data p
event_of Reply = paper.reply
event_of (ArriveReply p) = paper.arrive_reply p
event_of (LoseData p) = paper.lose_data p
event_of (LoseReply p) = paper.lose_reply p
event_of (Tick d) = paper.tick d

-- What reading an event's bytes promises. A refusal is what their event answers, of any link: 8 or 9.
abbrev pub ReadAs : ℕ → ℕ → Result Event Refusal → Type 0
ReadAs kind argument (Ok e) = event_of e ≡ paper.event kind argument
ReadAs kind argument (Err refusal) =
    (supply before : List ℕ) (s : LinkState) → refusal_number refusal ≡ answer supply before s (paper.event kind argument)

-- What the reply to an old row promises: 18, and message p left the data table.
abbrev pub OldTaken : Link → List ℕ → ℕ → tables.Reply → Link → Answer → Type 0
OldTaken k buffer p x k' r =
    LinkCall (room_questions 18 (reply_messages k.replies)) (old_taken (link_state k) p x, buffer) (tt {0}) k buffer k' buffer r

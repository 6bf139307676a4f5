-- What it means that one event agrees: its answer, and what it does. The built ends are lent what is left of supply and
-- record.
use Prim.Native.Nat.{ℕ, ◌+◌, ◌*◌, ◌≤◌}
use mathlib.Core.Path.{◌≡◌}
use mathlib.Core.List.{List, ◌++◌}
use lib.ListN.{length, drop}
use Rattle.limits.specs.declared.Limits.{Limits}
use Rattle.limits.specs.Questions.{first_no}
use Rattle.limits.specs.Events.{Event}
use Rattle.limits.specs.Tables.{Message, Data, Reply}
use Rattle.mat.specs.Window.{Kept}
use Rattle.pad.specs.Window.{PadState}
use Rattle.events.specs.State.{LinkState, Moved}
use Rattle.events.specs.Rules as link
use Rattle.unbounded.specs.Ends.{Ends}
use Rattle.unbounded.specs.Rules as unbounded
use Rattle.agreement.specs.Reading.{reading}

-- what the built ends make of the event
abbrev pub built : Limits → List ℕ → List ℕ → Ends → Event → Moved
built l supply buffer s e = link.acted (drop (16 * s.next) supply) buffer (reading l s) e

-- if no question refuses the event, then the tables afterwards have at most as many messages as the built ones hold
abbrev pub Room : Limits → List ℕ → ℕ → Ends → Event → Type 0
Room l supply space s e =
    first_no (unbounded.questions l supply space s e) ≡ 0
    → (length (unbounded.act l supply s e).data_table ≤ 32) × (length (unbounded.act l supply s e).reply_table ≤ 32)

abbrev pub Asks : Limits → List ℕ → ℕ → List ℕ → Ends → Event → Type 0
Asks l supply space buffer s e =
    first_no (link.questions (drop (16 * s.next) supply) (length buffer) (reading l s) e) ≡ first_no (unbounded.questions l supply space s e)

pub record Acts (l : Limits) (supply lent : List ℕ) (s : Ends) (e : Event) : Type 0 where
  pub state : (built l supply lent s e).state ≡ reading l (unbounded.act l supply s e)
  pub sent : s.next + (built l supply lent s e).counts.sent ≡ (unbounded.act l supply s e).next
  pub acknowledged : s.oldest + (built l supply lent s e).counts.acknowledged ≡ (unbounded.act l supply s e).oldest
  pub recorded : s.wanted + (built l supply lent s e).counts.recorded ≡ (unbounded.act l supply s e).wanted
  pub buffer : s.recorded ++ (built l supply lent s e).buffer
      ≡ (unbounded.act l supply s e).recorded ++ drop (16 * (built l supply lent s e).counts.recorded) lent

-- links with the same limits and the same pad, part by part
pub link-path : (l : Limits) (p : PadState) (o o' n n' : ℕ) (rs rs' : List Kept) (ts ts' : List ℕ) (ds ds' : List (Message Data)) (qs qs' : List (Message Reply))
    → o ≡ o' → n ≡ n' → rs ≡ rs' → ts ≡ ts' → ds ≡ ds' → qs ≡ qs'
    → ◌≡◌ {A = LinkState} (record { limits = l; mat = record { oldest = o; next = n; rows = rs; timers = ts }; pad = p; datas = ds; replies = qs })
    (record { limits = l; mat = record { oldest = o'; next = n'; rows = rs'; timers = ts' }; pad = p; datas = ds'; replies = qs' })
link-path l p o o' n n' rs rs' ts ts' ds ds' qs qs' eo en er et ed eq = λ i.
    record { limits = l; mat = record { oldest = eo i; next = en i; rows = er i; timers = et i }; pad = p; datas = ed i; replies = eq i }

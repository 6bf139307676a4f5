-- The messages in the air. A table is their list, in the order they were put.
use Rattle.std.specs.Prelude.{ℕ, zero, suc, ◌-◌, ◌*◌, ◌+◌, Bool, ◌&&◌, List, [], ◌∷◌, ◌++◌, leb, ltb, length, replicate}
use Rattle.limits.specs.declared.Limits.{Limits}
use Rattle.limits.specs.declared.messages.Data as data_type
use Rattle.limits.specs.declared.messages.Reply as reply_type
use Rattle.limits.specs.declared.messages.Message as message_type
use Rattle.limits.specs.Lists.{how_many}
use Rattle.limits.specs.Questions.{pick}
use Rattle.limits.specs.Cells.{legal_row}
use Rattle.limits.specs.Ring.{distance}

-- a message of what it carries
abbrev pub Message : Type 0 → Type 0
Message B = message_type.Message B

-- what messages carry: a row under its number (a data packet), the numbers from first to last (a block acknowledgment)
abbrev pub Data : Type 0
Data = data_type.Data

abbrev pub Reply : Type 0
Reply = reply_type.Reply

-- what stands for a message where there is none
abbrev pub no_data : Message Data
no_data = record { body = record { number = 0; row = replicate 16 0 }; life = 0 }

abbrev pub no_reply : Message Reply
no_reply = record { body = record { first = 0; last = 0 }; life = 0 }

abbrev pub capacity : ℕ
capacity = 32

-- whether a message more finds a place
abbrev pub has_room : {A : Type 0} → List A → Bool
has_room ms = ltb (length ms) capacity

abbrev pub put : {A : Type 0} → A → List A → List A
put m ms = ms ++ (m ∷ [])

-- message p, counted from 0, leaves and the gap is closed
unfoldable pub remove : {A : Type 0} → ℕ → List A → List A
remove p [] = []
remove zero (m ∷ ms) = ms
remove (suc p) (m ∷ ms) = m ∷ remove p ms

-- what is left of a message after d ticks
abbrev pub aged : {B : Type 0} → ℕ → Message B → Message B
aged d m = record { body = m.body; life = m.life - d }

-- the message whose body is read by g
abbrev pub on_body : {B C : Type 0} → (B → C) → Message B → Message C
on_body g m = record { body = g m.body; life = m.life }

-- d ticks pass: lives fall by d, and messages with no life left go
unfoldable pub age : {B : Type 0} → ℕ → List (Message B) → List (Message B)
age d [] = []
age d (m ∷ ms) = pick (leb m.life d) (age d ms) (aged d m ∷ age d ms)

-- how many messages have no life left after d ticks
abbrev pub expired : {B : Type 0} → ℕ → List (Message B) → ℕ
expired d ms = how_many (λ m. leb m.life d) ms

-- how many numbers a reply covers, read on from first to last
abbrev pub span : ℕ → Reply → ℕ
span w r = distance (2 * w) r.first r.last + 1

-- question 4 of a message: its numbers, and the rest of what it carries
unfoldable pub sound_data : Limits → Data → Bool
sound_data l x = ltb x.number (2 * l.window) && legal_row x.row

unfoldable pub sound_reply : Limits → Reply → Bool
sound_reply l x = ltb x.first (2 * l.window) && (ltb x.last (2 * l.window) && leb (span l.window x) l.window)

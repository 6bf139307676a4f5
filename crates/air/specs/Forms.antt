-- The forms of message in the air, and what is said of a table of either form: as its count and its words, which are lent.
use Rattle.std.specs.Prelude.{ℕ, ◌+◌, ◌*◌, ◌≤◌, ◌≡◌, Bool, true, ◌&&◌, List, map, ltb, length, get_or, take, drop}
use Rattle.limits.specs.declared.Limits.{Limits}
use Rattle.limits.specs.Cells.{legal_cell}
use Rattle.limits.specs.Limits.{between, sound_limits}
use Rattle.limits.specs.Lists.{all, tab}
use Rattle.limits.specs.Tables.{Message, Data, Reply, no_data, no_reply, on_body, sound_data, sound_reply}
use Rattle.tables.specs.Words.{entry, messages}
use Rattle.air.specs.Rules.{sound_message, sound_messages}

-- A form of message, by what it carries.
pub record Form (B : Type 0) : Type 0 where
  -- how many words a message has: its life, and those that `reads` reads
  pub width : ℕ
  pub reads : List ℕ → B
  -- what stands for a message where there is none
  pub none : Message B
  -- question 4 of what a message carries, and its longest life
  pub sound : Limits → B → Bool
  pub longest : Limits → ℕ
  -- the number of the question whether a message more finds a place
  pub full : ℕ
  -- question 4 in two parts: all of a message but its cells, and the words in which cells stand
  pub head : Limits → Message (List ℕ) → Bool
  pub cells : List ℕ → Bool

-- the message whose words stand from `at` on
abbrev pub entry_at : ℕ → List ℕ → ℕ → Message (List ℕ)
entry_at width words at = entry width (λ k. get_or words (at + k) 0)

-- question 4 of a message
abbrev pub sound_of : {B : Type 0} → Form B → Limits → Message B → Bool
sound_of form l m = sound_message (form.sound l) (form.longest l) m

-- the messages of `count` and words; what stands behind them is free
unfoldable pub messages_of : {B : Type 0} → Form B → ℕ → List ℕ → List (Message B)
messages_of form count words = map (on_body form.reads) (messages form.width count words)

unfoldable pub sound_table : {B : Type 0} → Form B → Limits → ℕ → List ℕ → Bool
sound_table form l count words = sound_messages (form.sound l) (form.longest l) (messages_of form count words)

-- a table is sound and holds these messages
abbrev pub Holds : {B : Type 0} → Form B → Limits → ℕ → List ℕ → List (Message B) → Type 0
Holds form l count words ms = (sound_table form l count words ≡ true) × (messages_of form count words ≡ ms)

-- What proofs of every form need, where `fits` says that what a message carries can be written in words.
pub record FormLaws {B : Type 0} (form : Form B) (fits : B → Type 0) : Type 0 where
  pub some : 1 ≤ form.width
  pub lives : (l : Limits) → sound_limits l ≡ true → 1 ≤ form.longest l
  pub sound_fits : (l : Limits) (x : B) → sound_limits l ≡ true → form.sound l x ≡ true → fits x
  -- question 4 of a message is that of its two parts
  pub parts : (l : Limits) (words : List ℕ) (at : ℕ) → sound_limits l ≡ true → at + form.width ≤ length words
      → (form.head l (entry_at form.width words at) && form.cells (take form.width (drop at words))) ≡ sound_of form l (on_body form.reads (entry_at form.width words at))
  -- cells are legal together where they are message by message
  pub each : (words : List ℕ) (n : ℕ) → form.cells (take (form.width * n) words) ≡ all form.cells (tab n (λ i. take form.width (drop (form.width * i) words)))

-- what the words behind the life say
abbrev pub data_of : List ℕ → Data
data_of words = record { number = get_or words 0 0; row = drop 1 words }

abbrev pub reply_of : List ℕ → Reply
reply_of words = record { first = get_or words 0 0; last = get_or words 1 0 }

-- a number and sixteen cells
abbrev pub data_form : Form Data
data_form =
    record {
      width = 18;
      reads = data_of;
      none = no_data;
      sound = sound_data;
      longest = λ l. l.datalife;
      full = 13;
      head = λ l m. between 1 l.datalife m.life && ltb (data_of m.body).number (2 * l.window);
      cells = all legal_cell;
    }

-- a first and a last number
abbrev pub reply_form : Form Reply
reply_form =
    record {
      width = 3;
      reads = reply_of;
      none = no_reply;
      sound = sound_reply;
      longest = λ l. l.replylife;
      full = 18;
      head = λ l m. sound_message (sound_reply l) l.replylife (on_body reply_of m);
      cells = λ words. true;
    }

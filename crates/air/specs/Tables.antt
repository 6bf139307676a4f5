-- A table as a list of messages, of either form. What stands in its words beyond the count is free: it does not occur in the list.
use Rattle.std.specs.Prelude.{ℕ, Bool, List, Result, get_or}
use Rattle.limits.specs.declared.Limits.{Limits}
use Rattle.limits.specs.declared.answer.Refusal.{Refusal}
use Rattle.limits.specs.Questions.{Question, Answered, Changed}
use Rattle.limits.specs.Tables.{Message}
use Rattle.air.specs.declared.table.Table.{Table}
use Rattle.air.specs.Forms.{Form, messages_of, sound_table, Holds}

-- the table of a count and its words
abbrev pub table_of : {B : Type 0} {n : ℕ} → ℕ → List ℕ → Table B n
table_of count words = record { count = count; words = words; carries = record {} }

abbrev pub table_messages : {B : Type 0} {n : ℕ} → Form B → Table B n → List (Message B)
table_messages form t = messages_of form t.count t.words

-- question 4 of a table
abbrev pub sound_in : {B : Type 0} {n : ℕ} → Form B → Limits → Table B n → Bool
sound_in form l t = sound_table form l t.count t.words

-- the table is sound and holds these messages
abbrev pub HoldsIn : {B : Type 0} {n : ℕ} → Form B → Limits → Table B n → List (Message B) → Type 0
HoldsIn form l t ms = Holds form l t.count t.words ms

-- what a call on a table promises, where `moved` is the table that its event leaves
abbrev pub TableCall : {B : Type 0} {n : ℕ} → Form B → Limits → List Question → List (Message B) → Result (Unit {0}) Refusal → Table B n → Table B n → Type 0
TableCall form l questions moved r before after = Changed questions r tt (table_messages form after) moved (sound_in form l) before after

-- the same of a count and words, which are lent: of a table of any length that has them
abbrev pub LentCall : {B : Type 0} → Form B → Limits → List Question → List (Message B) → Result (Unit {0}) Refusal → ℕ → List ℕ → ℕ → List ℕ → Type 0
LentCall form l questions moved r count words count' words' = (n : ℕ) → TableCall {n = n} form l questions moved r (table_of count words) (table_of count' words')

-- what reading message p promises
abbrev pub TableReading : {B : Type 0} {n : ℕ} → Form B → Table B n → ℕ → List Question → Result (Message B) Refusal → Type 0
TableReading form t p questions r = Answered questions r (get_or (table_messages form t) p form.none)

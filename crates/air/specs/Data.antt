-- The data table: the table of data messages.
use Rattle.std.specs.Prelude.{ℕ, ◌≡◌, Bool, true, List, Result, get_or, replicate}
use Rattle.limits.specs.declared.Limits.{Limits}
use Rattle.limits.specs.declared.answer.Refusal.{Refusal}
use Rattle.limits.specs.Questions.{Answered}
use Rattle.limits.specs.Tables.{Message, Data, no_data}
use Rattle.air.specs.declared.table.Table.{Table}
use Rattle.air.specs.Forms.{data_form}
use Rattle.air.specs.Rules.{place_questions}
use Rattle.air.specs.Tables.{table_of, table_messages, sound_in}

abbrev pub DataTable : Type 0
DataTable = Table Data 576

abbrev pub data_table : ℕ → List ℕ → DataTable
data_table count words = table_of count words

abbrev pub data_messages : DataTable → List (Message Data)
data_messages t = table_messages data_form t

abbrev pub empty_data : DataTable
empty_data = data_table 0 (replicate 576 0)

abbrev pub sound_data_table : Limits → DataTable → Bool
sound_data_table l t = sound_in data_form l t

-- the table is sound and holds these messages
abbrev pub DataHolds : Limits → DataTable → List (Message Data) → Type 0
DataHolds l t ms = (sound_data_table l t ≡ true) × (data_messages t ≡ ms)

-- what finding message p gives: what it carries
abbrev pub DataFound : DataTable → ℕ → Result Data Refusal → Type 0
DataFound t p r = Answered (place_questions p (data_messages t)) r (get_or (data_messages t) p no_data).body

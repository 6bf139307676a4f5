-- The reply table: the table of reply messages.
use Rattle.std.specs.Prelude.{ℕ, ◌≡◌, Bool, true, List, Result, get_or, replicate}
use Rattle.limits.specs.declared.Limits.{Limits}
use Rattle.limits.specs.declared.answer.Refusal.{Refusal}
use Rattle.limits.specs.Questions.{Answered}
use Rattle.limits.specs.Tables.{Message, Reply, no_reply}
use Rattle.air.specs.declared.table.Table.{Table}
use Rattle.air.specs.Forms.{reply_form}
use Rattle.air.specs.Rules.{place_questions}
use Rattle.air.specs.Tables.{table_of, table_messages, sound_in}

abbrev pub ReplyTable : Type 0
ReplyTable = Table Reply 96

abbrev pub reply_table : ℕ → List ℕ → ReplyTable
reply_table count words = table_of count words

abbrev pub reply_messages : ReplyTable → List (Message Reply)
reply_messages t = table_messages reply_form t

abbrev pub empty_replies : ReplyTable
empty_replies = reply_table 0 (replicate 96 0)

abbrev pub sound_reply_table : Limits → ReplyTable → Bool
sound_reply_table l t = sound_in reply_form l t

-- the table is sound and holds these messages
abbrev pub ReplyHolds : Limits → ReplyTable → List (Message Reply) → Type 0
ReplyHolds l t ms = (sound_reply_table l t ≡ true) × (reply_messages t ≡ ms)

-- what finding reply p gives: what it carries
abbrev pub ReplyFound : ReplyTable → ℕ → Result Reply Refusal → Type 0
ReplyFound t p r = Answered (place_questions p (reply_messages t)) r (get_or (reply_messages t) p no_reply).body

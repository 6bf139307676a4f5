-- The frames of a device: those that it writes, and what it asks of bytes that it receives.
use Rattle.std.specs.Prelude.{ℕ, Bool, List, [], ◌∷◌, ◌++◌, eqb}
use Rattle.limits.specs.declared.Limits.{Limits}
use Rattle.limits.specs.Questions.{Question, ask}
use Rattle.limits.specs.Tables as tables
use Rattle.buffers.specs.Bytes.{byte}
use Rattle.frames.specs.declared.Frame.{Frame}
use Rattle.frames.specs.declared.Frame.TheVariants.{Data, Reply}
use Rattle.frames.specs.Layout as layout
use Rattle.frames.specs.Rules.{read_questions}

-- Written: a message with a full life, and the window of its link.
abbrev pub data_frame : Limits → tables.Data → Frame
data_frame l x = Data (record { life = l.datalife; window = l.window; «data» = x })

abbrev pub reply_frame : Limits → tables.Reply → Frame
reply_frame l x = Reply (record { life = l.replylife; window = l.window; reply = x })

-- Received: the questions of the frame reader, then that the frame is of the kind that the other end writes, then that its window
-- is that of this link.
abbrev pub received_questions : Bool → Limits → List ℕ → List Question
received_questions kind l bytes = read_questions bytes ++ (ask 22 kind ∷ ask 24 (eqb (byte bytes 2) l.window) ∷ [])

-- by a pad, and by a mat
abbrev pub data_questions : Limits → List ℕ → List Question
data_questions l bytes = received_questions (layout.is_data bytes) l bytes

abbrev pub reply_questions : Limits → List ℕ → List Question
reply_questions l bytes = received_questions (layout.is_reply bytes) l bytes

-- the message in a frame
abbrev pub data_in : List ℕ → tables.Data
data_in bytes = (layout.data_of bytes).«data»

abbrev pub reply_in : List ℕ → tables.Reply
reply_in bytes = (layout.reply_of bytes).reply

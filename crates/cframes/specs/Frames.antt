-- A frame as C keeps it: a head of five numbers (kind, life, w, number or first, last) and sixteen cells.
use Rattle.std.specs.Prelude.{ℕ, ◌≡◌, ◌||◌, List, [], ◌∷◌, ◌++◌, eqb, get_or, replicate}
use Rattle.limits.specs.Questions.{pick, Question, ask, first_no}
use Rattle.frames.specs.declared.DataFrame.{DataFrame}
use Rattle.frames.specs.declared.ReplyFrame.{ReplyFrame}
use Rattle.frames.specs.declared.Frame.{Frame}
use Rattle.frames.specs.declared.Frame.TheVariants.{Data, Reply}
use Rattle.frames.specs.Layout as layout
use Rattle.frames.specs.Layout.{size_of, reading}
use Rattle.frames.specs.Rules as frames
use Rattle.frames.specs.Rules.{read_questions}
use Rattle.buffers.specs.Buffers.{Writing, writing, WriteNumber}

pub record Fields : Type 0 where
  pub head : List ℕ
  pub cells : List ℕ

abbrev pub fields : List ℕ → List ℕ → Fields
fields h cells = record { head = h; cells = cells }

-- what a kind does not have is 0
abbrev pub head_of : Frame → List ℕ
head_of (Data f) = 1 ∷ f.life ∷ f.window ∷ f.data.number ∷ 0 ∷ []
head_of (Reply f) = 2 ∷ f.life ∷ f.window ∷ f.reply.first ∷ f.reply.last ∷ []

abbrev pub cells_of : Frame → List ℕ
cells_of (Data f) = f.data.row
cells_of (Reply f) = replicate 16 0

abbrev pub fields_of : Frame → Fields
fields_of f = fields (head_of f) (cells_of f)

-- A refused frame writes nothing.
pub record ReadFrame (bytes h cells h' cells' : List ℕ) (r : ℕ) : Type 0 where
  pub number : r ≡ first_no (read_questions bytes)
  pub left : fields h' cells' ≡ pick (eqb (first_no (read_questions bytes)) 0) (fields_of (reading bytes)) (fields h cells)

-- the frame that head and cells make
abbrev pub kind_in : List ℕ → ℕ
kind_in h = get_or h 0 0

abbrev pub data_in : List ℕ → List ℕ → DataFrame
data_in h cells = record { life = get_or h 1 0; window = get_or h 2 0; «data» = record { number = get_or h 3 0; row = cells } }

abbrev pub reply_in : List ℕ → ReplyFrame
reply_in h = record { life = get_or h 1 0; window = get_or h 2 0; reply = record { first = get_or h 3 0; last = get_or h 4 0 } }

unfoldable pub frame_in : List ℕ → List ℕ → Frame
frame_in h cells = pick (eqb (kind_in h) 1) (Data (data_in h cells)) (Reply (reply_in h))

-- 22 of the kind, then the writer's questions
abbrev pub kind_questions : List ℕ → List Question
kind_questions h = ask 22 (eqb (kind_in h) 1 || eqb (kind_in h) 2) ∷ []

abbrev pub write_questions : List ℕ → List ℕ → List ℕ → List Question
write_questions h cells buffer = kind_questions h ++ frames.write_questions (frame_in h cells) buffer

abbrev pub frame_into : List ℕ → List ℕ → List ℕ → Writing
frame_into h cells buffer = writing (size_of (frame_in h cells)) (layout.frame_into (frame_in h cells) buffer)

-- the number, how many bytes were written, and the whole buffer
abbrev pub WriteFrame : List ℕ → List ℕ → List ℕ → List ℕ → ℕ → ℕ → Type 0
WriteFrame h cells before after count r = WriteNumber (write_questions h cells before) (frame_into h cells before) before after count r

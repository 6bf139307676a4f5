-- The questions put to frames, 22 to 28 and 12.
use Rattle.std.specs.Prelude.{ℕ, ◌*◌, ◌&&◌, ◌||◌, List, [], ◌∷◌, ◌++◌, eqb, leb, ltb, length}
use Rattle.limits.specs.Lists.{all}
use Rattle.limits.specs.Questions.{Question, ask}
use Rattle.limits.specs.Cells.{legal_row}
use Rattle.limits.specs.Limits.{between, window_fits}
use Rattle.limits.specs.Tables.{span}
use Rattle.frames.specs.declared.DataFrame.{DataFrame}
use Rattle.frames.specs.declared.ReplyFrame.{ReplyFrame}
use Rattle.frames.specs.declared.Frame.{Frame}
use Rattle.frames.specs.declared.Frame.TheVariants.{Data, Reply}
use Rattle.frames.specs.Layout.{is_data, is_reply, reading, size_of}

-- What is asked of the values of a frame, read or written. Of every frame: w 1 to 32, its numbers below 2w, its life 1 to 250.
abbrev pub frame_questions : ℕ → List ℕ → ℕ → List Question
frame_questions w numbers life =
    ask 24 (window_fits w) ∷ ask 25 (all (λ n. ltb n (2 * w)) numbers) ∷ ask 26 (between 1 250 life) ∷ []

-- Of a data frame then that its cells are legal.
abbrev pub data_questions : DataFrame → List Question
data_questions f = frame_questions f.window (f.data.number ∷ []) f.life ++ (ask 12 (legal_row f.data.row) ∷ [])

-- Of a reply frame then that its span is at most w.
abbrev pub reply_questions : ReplyFrame → List Question
reply_questions f =
    frame_questions f.window (f.reply.first ∷ f.reply.last ∷ []) f.life ++ (ask 27 (leb (span f.window f.reply) f.window) ∷ [])

abbrev pub value_questions : Frame → List Question
value_questions (Data f) = data_questions f
value_questions (Reply f) = reply_questions f

-- Frame read: a first byte, 1 or 2; the length of its kind; then the values.
abbrev pub layout_questions : List ℕ → List Question
layout_questions bytes =
    ask 22 (leb 1 (length bytes) && (is_data bytes || is_reply bytes)) ∷ ask 23 (eqb (length bytes) (size_of (reading bytes))) ∷ []

abbrev pub read_questions : List ℕ → List Question
read_questions bytes = layout_questions bytes ++ value_questions (reading bytes)

-- The buffer holds so many bytes.
abbrev pub space_questions : ℕ → List ℕ → List Question
space_questions size buffer = ask 28 (leb size (length buffer)) ∷ []

-- Frame write: the values, then that the buffer is long enough.
abbrev pub write_questions : Frame → List ℕ → List Question
write_questions f buffer = value_questions f ++ space_questions (size_of f) buffer

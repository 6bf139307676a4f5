-- The layout of frames: what is written, byte by byte, and where each value is read.
use Rattle.std.specs.Prelude.{ℕ, Bool, List, [], ◌∷◌, ◌++◌, eqb, drop}
use Rattle.limits.specs.Questions.{pick}
use Rattle.buffers.specs.Bytes.{byte, cells_at, cell_bytes}
use Rattle.frames.specs.declared.DataFrame.{DataFrame}
use Rattle.frames.specs.declared.ReplyFrame.{ReplyFrame}
use Rattle.frames.specs.declared.Frame.{Frame}
use Rattle.frames.specs.declared.Frame.TheVariants.{Data, Reply}

-- Written.
abbrev pub data_bytes : DataFrame → List ℕ
data_bytes f = 1 ∷ f.life ∷ f.window ∷ f.data.number ∷ cell_bytes f.data.row

abbrev pub reply_bytes : ReplyFrame → List ℕ
reply_bytes f = 2 ∷ f.life ∷ f.window ∷ f.reply.first ∷ f.reply.last ∷ []

abbrev pub bytes_of : Frame → List ℕ
bytes_of (Data f) = data_bytes f
bytes_of (Reply f) = reply_bytes f

-- how many bytes that are: a row has 16 cells
abbrev pub size_of : Frame → ℕ
size_of (Data f) = 36
size_of (Reply f) = 5

-- A frame at the front of a buffer: the bytes behind it keep their contents.
abbrev pub data_into : DataFrame → List ℕ → List ℕ
data_into f buffer = data_bytes f ++ drop 36 buffer

abbrev pub reply_into : ReplyFrame → List ℕ → List ℕ
reply_into f buffer = reply_bytes f ++ drop 5 buffer

abbrev pub frame_into : Frame → List ℕ → List ℕ
frame_into f buffer = bytes_of f ++ drop (size_of f) buffer

-- Read.
abbrev pub data_of : List ℕ → DataFrame
data_of bytes =
    record {
      life = byte bytes 1;
      window = byte bytes 2;
      «data» = record { number = byte bytes 3; row = cells_at bytes 4 16 };
    }

abbrev pub reply_of : List ℕ → ReplyFrame
reply_of bytes =
    record {
      life = byte bytes 1;
      window = byte bytes 2;
      reply = record { first = byte bytes 3; last = byte bytes 4 };
    }

-- The kind of a frame is its first byte.
abbrev pub is_data : List ℕ → Bool
is_data bytes = eqb (byte bytes 0) 1

abbrev pub is_reply : List ℕ → Bool
is_reply bytes = eqb (byte bytes 0) 2

-- what a reader gives
abbrev pub reading : List ℕ → Frame
reading bytes = pick (is_data bytes) (Data (data_of bytes)) (Reply (reply_of bytes))

-- What the theorems on frames speak of: frames as the language holds them, and bytes that are read as a frame.
use Rattle.std.specs.Prelude.{◌≡◌, ℕ, List, length}
use Rattle.limits.specs.Questions.{first_no}
use Rattle.frames.specs.declared.Frame.{Frame}
use Rattle.frames.specs.declared.Frame.TheVariants.{Data, Reply}
use Rattle.buffers.specs.Bytes.{Bytes}
use Rattle.frames.specs.Layout.{bytes_of, reading}
use Rattle.frames.specs.Rules.{value_questions, read_questions}

-- a row is the 16 cells of an array
abbrev pub HasRow : Frame → Type 0
HasRow (Data f) = length f.data.row ≡ 16
HasRow (Reply f) = Unit {0}

-- read accepts the bytes, and gives f
pub record ReadAs (bytes : List ℕ) (f : Frame) : Type 0 where
  pub accepted : first_no (read_questions bytes) ≡ 0
  pub means : reading bytes ≡ f

-- write accepts f for a buffer that is long enough, and gives the bytes
pub record WrittenAs (f : Frame) (bytes : List ℕ) : Type 0 where
  pub row : HasRow f
  pub accepted : first_no (value_questions f) ≡ 0
  pub gives : bytes_of f ≡ bytes

-- some bytes are read as f
pub record Readable (f : Frame) : Type 0 where
  pub bytes : List ℕ
  pub small : Bytes bytes
  pub read : ReadAs bytes f

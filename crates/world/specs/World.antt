-- A world: a mat and a pad as devices, and the frames in the air between them. What happens in it, and what that leaves.
use Rattle.std.specs.Prelude.{ℕ, ◌*◌, List, [], ◌++◌, eqb, length, take, drop, Result}
use Rattle.limits.specs.declared.answer.Refusal.{Refusal}
use Rattle.limits.specs.Answer.{number_of}
use Rattle.limits.specs.Questions.{pick, Answer}
use Rattle.limits.specs.Tables.{Message, put, remove, age}
use Rattle.buffers.specs.Bytes.{byte}
use Rattle.devices.specs.declared.MatDevice.{MatDevice}
use Rattle.devices.specs.declared.PadDevice.{PadDevice}
use Rattle.devices.specs.declared.Recorded.{Recorded}
use Rattle.devices.specs.Told.{told, told_recorded}
use Rattle.events.specs.State.{Rows, no_rows, one_sent, acknowledged_by, recorded_by, more_rows}

-- the bytes of a frame in the air, and the life that is left to it
abbrev pub InAir : Type 0
InAir = Message (List ℕ)

-- `datas` are on the way to the pad and `replies` to the mat, in the order they were written; `buffer` is the whole record
pub record World : Type 0 where
  pub mat : MatDevice
  pub pad : PadDevice
  pub datas : List InAir
  pub replies : List InAir
  pub counts : Rows
  pub buffer : List ℕ

abbrev pub start : MatDevice → PadDevice → List ℕ → World
start mat pad buffer = record { mat = mat; pad = pad; datas = []; replies = []; counts = no_rows; buffer = buffer }

-- What happens: a call of a device, with the buffer that is lent to it, before and after the call, and with the device and the answer that
-- the call leaves; or what the air does. Frames are counted from the oldest as 0.
pub data Made : Type 0 where
  -- the mat sends, with this part of the supply, or sends row oldest + k again: its frame buffer
  sent : List ℕ → List ℕ → List ℕ → MatDevice → Result ℕ Refusal → Made
  resent : ℕ → List ℕ → List ℕ → MatDevice → Result ℕ Refusal → Made
  -- data frame p is handed to the pad: its reply buffer
  data_handed : ℕ → List ℕ → List ℕ → PadDevice → Result ℕ Refusal → Made
  -- the pad replies: the part of the record that is lent to it, before and after, and its reply buffer
  replied : List ℕ → List ℕ → List ℕ → List ℕ → PadDevice → Result Recorded Refusal → Made
  -- reply frame p is handed to the mat
  reply_handed : ℕ → MatDevice → Result ℕ Refusal → Made
  -- data frame p or reply frame p is lost
  data_lost : ℕ → Made
  reply_lost : ℕ → Made
  -- d ticks pass for the mat, for the pad and for every frame
  ticked : ℕ → MatDevice → Answer → PadDevice → Answer → Made
  -- noise, bytes that are no good frame of the kind that the other end writes and of this w, is handed to the mat, or to the pad
  noise_to_mat : List ℕ → MatDevice → Result ℕ Refusal → Made
  noise_to_pad : List ℕ → List ℕ → List ℕ → PadDevice → Result ℕ Refusal → Made

-- what is left: the supply behind the rows sent so far, and the record behind the rows recorded
abbrev pub unsent : List ℕ → World → List ℕ
unsent supply x = drop (16 * x.counts.sent) supply

abbrev pub unwritten : World → List ℕ
unwritten x = drop (16 * x.counts.recorded) x.buffer

abbrev pub where_done : {A X : Type 0} → Result X Refusal → A → A → A
where_done r x y = pick (eqb (number_of r) 0) x y

-- The n bytes that a call wrote to a buffer's front, if any, go into the air, with the life that they say.
abbrev pub frame_in_air : ℕ → List ℕ → InAir
frame_in_air n buffer = record { body = take n buffer; life = byte buffer 1 }

abbrev pub put_in_air : ℕ → List ℕ → List InAir → List InAir
put_in_air n buffer fs = pick (eqb n 0) fs (put (frame_in_air n buffer) fs)

abbrev pub with_mat : World → MatDevice → List InAir → List InAir → Rows → World
with_mat x mat datas replies counts =
    record { mat = mat; pad = x.pad; datas = datas; replies = replies; counts = more_rows x.counts counts; buffer = x.buffer }

abbrev pub with_pad : World → PadDevice → List InAir → List InAir → Rows → List ℕ → World
with_pad x pad datas replies counts buffer =
    record { mat = x.mat; pad = pad; datas = datas; replies = replies; counts = more_rows x.counts counts; buffer = buffer }

-- A frame that a device refuses stays where it is.
unfoldable pub following : World → Made → World
following x (sent lent before after mat r) = with_mat x mat (put_in_air (told r) after x.datas) x.replies (where_done r one_sent no_rows)
following x (resent k before after mat r) = with_mat x mat (put_in_air (told r) after x.datas) x.replies no_rows
following x (data_handed p before after pad r) =
    with_pad x pad (where_done r (remove p x.datas) x.datas) (put_in_air (told r) after x.replies) no_rows x.buffer
following x (replied rows rows' before after pad r) =
    with_pad x pad x.datas (put_in_air (told_recorded r).written after x.replies) (recorded_by (told_recorded r).rows)
    (where_done r (take (16 * x.counts.recorded) x.buffer ++ (rows' ++ drop (length rows) (unwritten x))) x.buffer)
following x (reply_handed p mat r) = with_mat x mat x.datas (where_done r (remove p x.replies) x.replies) (acknowledged_by (told r))
following x (data_lost p) = with_mat x x.mat (remove p x.datas) x.replies no_rows
following x (reply_lost p) = with_mat x x.mat x.datas (remove p x.replies) no_rows
following x (ticked d mat r pad q) =
    record {
      mat = mat;
      pad = pad;
      datas = where_done r (age d x.datas) x.datas;
      replies = where_done r (age d x.replies) x.replies;
      counts = x.counts;
      buffer = x.buffer;
    }
following x (noise_to_mat bytes mat r) = with_mat x mat x.datas x.replies no_rows
following x (noise_to_pad bytes before after pad r) = with_pad x pad x.datas x.replies no_rows x.buffer

-- Writing and reading undo each other, for all input. `HasRow` and `Bytes` say what a frame and a `&[u8]` hold by their types:
-- a row is 16 cells, and every byte is below 256.
use Prim.Native.Nat.{ℕ, ◌+◌, ◌*◌}
use mathlib.Core.Path.{◌≡◌, refl, sym, ◌∙◌, ap, subst}
use mathlib.Core.Bool.{true, false, ◌&&◌, ◌||◌}
use mathlib.Core.List.{List, [], ◌∷◌}
use native.Mathlib.Omega.{arith}
use lib.Dec.{eqb, leb}
use lib.ListN.{length, take, drop}
use lib.Seq.{take_at}
use borrow.Author.Tests.{eqb-true}
use Rattle.limits.specs.Questions.{ask, first_no}
use Rattle.limits.proofs.Laws.Choice.{and_right, test}
use Rattle.limits.proofs.Laws.Lists.{length-tab}
use Rattle.limits.proofs.Laws.Questions.{passed_first, front-passed}
use Rattle.buffers.specs.Bytes.{byte, Bytes, cell_bytes, number2}
use Rattle.buffers.proofs.Laws.Bytes.{length-cells, none-small, cons-small, cells-small, cells-read}
use Rattle.frames.specs.declared.DataFrame.{DataFrame}
use Rattle.frames.specs.declared.Frame.{Frame}
use Rattle.frames.specs.declared.ReplyFrame.{ReplyFrame}
use Rattle.frames.specs.declared.Frame.TheVariants.{Data, Reply}
use Rattle.frames.specs.Layout.{data_bytes, bytes_of, size_of, frame_into, data_of, reply_of, is_data, is_reply, reading}
use Rattle.frames.specs.Rules.{value_questions, read_questions, write_questions}
use Rattle.frames.specs.Meanings.{HasRow, ReadAs, WrittenAs, Readable}
use Rattle.frames.proofs.Laws.Values.{data-fits, data-legal, reply-fits}
use Rattle.frames.proofs.Laws.Reading.{Kind, data-kind, reply-kind, values-decide, accepted-kind}
use Rattle.frames.proofs.Laws.Bytes.{data-again, reply-again, four-small}

-- the layout alone: a frame's values stand in its bytes
pub length-bytes : (f : Frame) → HasRow f → length (bytes_of f) ≡ size_of f
length-bytes (Data f) l = let n = length-cells f.data.row in omega arith
length-bytes (Reply f) l = refl

pub data-of-bytes : (f : DataFrame) → length f.data.row ≡ 16 → data_of (data_bytes f) ≡ f
data-of-bytes f l =
    λ i. record { life = f.life; window = f.window; «data» = record { number = f.data.number; row = cells-read (1 ∷ f.life ∷ f.window ∷ f.data.number ∷ []) f.data.row 4 16 refl (sym l) i } }

kind-of-bytes : (f : Frame) → HasRow f → Kind (bytes_of f) f
kind-of-bytes (Data f) l = let k = data-kind (data_bytes f) refl in record { known = k.known; means = k.means ∙ ap Data (data-of-bytes f l) }
kind-of-bytes (Reply f) l = reply-kind (bytes_of (Reply f)) refl

-- Reading what was written gives back exactly what was handed in.
pub read-written : (f : Frame) → HasRow f → first_no (value_questions f) ≡ 0 → ReadAs (bytes_of f) f
read-written f l e =
    let k = kind-of-bytes f l in
    record { accepted = values-decide (bytes_of f) f k (length-bytes f l) ∙ e; means = k.means }

-- The same of the frame cut out of the buffer that it was written to, whatever stood there.
pub read-back : (f : Frame) (buffer : List ℕ) → HasRow f → first_no (write_questions f buffer) ≡ 0
    → ReadAs (take (size_of f) (frame_into f buffer)) f
read-back f buffer l e =
    rw (take_at (bytes_of f) (drop (size_of f) buffer) (size_of f) (length-bytes f l))
    (read-written f l (front-passed (value_questions f) (ask 28 (leb (size_of f) (length buffer)) ∷ []) e))

-- Every frame that read accepts is a data frame or a reply frame, and never both.
pub one-kind : (bytes : List ℕ) → is_data bytes ≡ true → is_reply bytes ≡ true → ⊥
one-kind bytes d r = let p = eqb-true (byte bytes 0) 1 d in let q = eqb-true (byte bytes 0) 2 r in omega arith

pub some-kind : (bytes : List ℕ) → first_no (read_questions bytes) ≡ 0 → is_data bytes ≡ false → is_reply bytes ≡ true
some-kind bytes e d =
    rw d at (and_right (leb 1 (length bytes)) (is_data bytes || is_reply bytes)
    (passed_first 22 (leb 1 (length bytes) && (is_data bytes || is_reply bytes)) (ask 23 (eqb (length bytes) (size_of (reading bytes))) ∷ value_questions (reading bytes)) refl e).0)

-- Whatever read accepts, its values pass the questions of write, and writing them gives the same bytes.
pub write-read : (bytes : List ℕ) → Bytes bytes → first_no (read_questions bytes) ≡ 0 → WrittenAs (reading bytes) bytes
write-read bytes small e =
    test (is_data bytes)
    (λ d. let first = eqb-true (byte bytes 0) 1 d in
    let k = data-kind bytes first in
    let t = accepted-kind bytes (Data (data_of bytes)) k e in
    subst (λ f. WrittenAs f bytes) (sym k.means) (record { row = length-tab 16 (λ k. number2 bytes (4 + 2 * k)); accepted = t.1; gives = data-again bytes t.0 small first }))
    (λ d. let first = eqb-true (byte bytes 0) 2 (some-kind bytes e d) in
    let k = reply-kind bytes first in
    let t = accepted-kind bytes (Reply (reply_of bytes)) k e in
    subst (λ f. WrittenAs f bytes) (sym k.means) (record { row = tt; accepted = t.1; gives = reply-again bytes t.0 first }))

-- No two frames that read accepts have one meaning, and no two values have one frame.
pub one-frame : (xs ys : List ℕ) → Bytes xs → Bytes ys → first_no (read_questions xs) ≡ 0 → first_no (read_questions ys) ≡ 0
    → reading xs ≡ reading ys → xs ≡ ys
one-frame xs ys sx sy ex ey same = sym (write-read xs sx ex).gives ∙ ap bytes_of same ∙ (write-read ys sy ey).gives

pub one-value : (f g : Frame) → HasRow f → HasRow g → bytes_of f ≡ bytes_of g → f ≡ g
one-value f g l n e = sym (kind-of-bytes f l).means ∙ ap reading e ∙ (kind-of-bytes g n).means

-- no bytes are those of a data frame and those of a reply frame
pub not-data-and-reply : (f : DataFrame) (g : ReplyFrame) → bytes_of (Data f) ≡ bytes_of (Reply g) → ⊥
not-data-and-reply f g e = let p = ap (λ s. byte s 0) e in omega arith

-- The values that write accepts are exactly those that read can give.
small-bytes : (f : Frame) → HasRow f → first_no (value_questions f) ≡ 0 → Bytes (bytes_of f)
small-bytes (Data f) l e =
    let h = data-fits f e in
    four-small 1 f.life f.window f.data.number (cell_bytes f.data.row) (omega arith) (omega arith) (omega arith) (omega arith)
    (cells-small f.data.row (data-legal f e))
small-bytes (Reply f) l e =
    let h = reply-fits f e in
    four-small 2 f.life f.window f.reply.first (f.reply.last ∷ []) (omega arith) (omega arith) (omega arith) (omega arith)
    (cons-small f.reply.last [] (omega arith) none-small)

pub written-is-read : (f : Frame) → HasRow f → first_no (value_questions f) ≡ 0 → Readable f
written-is-read f l e = record { bytes = bytes_of f; small = small-bytes f l e; read = read-written f l e }

pub read-is-written : (f : Frame) → Readable f → HasRow f × (first_no (value_questions f) ≡ 0)
read-is-written f r =
    let w = subst (λ g. WrittenAs g r.bytes) r.read.means (write-read r.bytes r.small r.read.accepted) in (w.row, w.accepted)

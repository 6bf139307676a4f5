-- What the paper leaves free, by name. No contract fixes what stands beyond w or behind a table's count, the cells of a row that is
-- neither outstanding nor held, and the reply timer of a row that is not held.
-- Same..: two structs differ in nothing but their free parts. Every field of the struct stands there. Arrays are compared by what
-- is read from them (`get_or`, `row_at`), so no law asks for their lengths.
-- FreeOf..: the properties of the free parts.
-- only_free: structs with the same view differ in nothing else. That they are sound is needed for the mat's marks alone.
-- not_shown: structs that differ in nothing else have the same view.
-- not_asked: question 4 asks nothing of the free parts but that reply timers are at most the reply wait.
use Rattle.std.specs.Prelude.{ℕ, ◌*◌, ◌≤◌, ◌<◌, ◌≡◌, true, false, get_or}
use Rattle.limits.specs.declared.Limits.{Limits}
use Rattle.limits.specs.Cells.{row_at}
use Rattle.mat.specs.declared.Mat.{Mat}
use Rattle.mat.specs.View.{outstanding_of, mark_at, cells_at, mat_state, sound_mat}
use Rattle.pad.specs.declared.Pad.{Pad}
use Rattle.pad.specs.View.{pad_state, sound_pad}
use Rattle.air.specs.declared.table.Table.{Table}
use Rattle.air.specs.Forms.{Form, data_form, reply_form}
use Rattle.air.specs.Tables.{table_messages, sound_in}
use Rattle.air.specs.Data.{DataTable}
use Rattle.air.specs.Replies.{ReplyTable}
use Rattle.events.specs.declared.Link.{Link}
use Rattle.events.specs.View.{link_state, sound_link}

-- Free in a mat: what stands beyond w, and the cells of rows not outstanding.
pub record SameMat (w : ℕ) (a b : Mat) : Type 0 where
  pub oldest : a.oldest ≡ b.oldest
  pub next : a.next ≡ b.next
  pub marks : (p : ℕ) → p < w → get_or a.marks p false ≡ get_or b.marks p false
  pub timers : (p : ℕ) → p < w → get_or a.timers p 0 ≡ get_or b.timers p 0
  pub outstanding_rows : (k : ℕ) → k < outstanding_of w a → cells_at w a k ≡ cells_at w b k

-- The view does not show the marks of rows not outstanding either. They are not free: in a sound mat they are off.
pub record FreeOfMat : Type 0 where
  pub only_free : (l : Limits) (a b : Mat) → sound_mat l a ≡ true → sound_mat l b ≡ true → mat_state l.window a ≡ mat_state l.window b
      → SameMat l.window a b
  pub not_shown : (w : ℕ) (a b : Mat) → 1 ≤ w → SameMat w a b → mat_state w a ≡ mat_state w b
  pub not_asked : (l : Limits) (a b : Mat) → 1 ≤ l.window → SameMat l.window a b → sound_mat l a ≡ sound_mat l b
  pub marks_off : (l : Limits) (m : Mat) → sound_mat l m ≡ true
      → (k : ℕ) → outstanding_of l.window m ≤ k → k < l.window → mark_at l.window m k ≡ false

-- Free in a pad: what stands beyond w, and the cells and reply timers of rows not held.
pub record SamePad (w : ℕ) (a b : Pad) : Type 0 where
  pub wanted : a.wanted ≡ b.wanted
  pub held : (p : ℕ) → p < w → get_or a.held p false ≡ get_or b.held p false
  pub held_timers : (p : ℕ) → p < w → get_or a.held p false ≡ true → get_or a.timers p 0 ≡ get_or b.timers p 0
  pub held_rows : (p : ℕ) → p < w → get_or a.held p false ≡ true → row_at a.cells p ≡ row_at b.cells p

-- all w timers are at most the reply wait, those of rows not held too
abbrev pub TimersLow : Limits → Pad → Type 0
TimersLow l p = (i : ℕ) → i < l.window → get_or p.timers i 0 ≤ l.replywait

pub record FreeOfPad : Type 0 where
  pub only_free : (w : ℕ) (a b : Pad) → pad_state w a ≡ pad_state w b → SamePad w a b
  pub not_shown : (w : ℕ) (a b : Pad) → SamePad w a b → pad_state w a ≡ pad_state w b
  pub not_asked : (l : Limits) (a b : Pad) → SamePad l.window a b → TimersLow l b → sound_pad l a ≡ true → sound_pad l b ≡ true
  pub timers_low : (l : Limits) (p : Pad) → sound_pad l p ≡ true → TimersLow l p

-- Free in a table: what stands beyond its count.
pub record SameTable {B : Type 0} {n : ℕ} (form : Form B) (a b : Table B n) : Type 0 where
  pub count : a.count ≡ b.count
  pub words : (k : ℕ) → k < form.width * a.count → get_or a.words k 0 ≡ get_or b.words k 0

pub record FreeOfTable {B : Type 0} (form : Form B) (n : ℕ) : Type 0 where
  pub only_free : (a b : Table B n) → table_messages form a ≡ table_messages form b → SameTable form a b
  pub not_shown : (a b : Table B n) → SameTable form a b → table_messages form a ≡ table_messages form b
  pub not_asked : (l : Limits) (a b : Table B n) → SameTable form a b → sound_in form l a ≡ sound_in form l b

abbrev pub SameData : DataTable → DataTable → Type 0
SameData a b = SameTable data_form a b

abbrev pub FreeOfData : Type 0
FreeOfData = FreeOfTable data_form 576

abbrev pub SameReplies : ReplyTable → ReplyTable → Type 0
SameReplies a b = SameTable reply_form a b

abbrev pub FreeOfReplies : Type 0
FreeOfReplies = FreeOfTable reply_form 96

-- Free in a link: what is free in its parts.
pub record SameLink (a b : Link) : Type 0 where
  pub limits : a.limits ≡ b.limits
  pub mat : SameMat a.limits.window a.mat b.mat
  pub pad : SamePad a.limits.window a.pad b.pad
  pub datas : SameData a.datas b.datas
  pub replies : SameReplies a.replies b.replies

pub record FreeOfLink : Type 0 where
  pub only_free : (a b : Link) → sound_link a ≡ true → sound_link b ≡ true → link_state a ≡ link_state b → SameLink a b
  pub not_shown : (a b : Link) → 1 ≤ a.limits.window → SameLink a b → link_state a ≡ link_state b
  pub not_asked : (a b : Link) → SameLink a b → TimersLow a.limits b.pad → sound_link a ≡ true → sound_link b ≡ true

pub record Free : Type 0 where
  pub mat : FreeOfMat
  pub pad : FreeOfPad
  pub datas : FreeOfData
  pub replies : FreeOfReplies
  pub link : FreeOfLink

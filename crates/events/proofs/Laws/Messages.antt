-- A message found in a sound table is sound.
use Prim.Native.Nat.{ℕ, ◌<◌}
use mathlib.Core.Path.{◌≡◌, refl, sym, ◌∙◌, ap}
use mathlib.Core.Bool.{Bool, true}
use mathlib.Core.List.{List}
use lib.Dec.{leb}
use lib.ListN.{length, get_or}
use borrow.Author.Tests.{ltb-true}
use Rattle.limits.specs.declared.Limits.{Limits}
use Rattle.limits.specs.Lists.{all}
use Rattle.limits.specs.Questions.{first_no, Answered}
use Rattle.limits.specs.Limits.{between}
use Rattle.limits.specs.Tables.{Message, capacity}
use Rattle.limits.proofs.Laws.Choice.{and_right}
use Rattle.limits.proofs.Laws.Lists.{all-at}
use Rattle.limits.proofs.Laws.Questions.{each}
use Rattle.air.specs.declared.table.Table.{Table}
use Rattle.std.specs.Prelude.{Ok}
use Rattle.air.specs.Rules.{place_questions, sound_message, sound_messages}
use Rattle.air.specs.Forms.{Form, sound_table}
use Rattle.air.specs.Tables.{table_messages, sound_in}

pub found : {A : Type 0} (p : ℕ) (ms : List A) → first_no (place_questions p ms) ≡ 0 → p < length ms
unfolding all
found p ms e = ltb-true p (length ms) (each (place_questions p ms) refl e).0

message-sound : {B : Type 0} (sound : B → Bool) (most : ℕ) (ms : List (Message B)) (p : ℕ) (d : Message B) → p < length ms → sound_messages sound most ms ≡ true
    → sound (get_or ms p d).body ≡ true
unfolding sound_messages sound_message
message-sound sound most ms p d h e =
    and_right (between 1 most (get_or ms p d).life) _ (all-at (sound_message sound most) ms p d h (and_right (leb (length ms) capacity) _ e))

-- a message that was found
module _ {B : Type 0} {k : ℕ} (form : Form B) (l : Limits) (t : Table B k) (n : ℕ) (x : B)
    (c : Answered (place_questions n (table_messages form t)) (Ok x) (get_or (table_messages form t) n form.none).body) where
  pub there : n < length (table_messages form t)
  there = found n (table_messages form t) (sym c.number)

  pub found-sound : sound_in form l t ≡ true → form.sound l x ≡ true
  unfolding sound_table
  found-sound s = ap (form.sound l) c.value ∙ message-sound (form.sound l) (form.longest l) (table_messages form t) n form.none there s

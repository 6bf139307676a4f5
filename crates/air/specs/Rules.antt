-- The questions that a table puts, of either kind of message, and question 4 of its messages.
use Rattle.std.specs.Prelude.{ℕ, Bool, ◌&&◌, List, [], ◌∷◌, leb, ltb, length}
use Rattle.limits.specs.Lists.{all}
use Rattle.limits.specs.Questions.{Question, ask}
use Rattle.limits.specs.Limits.{between}
use Rattle.limits.specs.Tables.{Message, capacity, has_room}

-- a message more: 13 in the data table, 18 in the reply table
abbrev pub room_questions : {A : Type 0} → ℕ → List A → List Question
room_questions code ms = ask code (has_room ms) ∷ []

-- message p is in the table
abbrev pub place_questions : {A : Type 0} → ℕ → List A → List Question
place_questions p ms = ask 17 (ltb p (length ms)) ∷ []

-- question 4 of a message whose life is at most `most`, and of a table of them
unfoldable pub sound_message : {B : Type 0} → (B → Bool) → ℕ → Message B → Bool
sound_message sound most m = between 1 most m.life && sound m.body

unfoldable pub sound_messages : {B : Type 0} → (B → Bool) → ℕ → List (Message B) → Bool
sound_messages sound most ms = leb (length ms) capacity && all (sound_message sound most) ms

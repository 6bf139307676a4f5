-- What question 4 of a message says, fact by fact.
use Prim.Native.Nat.{ℕ, ◌*◌, ◌≤◌, ◌<◌}
use mathlib.Core.Path.{◌≡◌}
use mathlib.Core.Bool.{true, ◌&&◌}
use mathlib.Core.List.{List}
use Rattle.limits.specs.Cells.{legal_row}
use lib.Dec.{leb, ltb}
use borrow.Author.Tests.{ltb-true, leb-true, lt-ltb, le-leb}
use Rattle.limits.specs.declared.Limits.{Limits}
use Rattle.limits.specs.Tables.{Data, Reply, span, sound_reply, sound_data}
use Rattle.limits.proofs.Laws.Choice.{and_left, and_right, both}

pub record ReplyFacts (l : Limits) (x : Reply) : Type 0 where
  pub first : x.first < 2 * l.window
  pub last : x.last < 2 * l.window
  pub span : span l.window x ≤ l.window

pub reply-facts : (l : Limits) (x : Reply) → sound_reply l x ≡ true → ReplyFacts l x
unfolding sound_reply
reply-facts l x e =
    record {
      first = ltb-true _ _ (and_left (ltb x.first (2 * l.window)) _ e);
      last = ltb-true _ _ (and_left (ltb x.last (2 * l.window)) (leb (span l.window x) l.window) rest);
      span = leb-true _ _ (and_right (ltb x.last (2 * l.window)) (leb (span l.window x) l.window) rest);
    }
  where
    rest : (ltb x.last (2 * l.window) && leb (span l.window x) l.window) ≡ true
    rest = and_right (ltb x.first (2 * l.window)) _ e

pub message-low : (l : Limits) (number : ℕ) (row : List ℕ) → sound_data l (record { number = number; row = row }) ≡ true → number < 2 * l.window
unfolding sound_data
message-low l number row e = ltb-true _ _ (and_left (ltb number (2 * l.window)) _ e)

pub message-legal : (l : Limits) (number : ℕ) (row : List ℕ) → sound_data l (record { number = number; row = row }) ≡ true → legal_row row ≡ true
unfolding sound_data
message-legal l number row e = and_right (ltb number (2 * l.window)) _ e

pub data-sound : (l : Limits) (x : Data) → x.number < 2 * l.window → legal_row x.row ≡ true → sound_data l x ≡ true
unfolding sound_data
data-sound l x h e = both _ _ (lt-ltb _ _ h) e

pub reply-sound : (l : Limits) (x : Reply) → x.first < 2 * l.window → x.last < 2 * l.window → span l.window x ≤ l.window → sound_reply l x ≡ true
unfolding sound_reply
reply-sound l x f e s = both _ _ (lt-ltb _ _ f) (both _ _ (lt-ltb _ _ e) (le-leb _ _ s))

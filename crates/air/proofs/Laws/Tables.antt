-- What the calls on a table answer and leave.
use Prim.Native.Nat.{ℕ, ◌≤◌, ◌<◌}
use mathlib.Core.Path.{◌≡◌, refl, sym}
use mathlib.Core.Bool.{Bool, true, ◌&&◌}
use mathlib.Core.List.{List, ◌∷◌}
use native.Mathlib.Omega.{arith}
use lib.ListN.{length}
use borrow.Author.Tests.{ltb-true}
use Rattle.std.specs.Prelude.{Ok}
use Rattle.limits.specs.declared.Limits.{Limits}
use Rattle.limits.specs.Limits.{sound_limits}
use Rattle.limits.specs.Lists.{all}
use Rattle.limits.specs.Questions.{Question, ask, first_no, Changed}
use Rattle.limits.proofs.Laws.Choice.{and_right}
use Rattle.limits.proofs.Laws.Questions.{each}
use Rattle.air.specs.Rules.{place_questions}
use Rattle.air.specs.Forms.{Form, messages_of, sound_table}
use Rattle.air.proofs.Laws.Forms.{length-messages, count-few}

-- a call that is done
pub changed-done : {S V : Type 0} (qs : List Question) (shown moved : V) (sound : S → Bool) (before after : S)
    → first_no qs ≡ 0 → shown ≡ moved → sound after ≡ true → Changed {X = Unit {0}} qs (Ok tt) tt shown moved sound before after
changed-done qs shown moved sound before after e s h = record { answered = record { number = sym e; value = refl }; left = s; kept = tt; stays = λ _. h }

-- a message that was asked for and is there
pub record There {B : Type 0} (form : Form B) (l : Limits) (n : ℕ) (words : List ℕ) (p : ℕ) : Type 0 where
  pub sound : sound_table form l n words ≡ true
  pub below : p < n
  pub few : n ≤ 32

pub there : {B : Type 0} (form : Form B) (l : Limits) (n : ℕ) (words : List ℕ) (p : ℕ)
    → first_no (ask 4 (sound_limits l && sound_table form l n words) ∷ place_questions p (messages_of form n words)) ≡ 0 → There form l n words p
unfolding all
there form l n words p e =
    let passed = each (ask 4 (sound_limits l && sound_table form l n words) ∷ place_questions p (messages_of form n words)) refl e in
    let s : sound_table form l n words ≡ true = and_right (sound_limits l) _ passed.0 in
    record {
      sound = s;
      below = let k = length-messages form n words in let h = ltb-true p (length (messages_of form n words)) passed.1.0 in omega arith;
      few = count-few form n words l s;
    }

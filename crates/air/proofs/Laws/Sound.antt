-- Laws on the questions of a table and on question 4 of its messages, of either kind.
use Prim.Native.Nat.{ℕ, zero, suc, ◌-◌, ◌≤◌, ◌<◌}
use mathlib.Core.Path.{◌≡◌, refl, sym, ◌∙◌, ap}
use mathlib.Core.Bool.{Bool, true, false}
use mathlib.Core.List.{List, [], ◌∷◌}
use native.Mathlib.Omega.{arith}
use lib.Dec.{leb, ltb}
use borrow.Author.Tests.{leb-true, leb-false, le-leb, lt-leb, lt-ltb, le-ltb}
use lib.ListN.{length, length-append}
use Rattle.limits.specs.Lists.{tab, all}
use Rattle.limits.specs.Limits.{between}
use Rattle.limits.specs.Questions.{pick, first_no}
use Rattle.limits.specs.Tables.{Message, put, remove, age}
use Rattle.limits.proofs.Laws.Choice.{and_left, and_right, both, and-no-left, and-goes-on, test, pick_yes, pick_no}
use Rattle.limits.proofs.Laws.Lists.{length-tab, all_append}
use Rattle.limits.proofs.Laws.Good.{between-high, in_between}
use Rattle.air.specs.Rules.{room_questions, place_questions, sound_message, sound_messages}

-- the one question of a sound table's call, of n messages
module _ {A : Type 0} (ms : List A) (n : ℕ) (l : length ms ≡ n) where
  pub room-test : ltb n 32 ≡ ltb (length ms) 32
  room-test = ap (λ k. ltb k 32) (sym l)

  pub room-passed : (code : ℕ) → n < 32 → 0 ≡ first_no (room_questions code ms)
  room-passed code h = sym (pick_yes _ _ _ _ (sym room-test ∙ lt-ltb n 32 h) refl)

  pub room-refused : (code : ℕ) → 32 ≤ n → code ≡ first_no (room_questions code ms)
  room-refused code h = sym (pick_no _ _ _ _ (sym room-test ∙ le-ltb n 32 h) refl)

  pub place-refused : (p : ℕ) → n ≤ p → 17 ≡ first_no (place_questions p ms)
  place-refused p h = sym (pick_no _ _ _ _ (ap (ltb p) l ∙ le-ltb p n h) refl)

  pub place-passed : (p : ℕ) → p < n → 0 ≡ first_no (place_questions p ms)
  place-passed p h = sym (pick_yes _ _ _ _ (ap (ltb p) l ∙ lt-ltb p n h) refl)

-- what removing and aging leave of a list
module _ {A : Type 0} (ok : A → Bool) where
  all_remove : (p : ℕ) (ms : List A) → all ok ms ≡ true → all ok (remove p ms) ≡ true
  unfolding remove all
  all_remove p [] e = refl
  all_remove zero (m ∷ ms) e = and_right (ok m) (all ok ms) e
  all_remove (suc p) (m ∷ ms) e = both (ok m) _ (and_left (ok m) (all ok ms) e) (all_remove p ms (and_right (ok m) (all ok ms) e))

length-remove : {A : Type 0} (p : ℕ) (ms : List A) → length (remove p ms) ≤ length ms
unfolding remove
length-remove p [] = omega arith
length-remove zero (m ∷ ms) = omega arith
length-remove (suc p) (m ∷ ms) = let h = length-remove p ms in omega arith

length-age : {B : Type 0} (d : ℕ) (ms : List (Message B)) → length (age d ms) ≤ length ms
unfolding age pick
length-age d [] = omega arith
length-age d (m ∷ ms) = let h = length-age d ms in test (leb m.life d) (λ e. rw e (omega arith)) (λ e. rw e (omega arith))

module _ {B : Type 0} (sound : B → Bool) (most : ℕ) where
  -- what is left of a sound message's life is sound
  pub aged-sound : (d : ℕ) (m : Message B) → sound_message sound most m ≡ true → d < m.life
      → sound_message sound most (record { body = m.body; life = m.life - d }) ≡ true
  unfolding sound_message
  aged-sound d m e h =
      both _ _
      (let k = between-high 1 most m.life (and_left (between 1 most m.life) _ e) in in_between 1 most (m.life - d) (omega arith) (omega arith))
      (and_right (between 1 most m.life) _ e)

  all-age : (d : ℕ) (ms : List (Message B)) → all (sound_message sound most) ms ≡ true → all (sound_message sound most) (age d ms) ≡ true
  unfolding age all pick
  all-age d [] e = refl
  all-age d (m ∷ ms) e =
      let rest = all-age d ms (and_right (sound_message sound most m) (all (sound_message sound most) ms) e) in
      test (leb m.life d)
      (λ q. rw q rest)
      (λ q. rw q (both _ _ (aged-sound d m (and_left (sound_message sound most m) _ e) (leb-false m.life d q)) rest))

  pub sound-is : (ms : List (Message B)) → length ms ≤ 32 → all (sound_message sound most) ms ≡ true → sound_messages sound most ms ≡ true
  unfolding sound_messages
  sound-is ms h e = both _ _ (le-leb (length ms) 32 h) e

  pub sound-few : (ms : List (Message B)) → sound_messages sound most ms ≡ true → length ms ≤ 32
  unfolding sound_messages
  sound-few ms e = leb-true (length ms) 32 (and_left (leb (length ms) 32) _ e)

  pub sound-all : (ms : List (Message B)) → sound_messages sound most ms ≡ true → all (sound_message sound most) ms ≡ true
  unfolding sound_messages
  sound-all ms e = and_right (leb (length ms) 32) _ e

  -- each event leaves a sound table sound
  pub put-sound : (m : Message B) (ms : List (Message B)) → sound_messages sound most ms ≡ true → sound_message sound most m ≡ true → length ms < 32
      → sound_messages sound most (put m ms) ≡ true
  unfolding all
  put-sound m ms e q h =
      sound-is (put m ms) (let l = length-append ms (m ∷ []) in omega arith)
      (all_append (sound_message sound most) ms (m ∷ []) ∙ both _ _ (sound-all ms e) (both _ _ q refl))

  pub remove-sound : (p : ℕ) (ms : List (Message B)) → sound_messages sound most ms ≡ true → sound_messages sound most (remove p ms) ≡ true
  remove-sound p ms e =
      sound-is (remove p ms) (let h = sound-few ms e in let l = length-remove p ms in omega arith)
      (all_remove (sound_message sound most) p ms (sound-all ms e))

  pub age-sound : (d : ℕ) (ms : List (Message B)) → sound_messages sound most ms ≡ true → sound_messages sound most (age d ms) ≡ true
  age-sound d ms e =
      sound-is (age d ms) (let h = sound-few ms e in let l = length-age d ms in omega arith) (all-age d ms (sound-all ms e))

  -- the loop that asks each message of a table
  pub too_many : (ms : List (Message B)) → 32 < length ms → false ≡ sound_messages sound most ms
  unfolding sound_messages
  too_many ms h = sym (and-no-left _ _ (lt-leb (length ms) 32 h))

  pub all_asked : (n i : ℕ) (f : ℕ → Message B) (good : Bool) → good ≡ all (sound_message sound most) (tab i f) → i ≡ n → n ≤ 32
      → good ≡ sound_messages sound most (tab n f)
  unfolding sound_messages
  all_asked n i f good e q h =
      e
      ∙ ap (λ k. all (sound_message sound most) (tab k f)) q
      ∙ and-goes-on (leb (length (tab n f)) 32) _ (le-leb (length (tab n f)) 32 (let k = length-tab n f in omega arith))

-- Frames in the air: a test that all of them pass, as frames come, leave and age; and what the frame that a device wrote reads as.
use Rattle.std.proofs.lemmas.List.{length-map}
use native.Mathlib.Omega.{arith}
use Prim.Native.Nat.{ℕ, zero, suc, ◌<◌}
use mathlib.Core.Path.{◌≡◌, refl, sym, ◌∙◌, ap}
use mathlib.Core.Bool.{Bool, true}
use mathlib.Core.List.{List, [], ◌∷◌, map}
use lib.Dec.{eqb, leb, ltb}
use lib.ListN.{length, take, drop}
use lib.Seq.{take_at}
use borrow.Author.Tests.{eq-eqb, lt-ltb}
use Rattle.limits.specs.declared.Limits.{Limits}
use Rattle.limits.specs.Lists.{all}
use Rattle.limits.specs.Limits.{sound_limits}
use Rattle.limits.specs.Questions.{first_no}
use Rattle.limits.specs.Tables.{Message, Data, Reply, on_body, put, remove, age, sound_data, sound_reply}
use Rattle.limits.proofs.Laws.Choice.{pick-cases, and_left, and_right, both}
use Rattle.limits.proofs.Laws.Lists.{all_append}
use Rattle.frames.specs.Layout.{bytes_of, size_of, frame_into}
use Rattle.frames.specs.Meanings.{HasRow}
use Rattle.frames.specs.declared.DataFrame.{DataFrame}
use Rattle.frames.specs.declared.Frame.{Frame}
use Rattle.frames.proofs.Theorems.{length-bytes, data-of-bytes, read-written}
use Rattle.devices.specs.Frames.{data_frame, reply_frame, data_questions, data_in}
use Rattle.devices.proofs.Laws.Frames.{data-asked, reply-asked, received}
use Rattle.world.specs.World.{frame_in_air}
use Rattle.world.specs.TwoDevices.{good_data, good_reply}

module _ {A : Type 0} (p : A → Bool) where
  pub all-removed : (k : ℕ) (xs : List A) → all p xs ≡ true → all p (remove k xs) ≡ true
  unfolding all remove
  all-removed k [] e = refl
  all-removed zero (x ∷ xs) e = and_right (p x) (all p xs) e
  all-removed (suc k) (x ∷ xs) e = both (p x) _ (and_left (p x) (all p xs) e) (all-removed k xs (and_right (p x) (all p xs) e))

  pub all-put : (x : A) (xs : List A) → all p xs ≡ true → p x ≡ true → all p (put x xs) ≡ true
  unfolding all
  all-put x xs e h = all_append p xs (x ∷ []) ∙ both _ _ e (both (p x) true h refl)

-- a test of what messages carry
pub all-aged : {B : Type 0} (p : B → Bool) (d : ℕ) (xs : List (Message B)) → all (λ (m : Message B). p m.body) xs ≡ true
    → all (λ (m : Message B). p m.body) (age d xs) ≡ true
unfolding all age
all-aged {B = B} p d [] e = refl
all-aged {B = B} p d (x ∷ xs) e =
    let rest = all-aged p d xs (and_right (p x.body) _ e) in
    pick-cases (λ ms. all (λ (m : Message B). p m.body) ms ≡ true) (leb x.life d) _ _ (λ _. rest) (λ _. both _ _ (and_left (p x.body) _ e) rest)

-- a frame at a buffer's front is what goes into the air
frame-taken : (f : Frame) (buffer : List ℕ) → HasRow f → take (size_of f) (frame_into f buffer) ≡ bytes_of f
frame-taken f buffer h = take_at (bytes_of f) (drop (size_of f) buffer) (size_of f) (length-bytes f h)

-- what a device wrote passes the questions of the other, and its message is the one that was written
module _ (l : Limits) (g : sound_limits l ≡ true) (buffer : List ℕ) where
  module _ (x : Data) (s : sound_data l x ≡ true) (h : length x.row ≡ 16) where
    pub data-in-air : on_body data_in (frame_in_air 36 (frame_into (data_frame l x) buffer)) ≡ record { body = x; life = l.datalife }
    data-in-air =
        λ i. record {
          body = (ap data_in (frame-taken (data_frame l x) buffer h) ∙ ap (λ (f : DataFrame). f.«data») (data-of-bytes (record { life = l.datalife; window = l.window; «data» = x }) h)) i;
          life = l.datalife;
        }

    pub data-good : good_data l (frame_in_air 36 (frame_into (data_frame l x) buffer)) ≡ true
    data-good =
        let r = read-written (data_frame l x) h (data-asked l g x s) in
        ap (λ bytes. eqb (first_no (data_questions l bytes)) 0) (frame-taken (data_frame l x) buffer h)
        ∙ eq-eqb _ 0 (sym (received l (bytes_of (data_frame l x)) true (sym r.accepted) refl refl))

  module _ (x : Reply) (s : sound_reply l x ≡ true) where
    pub reply-good : good_reply l (frame_in_air 5 (frame_into (reply_frame l x) buffer)) ≡ true
    reply-good =
        let r = read-written (reply_frame l x) (tt {0}) (reply-asked l g x s) in
        eq-eqb _ 0 (sym (received l (bytes_of (reply_frame l x)) true (sym r.accepted) refl refl))

-- a frame that is in the air is in the table that is read from it
pub in-table : {B C : Type 0} (g : B → C) (fs : List (Message B)) (k : ℕ) → k < length fs → ltb k (length (map (on_body g) fs)) ≡ true
in-table g fs k h = lt-ltb k (length (map (on_body g) fs)) (let z = length-map fs (on_body g) in omega arith)

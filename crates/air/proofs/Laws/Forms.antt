-- Tables of either form, as counts and lent words: their messages, question 4, and what events leave of them.
use Prim.Native.Nat.{ℕ, ◌+◌, ◌-◌, ◌*◌, ◌≤◌, ◌<◌}
use mathlib.Core.Path.{◌≡◌, refl, sym, ◌∙◌, ap, ap₂}
use mathlib.Core.Bool.{Bool, true, false, ◌&&◌}
use mathlib.Core.List.{List, map}
use native.Mathlib.Omega.{arith}
use lib.Dec.{leb}
use lib.ListN.{length, get_or, take, drop, length-map}
use Rattle.limits.specs.declared.Limits.{Limits}
use Rattle.limits.specs.Limits.{sound_limits}
use Rattle.limits.specs.Lists.{tab, all}
use Rattle.limits.specs.Tables.{Message, on_body, put, remove, age, expired}
use Rattle.limits.proofs.Laws.Choice.{both}
use Rattle.limits.proofs.Laws.Good.{in_between}
use Rattle.limits.proofs.Laws.Lists.{all_map, all-next, all_both, flag-end, length-tab, get_or-tab}
use Rattle.limits.proofs.Laws.Mapped.{table_at, table-put, table-remove, table-age}
use Rattle.limits.proofs.Laws.Sizes.{size-age, expired-read}
use Rattle.tables.specs.Words.{message_of, message_at, messages}
use Rattle.tables.proofs.Laws.Words.{starts_by, ends_by}
use Rattle.air.specs.Rules.{sound_message, sound_messages}
use Rattle.air.specs.Forms.{Form, FormLaws, entry_at, sound_of, messages_of, sound_table, Holds}
use Rattle.air.proofs.Laws.Sound.{sound-few, put-sound, remove-sound, age-sound, too_many, all_asked}

-- the first n of 32 messages lie within the words, and message n does
pub words-fit : (w n len : ℕ) → n ≤ 32 → w * 32 ≤ len → w * n ≤ len
words-fit w n len h f = let q = starts_by w n 32 h in omega arith

pub word_fits : (w n len : ℕ) → n < 32 → w * 32 ≤ len → w * n + w ≤ len
word_fits w n len h f = let q = ends_by w n 32 h in omega arith

pub message_fits : (w n p len : ℕ) → p < n → n ≤ 32 → w * 32 ≤ len → w * p + w ≤ len
message_fits w n p len b f h = word_fits w p len (omega arith) h

module _ {B : Type 0} (form : Form B) (n : ℕ) (words : List ℕ) where
  pub length-messages : length (messages_of form n words) ≡ n
  unfolding messages_of messages
  length-messages = length-map (messages form.width n words) (on_body form.reads) ∙ length-tab n _

  -- message p of the table
  pub message-read : (p : ℕ) → p < n → on_body form.reads (message_at form.width words p) ≡ get_or (messages_of form n words) p form.none
  unfolding messages_of messages
  message-read p h =
      sym
      (table_at (on_body form.reads) (tab n (message_at form.width words)) p (message_at form.width words p) form.none (let l = length-tab n (message_at form.width words) in omega arith)
      ∙ ap (on_body form.reads) (get_or-tab n (message_at form.width words) p _ h))

  -- a sound table has at most 32 messages
  pub count-few : (l : Limits) → sound_table form l n words ≡ true → n ≤ 32
  unfolding sound_table
  count-few l e = let h = sound-few (form.sound l) (form.longest l) (messages_of form n words) e in let k = length-messages in omega arith

  -- question 4, of the words
  sound-words : (l : Limits) → sound_table form l n words ≡ sound_messages (λ b. form.sound l (form.reads b)) (form.longest l) (messages form.width n words)
  unfolding sound_table messages_of sound_messages sound_message
  sound-words l =
      let ms = messages form.width n words in ap₂ (λ k b. leb k 32 && b) (length-map ms (on_body form.reads)) (all_map _ (on_body form.reads) ms)

-- a message's words put behind the others
pub put-read : {B : Type 0} (form : Form B) (n : ℕ) (words next m : List ℕ) (x : Message B) → on_body form.reads (message_of form.width m) ≡ x
    → messages form.width (n + 1) next ≡ put (message_of form.width m) (messages form.width n words) → messages_of form (n + 1) next ≡ put x (messages_of form n words)
unfolding messages_of
put-read form n words next m x is e =
    ap (map (on_body form.reads)) e
    ∙ sym (table-put (on_body form.reads) (message_of form.width m) (messages form.width n words))
    ∙ ap (λ y. put y (map (on_body form.reads) (messages form.width n words))) is

-- what an event leaves of a sound table
module _ {B : Type 0} (form : Form B) (l : Limits) (n : ℕ) (words next : List ℕ) (s : sound_table form l n words ≡ true) where
  pub put_holds : (x : Message B) → messages_of form (n + 1) next ≡ put x (messages_of form n words) → sound_of form l x ≡ true → n < 32
      → Holds form l (n + 1) next (put x (messages_of form n words))
  unfolding sound_table
  put_holds x e q h = (
    rw e (put-sound (form.sound l) (form.longest l) x (messages_of form n words) s q (let k = length-messages form n words in omega arith)),
    e,
  )

  pub remove-holds : (w p : ℕ) → w ≡ form.width → messages w (n - 1) next ≡ remove p (messages w n words)
      → Holds form l (n - 1) next (remove p (messages_of form n words))
  unfolding sound_table messages_of
  remove-holds w p is e =
      let same : map (on_body form.reads) (messages form.width (n - 1) next) ≡ remove p (map (on_body form.reads) (messages form.width n words))
      = ap (map (on_body form.reads)) (rw is at e) ∙ sym (table-remove (on_body form.reads) p (messages form.width n words)) in
      (rw same (remove-sound (form.sound l) (form.longest l) p (map (on_body form.reads) (messages form.width n words)) s), same)

  pub age-holds : (w d left : ℕ) → w ≡ form.width → messages w left next ≡ age d (messages w n words) → Holds form l left next (age d (messages_of form n words))
  unfolding sound_table messages_of
  age-holds w d left is e =
      let same : map (on_body form.reads) (messages form.width left next) ≡ age d (map (on_body form.reads) (messages form.width n words))
      = ap (map (on_body form.reads)) (rw is at e) ∙ sym (table-age form.reads d (messages form.width n words)) in
      (rw same (age-sound (form.sound l) (form.longest l) d (map (on_body form.reads) (messages form.width n words)) s), same)

-- the messages that are left, and those whose life is over
pub age-counts : {B : Type 0} (form : Form B) (n : ℕ) (words next : List ℕ) (w d left : ℕ) → w ≡ form.width
    → messages w left next ≡ age d (messages w n words) → left + expired d (messages_of form n words) ≡ n
unfolding messages_of messages
age-counts form n words next w d left is e =
    let here = tab n (message_at form.width words) in
    let kept : tab left (message_at form.width next) ≡ age d here = rw is at e in
    let size = ap length kept in
    let all_of_them = size-age d here in
    let read = expired-read form.reads d here in
    let a = length-tab left (message_at form.width next) in
    let b = length-tab n (message_at form.width words) in
    omega arith

module _ {B : Type 0} (form : Form B) {fits : B → Type 0} (laws : FormLaws form fits) (l : Limits) where
  -- a message put with its full life is sound
  pub full-sound : (x : B) → sound_limits l ≡ true → form.sound l x ≡ true → sound_of form l (record { body = x; life = form.longest l }) ≡ true
  unfolding sound_message
  full-sound x g e = let h = laws.lives l g in both _ _ (in_between 1 (form.longest l) (form.longest l) (omega arith) (omega arith)) e

  -- the loop that asks each message of a table
  pub asked-next : (words : List ℕ) (w i at : ℕ) (good test : Bool) {r : Bool} → r ≡ (good && test)
      → good ≡ all (form.head l) (tab i (message_at form.width words)) → test ≡ form.head l (entry_at form.width words at) → at ≡ form.width * i
      → r ≡ all (form.head l) (tab (i + 1) (message_at form.width words))
  asked-next words w i at good test e g t a =
      e ∙ ap₂ ◌&&◌ g (t ∙ ap (λ k. form.head l (entry_at form.width words k)) a) ∙ sym (all-next (form.head l) i (message_at form.width words))

  -- the loop's end, with the cells
  pub asked-end : (words : List ℕ) (n i : ℕ) (good cells : Bool) {r : Bool} → sound_limits l ≡ true → form.width * 32 ≤ length words → n ≤ 32 → i ≡ n
      → r ≡ (good && cells) → good ≡ all (form.head l) (tab i (message_at form.width words)) → cells ≡ form.cells (take (form.width * n) words)
      → r ≡ sound_table form l n words
  unfolding messages sound_message
  asked-end words n i good cells s fits few q e g t =
      all_asked (λ b. form.sound l (form.reads b)) (form.longest l) n n (message_at form.width words) _
      (e
      ∙ ap₂ ◌&&◌ (flag-end (form.head l) (message_at form.width words) n i good g q) (t ∙ laws.each words n)
      ∙ all_both (form.head l) form.cells (λ m. sound_message (λ b. form.sound l (form.reads b)) (form.longest l) m) (message_at form.width words)
      (λ k. take form.width (drop (form.width * k) words)) (message_at form.width words) n
      (λ k h. parts-asked words k s (let z = ends_by form.width k 32 (omega arith) in omega arith)))
      refl few
      ∙ sym (sound-words form n words l)
    where
      parts-asked : (words : List ℕ) (k : ℕ) → sound_limits l ≡ true → form.width * k + form.width ≤ length words
          → (form.head l (message_at form.width words k) && form.cells (take form.width (drop (form.width * k) words)))
          ≡ sound_message (λ b. form.sound l (form.reads b)) (form.longest l) (message_at form.width words k)
      parts-asked words k s h = laws.parts l words (form.width * k) s h

  pub asked-many : (words : List ℕ) (n : ℕ) → 32 < n → false ≡ sound_table form l n words
  unfolding sound_table
  asked-many words n h = too_many (form.sound l) (form.longest l) (messages_of form n words) (let k = length-messages form n words in omega arith)

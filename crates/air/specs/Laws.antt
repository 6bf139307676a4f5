-- The two forms keep their laws. What stands in the words of data and of a reply, read and written, and question 4 of them. Nothing here
-- is to be believed: these are proofs, which stand in specs since an impl gives them and may name nothing of its own crate's proofs.
use Prim.Native.Nat.{ℕ, suc, ◌+◌, ◌-◌, ◌*◌, ◌^◌, ◌≤◌, ◌<◌}
use mathlib.Core.Path.{◌≡◌, refl, sym, ◌∙◌, ap, ap₂}
use mathlib.Core.Bool.{Bool, true, false, ◌&&◌, and-true}
use mathlib.Core.List.{List, ◌∷◌, []}
use native.Mathlib.Numerals.{add-one}
use native.Mathlib.Omega.{arith}
use lib.Dec.{ltb}
use borrow.Author.Tests.{ltb-true}
use lib.ListN.{length, get_or, take, drop, set, replicate}
use lib.Seq.{get_or-take, get_or-drop, drop-cons}
use Rattle.limits.specs.declared.Limits.{Limits}
use Rattle.limits.specs.Lists.{tab, all}
use Rattle.limits.specs.Cells.{legal_cell, legal_row}
use Rattle.limits.specs.Limits.{between, sound_limits}
use Rattle.limits.specs.Tables.{Message, Data, Reply, on_body, sound_data, sound_reply}
use Rattle.limits.proofs.Laws.Lists.{is-tab, drop-tab, get_or-tab, tab-ext, all-tab}
use Rattle.limits.proofs.Laws.Good.{good, between-high}
use Rattle.limits.proofs.Laws.Cells.{small-legal}
use Rattle.limits.proofs.Laws.Messages.{message-low, reply-facts}
use Rattle.rows.specs.Arrays.{pasted}
use Rattle.rows.proofs.Laws.Cells.{length_part, legal-rows}
use Rattle.rows.proofs.Laws.Changed.{changed-at, changed-other, inside, below}
use Rattle.tables.specs.Words.{entry, message_of}
use Rattle.air.specs.Rules.{sound_message}
use Rattle.air.specs.Forms.{FormLaws, entry_at, data_of, reply_of, data_form, reply_form}

abbrev data_is : ℕ → ℕ → List ℕ → Message Data
data_is life number row = record { body = record { number = number; row = row }; life = life }

abbrev reply_is : ℕ → ℕ → ℕ → Message Reply
reply_is life first last = record { body = record { first = first; last = last }; life = life }

-- a message whose word k is f k
module _ (f : ℕ → ℕ) where
  data-entry : (life number : ℕ) (row : List ℕ) → life ≡ f 0 → number ≡ f 1 → row ≡ tab 16 (λ k. f (k + 2))
      → data_is life number row ≡ on_body data_of (entry 18 f)
  unfolding entry
  data-entry life number row a b e =
      λ i. record {
        body =
            record {
              number = (b ∙ sym (get_or-tab 17 (λ k. f (k + 1)) 0 0 (omega arith))) i;
              row =
                  (e ∙ tab-ext 16 (λ k. f (k + 2)) (λ k. f (1 + k + 1)) (λ k _. ap f {x = k + 2} {y = 1 + k + 1} (omega arith)) ∙ sym (drop-tab 1 17 (λ k. f (k + 1)))) i;
            };
        life = a i;
      }

  reply-entry : (life first last : ℕ) → life ≡ f 0 → first ≡ f 1 → last ≡ f 2 → reply_is life first last ≡ on_body reply_of (entry 3 f)
  unfolding entry tab
  reply-entry life first last a b e = λ i. record { body = record { first = b i; last = e i }; life = a i }

part-tab : (words : List ℕ) (at : ℕ) → at + 18 ≤ length words → take 16 (drop (at + 2) words) ≡ tab 16 (λ k. get_or words (at + (k + 2)) 0)
part-tab words at h =
    is-tab (take 16 (drop (at + 2) words)) 16 _ 0 (length_part words (at + 2) (omega arith))
    (λ i k. get_or-take 16 (drop (at + 2) words) i 0 k
    ∙ get_or-drop (at + 2) words i 0
    ∙ ap (λ j. get_or words j 0) {x = at + 2 + i} {y = at + (i + 2)} (omega arith))

module _ (words : List ℕ) (at : ℕ) where
  pub data-read : (number : ℕ) (row : List ℕ) → at + 18 ≤ length words → number ≡ get_or words (at + 1) 0 → row ≡ take 16 (drop (at + 2) words)
      → data_is (get_or words at 0) number row ≡ on_body data_of (entry 18 (λ k. get_or words (at + k) 0))
  data-read number row h n e =
      data-entry (λ k. get_or words (at + k) 0) _ _ _ (ap (λ j. get_or words j 0) {x = at} {y = at + 0} (omega arith)) n (e ∙ part-tab words at h)

  pub reply-read : (first last : ℕ) → first ≡ get_or words (at + 1) 0 → last ≡ get_or words (at + 2) 0
      → reply_is (get_or words at 0) first last ≡ on_body reply_of (entry 3 (λ k. get_or words (at + k) 0))
  reply-read first last a b =
      reply-entry (λ k. get_or words (at + k) 0) _ _ _ (ap (λ j. get_or words j 0) {x = at} {y = at + 0} (omega arith)) a b

  -- question 4 of the message at `at`
  data-asked : (l : Limits) (number : ℕ) (row : List ℕ) → at + 18 ≤ length words → number ≡ get_or words (at + 1) 0 → row ≡ take 16 (drop (at + 2) words)
      → (between 1 l.datalife (get_or words at 0) && sound_data l (record { number = number; row = row }))
      ≡ sound_message (sound_data l) l.datalife (on_body data_of (entry_at 18 words at))
  unfolding sound_message
  data-asked l number row h n e = ap (sound_message (sound_data l) l.datalife) (data-read number row h n e)

  pub reply-asked : (l : Limits) (first last : ℕ) → first ≡ get_or words (at + 1) 0 → last ≡ get_or words (at + 2) 0
      → (between 1 l.replylife (get_or words at 0) && sound_reply l (record { first = first; last = last })) ≡ reply_form.head l (entry_at 3 words at)
  unfolding sound_message
  reply-asked l first last a b = ap (sound_message (sound_reply l) l.replylife) (reply-read first last a b)

  -- but for its cells
  pub data-headed : (l : Limits) (number : ℕ) → at + 18 ≤ length words → number ≡ get_or words (at + 1) 0
      → (between 1 l.datalife (get_or words at 0) && ltb number (2 * l.window)) ≡ data_form.head l (entry_at 18 words at)
  data-headed l number h n =
      ap (λ (m : Message Data). between 1 l.datalife m.life && ltb m.body.number (2 * l.window)) (data-read number _ h n refl)

  -- the words of a data message as cells
  data-cells : at + 18 ≤ length words
      → all legal_cell (take 18 (drop at words)) ≡ (legal_cell (get_or words at 0) && (legal_cell (get_or words (at + 1) 0) && legal_row (take 16 (drop (at + 2) words))))
  unfolding all
  data-cells h =
      ap (λ xs. all legal_cell (take 18 xs))
      (drop-cons words at 0 (omega arith)
      ∙ ap (get_or words at 0 ∷◌)
      (ap (λ n. drop n words) (sym (add-one at))
      ∙ drop-cons words (at + 1) 0 (omega arith)
      ∙ ap (λ n. get_or words (at + 1) 0 ∷ drop n words) {x = suc (at + 1)} {y = at + 2} (omega arith)))

-- two tests that pass where others have passed may stand among those behind them
beside : (a b x y z : Bool) → (a ≡ true → x ≡ true) → (b ≡ true → y ≡ true) → ((a && b) && (x && (y && z))) ≡ (a && (b && z))
beside true true x y z f g = rw (f refl, g refl)
beside true false x y z f g = refl
beside false b x y z f g = refl

-- question 4 of a data message from its two parts: a life and a number that are sound are legal cells
data-parts : (l : Limits) (words : List ℕ) (at : ℕ) → sound_limits l ≡ true → at + 18 ≤ length words
    → (data_form.head l (entry_at 18 words at) && all legal_cell (take 18 (drop at words))) ≡ sound_message (sound_data l) l.datalife (on_body data_of (entry_at 18 words at))
unfolding sound_data
data-parts l words at s h =
    let g = good l s in
    ap₂ ◌&&◌ (sym (data-headed words at l (get_or words (at + 1) 0) h refl)) (data-cells words at h)
    ∙ beside (between 1 l.datalife (get_or words at 0)) (ltb (get_or words (at + 1) 0) (2 * l.window)) _ _ _
    (λ e. let k = between-high 1 l.datalife (get_or words at 0) e in small-legal (get_or words at 0) (omega arith))
    (λ e. let k = ltb-true (get_or words (at + 1) 0) (2 * l.window) e in small-legal (get_or words (at + 1) 0) (omega arith))
    ∙ data-asked words at l (get_or words (at + 1) 0) (take 16 (drop (at + 2) words)) h refl refl

pub data_laws : FormLaws data_form (λ x. x.number < 2 ^ 16)
data_laws =
    record {
      some = omega arith;
      lives = λ l s. let g = good l s in omega arith;
      sound_fits = λ l x s e. let g = good l s in let h = message-low l x.number x.row e in omega arith;
      parts = data-parts;
      each = λ words n. legal-rows words 18 0 n ∙ ap (all legal_row) (tab-ext n _ _ (λ i h. ap (λ k. take 18 (drop (18 * k) words)) {x = 0 + i} {y = i} (omega arith)));
    }

pub reply_laws : FormLaws reply_form (λ x. (x.first < 2 ^ 16) × (x.last < 2 ^ 16))
reply_laws =
    record {
      some = omega arith;
      lives = λ l s. let g = good l s in omega arith;
      sound_fits = λ l x s e. let g = good l s in let f = reply-facts l x e in (let h = f.first in omega arith, let h = f.last in omega arith);
      parts = λ l words at s h. and-true _;
      each = λ words n. sym (all-tab reply_form.cells n (λ i. take 3 (drop (3 * i) words)) (λ i h. refl));
    }

-- a message's words, written one after the other
abbrev blank : ℕ → ℕ → List ℕ
blank life number = set (set (replicate 18 0) 0 life) 1 number

pub data-written : (life number : ℕ) (row words : List ℕ) → length row ≡ 16 → words ≡ pasted 2 row (blank life number)
    → on_body data_of (message_of 18 words) ≡ data_is life number row
unfolding pasted
data-written life number row words l e =
    rw e
    (sym (data-entry (λ k. get_or (pasted 2 row (blank life number)) k 0) life number row
    (sym (changed-other 0 _ _ (blank life number) 0 (below 2 (2 + length row) 0 (omega arith))))
    (sym (changed-other 0 _ _ (blank life number) 1 (below 2 (2 + length row) 1 (omega arith))))
    (is-tab row 16 _ 0 l
    (λ i h. sym
    (changed-at 0 _ _ (blank life number) (i + 2) (omega arith) (inside 2 (2 + length row) (i + 2) (omega arith) (omega arith))
    ∙ ap (λ j. get_or row j 0) {x = i + 2 - 2} {y = i} (omega arith))))))

pub reply-written : (life first last : ℕ) → on_body reply_of (message_of 3 (life ∷ first ∷ last ∷ [])) ≡ reply_is life first last
reply-written life first last = sym (reply-entry _ life first last refl refl refl)

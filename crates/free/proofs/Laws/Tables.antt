-- What is free in a table.
use Prim.Native.Nat.{ℕ, zero, suc, ◌+◌, ◌-◌, ◌*◌, ◌/◌, ◌%◌, ◌≤◌, ◌<◌}
use mathlib.Core.Path.{◌≡◌, sym, ◌∙◌, ap}
use mathlib.Core.List.{List, map}
use native.Mathlib.Nat.{mod-lt, div-add-mod, mul-div-le, lt_of_mul-lt-mul_left}
use native.Mathlib.Omega.{arith}
use lib.ListN.{length, get_or}
use lib.Seq.{get_or-drop}
use Rattle.limits.specs.declared.Limits.{Limits}
use Rattle.limits.specs.Lists.{tab}
use Rattle.limits.specs.Tables.{Message, Data, Reply, on_body}
use Rattle.limits.proofs.Laws.Choice.{split}
use Rattle.limits.proofs.Laws.Lists.{length-tab, get_or-tab, map-tab}
use Rattle.tables.specs.Words.{entry, message_at, messages}
use Rattle.tables.proofs.Laws.Words.{ends_by, entry-ext}
use Rattle.air.specs.declared.table.Table.{Table}
use Rattle.air.specs.Rules.{sound_messages}
use Rattle.air.specs.Forms.{Form, messages_of, sound_table, data_of, reply_of, data_form, reply_form}
use Rattle.air.specs.Tables.{table_messages, sound_in}
use Rattle.free.specs.Free.{SameTable, FreeOfTable}
use Rattle.free.proofs.Laws.Places.{tab-at, tab-same}

-- word k of a message
entry-word : (width : ℕ) (f : ℕ → ℕ) (k : ℕ) → k + 1 < width → get_or (entry width f).body k 0 ≡ f (k + 1)
unfolding entry
entry-word width f k h = get_or-tab (width - 1) (λ j. f (j + 1)) k 0 (omega arith)

-- Two tables of messages, where what is read of a message tells every word behind its life.
module _ {B : Type 0} (form : Form B) (some : 1 ≤ form.width)
    (tells : (x y : List ℕ) → form.reads x ≡ form.reads y → (k : ℕ) → k + 1 < form.width → get_or x k 0 ≡ get_or y k 0) where
  entry-tells : (f g : ℕ → ℕ) → on_body form.reads (entry form.width f) ≡ on_body form.reads (entry form.width g) → (k : ℕ) → k < form.width → f k ≡ g k
  unfolding entry
  entry-tells f g e k h =
      split 1 k
      (λ o. ap f {x = k} {y = k - 1 + 1} (omega arith)
      ∙ sym (entry-word form.width f (k - 1) (omega arith))
      ∙ tells (entry form.width f).body (entry form.width g).body (ap (λ (m : Message B). m.body) e) (k - 1) (omega arith)
      ∙ entry-word form.width g (k - 1) (omega arith)
      ∙ ap g {x = k - 1 + 1} {y = k} (omega arith))
      (λ o. ap f {x = k} {y = 0} (omega arith) ∙ ap (λ (m : Message B). m.life) e ∙ ap g {x = 0} {y = k} (omega arith))

  module _ {n : ℕ} (a b : Table B n) where
    only-free : table_messages form a ≡ table_messages form b → SameTable form a b
    unfolding messages_of messages
    only-free e = record { count = count; words = word }
      where
        read : tab a.count (λ p. on_body form.reads (message_at form.width a.words p)) ≡ tab b.count (λ p. on_body form.reads (message_at form.width b.words p))
        read = sym (map-tab (on_body form.reads) a.count (message_at form.width a.words)) ∙ e ∙ map-tab (on_body form.reads) b.count (message_at form.width b.words)

        count : a.count ≡ b.count
        count = sym (length-tab a.count _) ∙ ap length read ∙ length-tab b.count _

        word : (k : ℕ) → k < form.width * a.count → get_or a.words k 0 ≡ get_or b.words k 0
        word k h =
            let q = div-add-mod k form.width in
            let d = mul-div-le k form.width in
            ap (λ j. get_or a.words j 0) (sym q)
            ∙ entry-tells _ _ (tab-at _ _ a.count b.count count read (k / form.width) (lt_of_mul-lt-mul_left form.width (omega arith)))
            (k % form.width) (mod-lt k some)
            ∙ ap (λ j. get_or b.words j 0) q

    not-shown : SameTable form a b → table_messages form a ≡ table_messages form b
    unfolding messages_of messages
    not-shown s =
        ap (map (on_body form.reads))
        (tab-same _ _ a.count b.count s.count
        (λ p h. entry-ext form.width _ _ some (λ k d. let q = ends_by form.width p a.count h in s.words (form.width * p + k) (omega arith))))

    not-asked : (l : Limits) → SameTable form a b → sound_in form l a ≡ sound_in form l b
    unfolding sound_table
    not-asked l s = ap (sound_messages (form.sound l) (form.longest l)) (not-shown s)

  free : (n : ℕ) → FreeOfTable form n
  free n = record { only_free = λ a b. only-free a b; not_shown = λ a b. not-shown a b; not_asked = λ l a b. not-asked a b l }

data-tells : (x y : List ℕ) → data_of x ≡ data_of y → (k : ℕ) → k + 1 < 18 → get_or x k 0 ≡ get_or y k 0
data-tells x y e zero h = ap (λ (d : Data). d.number) e
data-tells x y e (suc k) h =
    ap (λ j. get_or x j 0) {x = suc k} {y = 1 + k} (omega arith)
    ∙ sym (get_or-drop 1 x k 0)
    ∙ ap (λ (d : Data). get_or d.row k 0) e
    ∙ get_or-drop 1 y k 0
    ∙ ap (λ j. get_or y j 0) {x = 1 + k} {y = suc k} (omega arith)

pub data-free : FreeOfTable data_form 576
data-free = free data_form (omega arith) data-tells 576

reply-tells : (x y : List ℕ) → reply_of x ≡ reply_of y → (k : ℕ) → k + 1 < 3 → get_or x k 0 ≡ get_or y k 0
reply-tells x y e zero h = ap (λ (r : Reply). r.first) e
reply-tells x y e (suc zero) h = ap (λ (r : Reply). r.last) e
reply-tells x y e (suc (suc k)) h = absurd (omega arith)

pub reply-free : FreeOfTable reply_form 96
reply-free = free reply_form (omega arith) reply-tells 96

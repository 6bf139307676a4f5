-- Laws on tables of words.
use Prim.Native.Nat.{ℕ, ◌+◌, ◌-◌, ◌*◌, ◌≤◌, ◌<◌, min}
use mathlib.Core.Path.{◌≡◌, refl, sym, ◌∙◌, ap, ap₂}
use mathlib.Core.Bool.{true}
use mathlib.Core.List.{List}
use native.Mathlib.Nat.{mul-add, mul-le-mul_left, mul-le-mul_right}
use native.Mathlib.Omega.{arith}
use lib.Dec.{ltb}
use borrow.Author.Tests.{lt-ltb, le-ltb, ltb-true, ltb-false}
use lib.ListN.{length, get_or, set, length-set}
use lib.Seq.{get_or-set_same, get_or-set_other}
use Rattle.limits.specs.Tables.{put, remove, aged, age}
use Rattle.limits.specs.Lists.{tab, leading}
use Rattle.limits.proofs.Laws.Choice.{split}
use Rattle.limits.proofs.Laws.Lists.{length-tab, tab-ext, leading-is, leading-most, leading_at, leading_end}
use Rattle.limits.proofs.Laws.Tables.{put-tab, remove-tab, age-drops, age-run}
use Rattle.rows.specs.Arrays.{pasted, closed}
use Rattle.rows.proofs.Laws.Changed.{pasted-low, pasted_at, closed-low, closed-high, closed-behind, closed_none, length-closed}
use Rattle.tables.specs.Words.{entry, message_of, message_at, messages, outlives, Lowered}

-- where messages of w words begin and end
pub next-starts : (w i : ℕ) → w * (i + 1) ≡ w * i + w
next-starts w i = let e = mul-add w i 1 in omega arith

pub starts_by : (w i n : ℕ) → i ≤ n → w * i ≤ w * n
starts_by w i n h = mul-le-mul_left w h

pub ends_by : (w i n : ℕ) → i < n → w * i + w ≤ w * n
ends_by w i n h = let e = next-starts w i in let m = starts_by w (i + 1) n (omega arith) in omega arith

pub count_most : (w n : ℕ) → 1 ≤ w → n ≤ w * n
count_most w n h = let e = mul-le-mul_right n h in omega arith

-- a message by its words
pub entry-ext : (w : ℕ) (f g : ℕ → ℕ) → 1 ≤ w → ((k : ℕ) → k < w → f k ≡ g k) → entry w f ≡ entry w g
unfolding entry
entry-ext w f g some e =
    ap₂ (λ b l. record { body = b; life = l }) (tab-ext (w - 1) (λ k. f (k + 1)) (λ k. g (k + 1)) (λ k h. e (k + 1) (omega arith))) (e 0 (omega arith))

-- and one whose life alone fell
pub entry-aged : (w d : ℕ) (f g : ℕ → ℕ) → f 0 ≡ g 0 - d → ((k : ℕ) → k + 1 < w → f (k + 1) ≡ g (k + 1)) → entry w f ≡ aged d (entry w g)
unfolding entry
entry-aged w d f g first rest =
    ap₂ (λ b l. record { body = b; life = l }) (tab-ext (w - 1) (λ k. f (k + 1)) (λ k. g (k + 1)) (λ k h. rest k (omega arith))) first

module _ (w : ℕ) (some : 1 ≤ w) (count : ℕ) (words : List ℕ) where
  pub put-words : (message next : List ℕ) → length message ≡ w → w * count + w ≤ length words → next ≡ pasted (w * count) message words
      → messages w (count + 1) next ≡ put (message_of w message) (messages w count words)
  unfolding messages
  put-words message next l room e =
      rw e
      (put-tab count (message_at w words) (message_at w (pasted (w * count) message words)) (message_of w message)
      (λ i h. entry-ext w _ _ some (λ k b. let q = ends_by w i count h in pasted-low (w * count) message words (w * i + k) (omega arith)))
      (entry-ext w _ _ some (λ k b. pasted_at (w * count) message words k (omega arith) (omega arith))))

  pub remove-words : (p : ℕ) (next : List ℕ) → p < count → w * count ≤ length words → next ≡ closed (w * p) w (w * count) words
      → messages w (count - 1) next ≡ remove p (messages w count words)
  unfolding messages
  remove-words p next h fits e =
      rw e
      (sym
      (ap (λ n. remove p (tab n (message_at w words))) {x = count} {y = count - 1 + 1} (omega arith)
      ∙ remove-tab (count - 1) p (message_at w words) (message_at w (closed (w * p) w (w * count) words)) (omega arith)
      (λ i b. entry-ext w _ _ some (λ k c. let q = ends_by w i p b in closed-low (w * p) w (w * count) words (w * i + k) (omega arith)))
      (λ i a b. entry-ext w _ _ some
      (λ k c. let q = starts_by w p i a in let n = next-starts w i in let r = ends_by w (i + 1) count (omega arith) in
      closed-high (w * p) w (w * count) words (w * i + k) fits (omega arith) (omega arith)
      ∙ ap (λ j. get_or words j 0) {x = w * i + k + w} {y = w * (i + 1) + k} (omega arith)))))

pub life-at : (w : ℕ) (words : List ℕ) (p : ℕ) → (message_at w words p).life ≡ get_or words (w * p) 0
unfolding entry
life-at w words p = ap (λ j. get_or words j 0) {x = w * p + 0} {y = w * p} (omega arith)

-- the loop that lowers the lives of messages that outlive d, from message `from` on, at message i
pub record Lowering (w d from i : ℕ) (old now : List ℕ) : Type 0 where
  pub lowered : Lowered w d from i old now
  pub enough : (p : ℕ) → from ≤ p → p < i → outlives d (message_at w old p) ≡ true

module _ (w d from : ℕ) (old now : List ℕ) where
  pub lowering-turn : (i v : ℕ) → 1 ≤ w → from ≤ i → w * i + w ≤ length old → Lowering w d from i old now → d < get_or now (w * i) 0 → v ≡ get_or now (w * i) 0 - d
      → Lowering w d from (i + 1) old (set now (w * i) v)
  lowering-turn i v some past fits inv more e =
      record {
        lowered =
            record {
              size = length-set now (w * i) v ∙ inv.lowered.size;
              low = λ k h. let q = starts_by w from i past in get_or-set_other now (w * i) k v 0 (λ z. omega arith) ∙ inv.lowered.low k h;
              done = λ p a h. split i p
                  (λ o. ap (λ n. message_at w (set now (w * i) v) n) {x = p} {y = i} (omega arith) ∙ this ∙ ap (λ n. aged d (message_at w old n)) {x = i} {y = p} (omega arith))
                  (λ o. entry-ext w _ _ some
                  (λ k b. let q = ends_by w p i o in get_or-set_other now (w * i) (w * p + k) v 0 (λ z. omega arith)) ∙ inv.lowered.done p a o);
              rest = λ k h. let q = next-starts w i in get_or-set_other now (w * i) k v 0 (λ z. omega arith) ∙ inv.lowered.rest k (omega arith);
            };
        enough = λ p a h. split i p (λ o. ap (λ n. outlives d (message_at w old n)) {x = p} {y = i} (omega arith) ∙ ap (ltb d) life ∙ lt-ltb d _ more) (λ o. inv.enough p a o);
      }
    where
      life : (message_at w old i).life ≡ get_or now (w * i) 0
      life = life-at w old i ∙ sym (inv.lowered.rest (w * i) (omega arith))

      this : message_at w (set now (w * i) v) i ≡ aged d (message_at w old i)
      this =
          entry-aged w d _ _
          (ap (λ j. get_or (set now (w * i) v) j 0) {x = w * i + 0} {y = w * i} (omega arith)
          ∙ get_or-set_same now (w * i) v 0 (let s = inv.lowered.size in omega arith)
          ∙ e
          ∙ ap (◌- d) (inv.lowered.rest (w * i) (omega arith) ∙ ap (λ j. get_or old j 0) {x = w * i} {y = w * i + 0} (omega arith)))
          (λ k b. get_or-set_other now (w * i) (w * i + (k + 1)) v 0 (λ z. omega arith) ∙ inv.lowered.rest (w * i + (k + 1)) (omega arith))

  -- message i is the first that does not outlive d, or there is none such
  pub lowering-end : (count i : ℕ) → from ≤ i → i ≤ count → Lowering w d from i old now → (i < count → get_or now (w * i) 0 ≤ d)
      → (i - from ≡ leading (outlives d) (tab (count - from) (λ k. message_at w old (from + k)))) × Lowered w d from (from + (i - from)) old now
  lowering-end count i a b inv stop = (
    sym
        (leading-is (outlives d) (count - from) (λ k. message_at w old (from + k)) (i - from) (omega arith)
        (λ k h. inv.enough (from + k) (omega arith) (omega arith))
        (λ h. ap (λ p. outlives d (message_at w old p)) {x = from + (i - from)} {y = i} (omega arith)
        ∙ ap (ltb d) (life-at w old i ∙ sym (inv.lowered.rest (w * i) (omega arith)))
        ∙ le-ltb d (get_or now (w * i) 0) (stop (omega arith)))),
    (let q : from + (i - from) ≡ i = omega arith in rw q inv.lowered),
  )

-- n messages move from place `from` down to place `to`
pub slide-fits : (w from to n : ℕ) → to ≤ from → w * to + w * (from - to) ≤ w * (from + n)
slide-fits w from to n h =
    let e : w * from ≡ w * to + w * (from - to) = ap (w *◌) {x = from} {y = to + (from - to)} (omega arith) ∙ mul-add w to (from - to) in
    let m = starts_by w from (from + n) (omega arith) in
    omega arith

pub slide_none : (w from to n : ℕ) (words : List ℕ) → from ≤ to → words ≡ closed (w * to) (w * (from - to)) (w * (from + n)) words
slide_none w from to n words h =
    closed_none (w * to) (w * (from - to)) (w * (from + n)) words (let e : w * (from - to) ≡ w * 0 = ap (w *◌) {x = from - to} {y = 0} (omega arith) in omega arith)

-- the loop that ages the messages: those below i are looked at, and the `kept` of them that outlive d stand together
pub record Gathered (w d count i kept : ℕ) (old now : List ℕ) : Type 0 where
  pub few : kept ≤ i
  pub size : length now ≡ length old
  pub front : messages w kept now ≡ age d (messages w (min i count) old)
  pub rest : (k : ℕ) → w * i ≤ k → get_or now k 0 ≡ get_or old k 0

pub gathered-start : (w d count : ℕ) (old : List ℕ) → Gathered w d count 0 0 old old
unfolding messages tab age
gathered-start w d count old =
    record { few = omega arith; size = refl; front = ap (λ n. age d (messages w n old)) {x = 0} {y = min 0 count} (omega arith); rest = λ k h. refl }

-- the run of messages that outlive d ends with the table at the latest
pub run_fits : (w d count i n : ℕ) (now : List ℕ) → i ≤ count → n ≡ leading (outlives d) (tab (count - i) (λ k. message_at w now (i + k))) → i + n ≤ count
run_fits w d count i n now h e =
    let l = length-tab (count - i) (λ k. message_at w now (i + k)) in let m = leading-most (outlives d) (tab (count - i) (λ k. message_at w now (i + k))) in omega arith

-- a turn: the run of n messages from i on is lowered and moves down, and message i + n, if there is one, goes
module _ (w d count i kept n : ℕ) (old now mid next : List ℕ) (some : 1 ≤ w) (left : i < count) (fits : w * count ≤ length old) (inv : Gathered w d count i kept old now)
    (e : n ≡ leading (outlives d) (tab (count - i) (λ k. message_at w now (i + k)))) (low : Lowered w d i (i + n) now mid)
    (q : next ≡ closed (w * kept) (w * (i - kept)) (w * (i + n)) mid) where
  same : (p : ℕ) → i ≤ p → message_at w now p ≡ message_at w old p
  same p h = entry-ext w _ _ some (λ k b. let s = starts_by w i p h in inv.rest (w * p + k) (omega arith))

  shift : (j : ℕ) → w * (i + j) ≡ w * (kept + j) + w * (i - kept)
  shift j = let f = inv.few in ap (w *◌) {x = i + j} {y = kept + j + (i - kept)} (omega arith) ∙ mul-add w (kept + j) (i - kept)

  room : w * (i + n) ≤ length mid
  room =
      let m = starts_by w (i + n) count (run_fits w d count i n now (omega arith) e) in let s = low.size in let t = inv.size in
      omega arith

  moved : (j : ℕ) → j < n → message_at w next (kept + j) ≡ message_at w mid (i + j)
  moved j h =
      entry-ext w _ _ some
      (λ k b. ap (λ xs. get_or xs (w * (kept + j) + k) 0) q
      ∙ closed-high (w * kept) (w * (i - kept)) (w * (i + n)) mid (w * (kept + j) + k) room
      (let s = starts_by w kept (kept + j) (omega arith) in omega arith)
      (let s = shift j in let r = ends_by w (i + j) (i + n) (omega arith) in omega arith)
      ∙ ap (λ x. get_or mid x 0) {x = w * (kept + j) + k + w * (i - kept)} {y = w * (i + j) + k} (let s = shift j in omega arith))

  stays : (j : ℕ) → j < kept → message_at w next j ≡ message_at w now j
  stays j h =
      let f = inv.few in
      entry-ext w _ _ some
      (λ k b. let s = ends_by w j kept h in let t = starts_by w kept i f in
      ap (λ xs. get_or xs (w * j + k) 0) q ∙ closed-low (w * kept) (w * (i - kept)) (w * (i + n)) mid (w * j + k) (omega arith) ∙ low.low (w * j + k) (omega arith))

  run : messages w (kept + n) next ≡ age d (messages w (i + n) old)
  unfolding messages
  run =
      age-run d n kept i (message_at w old) (message_at w now) (message_at w next)
      (inv.front ∙ ap (λ m. age d (messages w m old)) {x = min i count} {y = i} (omega arith))
      (λ j h. rw (same (i + j) (omega arith)) at (ltb-true d (message_at w now (i + j)).life (leading_at (outlives d) (count - i) (λ k. message_at w now (i + k)) j (omega arith))))
      stays
      (λ j h. moved j h ∙ low.done (i + j) (omega arith) (omega arith) ∙ ap (aged d) (same (i + j) (omega arith)))

  pub gathered-turn : Gathered w d count (i + (n + 1)) (kept + n) old next
  unfolding messages
  gathered-turn =
      record {
        few = let f = inv.few in omega arith;
        size = ap length q ∙ length-closed (w * kept) (w * (i - kept)) (w * (i + n)) mid ∙ low.size ∙ inv.size;
        front = let most = run_fits w d count i n now (omega arith) e in
            split count (i + n)
            (λ h. run ∙ ap (λ m. age d (messages w m old)) {x = i + n} {y = min (i + (n + 1)) count} (omega arith))
            (λ h. age-drops d (kept + n) (i + n) (message_at w old) (message_at w next) run (dead h) ∙ ap (λ m. age d (messages w m old)) {x = i + n + 1} {y = min (i + (n + 1)) count} (omega arith));
        rest = λ k h. let s = starts_by w (i + n) (i + (n + 1)) (omega arith) in
            let t = starts_by w i (i + (n + 1)) (omega arith) in
            ap (λ xs. get_or xs k 0) q
            ∙ closed-behind (w * kept) (w * (i - kept)) (w * (i + n)) mid k (omega arith)
            ∙ low.rest k (omega arith)
            ∙ inv.rest k (omega arith);
      }
    where
      dead : i + n < count → (message_at w old (i + n)).life ≤ d
      dead h =
          rw (same (i + n) (omega arith)) at
          (ltb-false d (message_at w now (i + n)).life
          (ap (λ m. outlives d (message_at w now (i + m))) e ∙ leading_end (outlives d) (count - i) (λ k. message_at w now (i + k)) (omega arith)))

pub gathered-end : (w d count i kept : ℕ) (old now : List ℕ) → count ≤ i → Gathered w d count i kept old now → messages w kept now ≡ age d (messages w count old)
gathered-end w d count i kept old now h inv = inv.front ∙ ap (λ m. age d (messages w m old)) {x = min i count} {y = count} (omega arith)

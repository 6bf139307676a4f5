-- The run's loop: what is left to do, from where it has come to, is the whole run from its start.
use Prim.Native.Nat.{ℕ, suc, ◌+◌, ◌-◌, ◌*◌, ◌/◌, ◌%◌, ◌≤◌, ◌<◌}
use mathlib.Core.Path.{◌≡◌, refl, sym, ◌∙◌, ap, ap₂}
use mathlib.Core.Bool.{true, false, not, ◌&&◌}
use mathlib.Core.List.{List, [], ◌∷◌, ◌++◌, append_assoc, append-nil}
use native.Mathlib.Omega.{arith}
use lib.Dec.{eqb}
use lib.ListN.{length, take, drop, get_or, set, length-append, length-drop, length-set, take-append-drop, drop_of_length-le}
use lib.Seq.{drop-cons, take-suc-set, drop-set-lt, drop-drop, length-take-le, take_all}
use native.Mathlib.Numerals.{add-one}
use borrow.Author.Tests.{eqb-false}
use Rattle.limits.specs.Answer.{number_of}
use Rattle.limits.specs.Questions.{Answer}
use Rattle.limits.specs.Lists.{all}
use Rattle.limits.proofs.Laws.Choice.{test, clash, and_left, and_right}
use Rattle.limits.proofs.Laws.Lists.{all_append}
use Rattle.limits.proofs.Laws.Events.{event-count}
use Rattle.limits.specs.Events.{Event, event, events}
use Rattle.mat.specs.Window.{outstanding}
use Rattle.std.specs.Prelude.{Ok, Err}
use Rattle.events.specs.declared.Link.{Link}
use Rattle.events.specs.declared.LentLink.{LentLink}
use Rattle.events.specs.Lent.{StaysLent}
use Rattle.events.specs.declared.Counts.{Counts}
use Rattle.events.specs.State.{LinkState, Moved, unmoved}
use Rattle.events.specs.Counts.{Account, more_messages, counts_of, rows_of}
use Rattle.events.specs.Rules.{stepped}
use Rattle.events.specs.Account.{data_account, reply_account, if_done}
use Rattle.lists.specs.Runs.{continued, next, after_all, answers}
use Rattle.events.specs.View.{link_state, sound_link, Counted, HasRoom}
use Rattle.lists.specs.View.{refuses, running}
use Rattle.events.proofs.Laws.Parts.{parts}
use Rattle.events.proofs.Laws.Sums.{same-account}
use Rattle.events.proofs.Laws.Counting.{Shows, shows-counted}
use Rattle.events.proofs.Laws.Balancing.{datas-balance, replies-balance}
use Rattle.events.proofs.Laws.Tables.{few-datas, few-replies}
use Rattle.lists.specs.Account.{account}
use Rattle.lists.proofs.Laws.Accounts as accounts
use Rattle.events.proofs.Laws.Rises.{outstanding-fits, rises}

abbrev pub reached : Link → Counts → List ℕ → Moved
reached link counts rec = record { state = link_state link; counts = rows_of counts; buffer = rec }

pub record Going (bytes supply rec₀ ans₀ : List ℕ) (k : Link) (rec ans : List ℕ) (link : Link) (counts : Counts) (i : ℕ) : Type 0 where
  pub sound : sound_link link ≡ true
  pub sent : 16 * counts.sent ≤ length supply
  pub recorded : 16 * counts.recorded ≤ length rec
  pub balance : counts.acknowledged + outstanding (link_state link).mat ≡ counts.sent + outstanding (link_state k).mat
  pub moved : after_all supply (reached link counts rec) (events (drop (2 * i) bytes)) ≡ after_all supply (unmoved (link_state k) rec₀) (events bytes)
  pub datas : more_messages counts.datas (account data_account supply (reached link counts rec) (events (drop (2 * i) bytes)))
      ≡ account data_account supply (unmoved (link_state k) rec₀) (events bytes)
  pub replies : more_messages counts.replies (account reply_account supply (reached link counts rec) (events (drop (2 * i) bytes)))
      ≡ account reply_account supply (unmoved (link_state k) rec₀) (events bytes)
  pub numbers : take i ans ++ answers supply (reached link counts rec) (events (drop (2 * i) bytes)) ≡ answers supply (unmoved (link_state k) rec₀) (events bytes)
  pub behind : drop i ans ≡ drop i ans₀
  pub still : all refuses (take i ans) ≡ true → link ≡ k
  pub same-record : length rec ≡ length rec₀
  pub same-answers : length ans ≡ length ans₀

-- what a turn of the loop finds: its event, a place for its answer, and the rests of supply and record
pub record Room (bytes supply rec ans : List ℕ) (counts : Counts) (i : ℕ) : Type 0 where
  pub event : 2 * i + 1 < length bytes
  pub answer : i < length ans
  pub sent : 16 * counts.sent ≤ length supply
  pub recorded : 16 * counts.recorded ≤ length rec

pub room : (bytes supply rec₀ ans₀ : List ℕ) (k : Link) (rec ans : List ℕ) (link : Link) (counts : Counts) (i : ℕ)
    → Going bytes supply rec₀ ans₀ k rec ans link counts i → i < length bytes / 2 → length bytes % 2 ≡ 0 → length bytes / 2 ≤ length ans₀
    → Room bytes supply rec ans counts i
room bytes supply rec₀ ans₀ k rec ans link counts i g h z f =
    record { event = omega arith; answer = let s = g.same-answers in omega arith; sent = g.sent; recorded = g.recorded }

-- the counts stay far from the end of their range
pub has-room : (bytes supply rec₀ ans₀ : List ℕ) (k : Link) (rec ans : List ℕ) (link : Link) (counts : Counts) (i : ℕ)
    → Going bytes supply rec₀ ans₀ k rec ans link counts i → sound_link k ≡ true → length bytes < 9223372036854775808
    → length supply < 9223372036854775808 → length rec < 9223372036854775808 → HasRoom counts
unfolding link_state
has-room bytes supply rec₀ ans₀ k rec ans link counts i g s short a b =
    let o = outstanding-fits k s in
    let sent = g.sent in
    let recorded = g.recorded in
    let balance = g.balance in
    let n = event-count bytes in (
      omega arith,
      omega arith,
      omega arith,
      accounts.room data_account (λ (t : LinkState). length t.datas) datas-balance supply (unmoved (link_state k) rec₀) (events bytes) _ _ g.datas (few-datas k (parts k s)) (omega arith),
      accounts.room reply_account (λ (t : LinkState). length t.replies) replies-balance supply (unmoved (link_state k) rec₀) (events bytes) _ _ g.replies (few-replies k (parts k s)) (omega arith),
    )

-- what stayed and stayed again
pub lent-on : (a b c : LentLink) → StaysLent a b → StaysLent b c → StaysLent a c
lent-on a b c e f = (f.0 ∙ e.0, f.1 ∙ e.1, f.2 ∙ e.2, f.3 ∙ e.3, f.4 ∙ e.4, f.5 ∙ e.5, f.6 ∙ e.6, f.7 ∙ e.7, f.8 ∙ e.8)

-- a refusal is not 0
not-zero : (n : ℕ) → refuses n ≡ true → eqb n 0 ≡ false
not-zero n e = test (eqb n 0) (λ q. absurd (clash (refuses n) e (ap not q))) (λ q. q)

refused-stays : (k : Link) (supply before after : List ℕ) (n : Counts) (e : Event) (k' : Link) (n' : Counts) (r : Answer)
    → Counted k supply before after n e k' n' r → eqb (number_of r) 0 ≡ false → k' ≡ k
refused-stays k supply before after n e k' n' (Ok v) m z = absurd (eqb-false 0 0 z refl)
refused-stays k supply before after n e k' n' (Err x) m z = ap (λ (y : Link × List ℕ × Counts). y.0) m.kept

-- the event at 2i, and those behind it
pub event-at : (bytes : List ℕ) (i : ℕ) → 2 * i + 1 < length bytes
    → events (drop (2 * i) bytes) ≡ event (get_or bytes (2 * i) 0) (get_or bytes (2 * i + 1) 0) ∷ events (drop (2 * (i + 1)) bytes)
event-at bytes i h =
    ap events (drop-cons bytes (2 * i) 0 (omega arith) ∙ ap (get_or bytes (2 * i) 0 ∷◌) (drop-cons bytes (suc (2 * i)) 0 (omega arith)))
    ∙ ap (λ a. event (get_or bytes (2 * i) 0) (get_or bytes a 0) ∷ events (drop (suc (suc (2 * i))) bytes)) {x = suc (2 * i)} {y = 2 * i + 1} (omega arith)
    ∙ ap (λ n. event (get_or bytes (2 * i) 0) (get_or bytes (2 * i + 1) 0) ∷ events (drop n bytes)) {x = suc (suc (2 * i))} {y = 2 * (i + 1)} (omega arith)

module _ (bytes supply rec₀ ans₀ : List ℕ) (k : Link) (rec ans : List ℕ) (link : Link) (counts : Counts) (i : ℕ)
    (g : Going bytes supply rec₀ ans₀ k rec ans link counts i) (h : 2 * i + 1 < length bytes) (fits : i < length ans) (link' : Link) (counts' : Counts) (r : Answer) (after : List ℕ)
    (m : Counted link (drop (16 * counts.sent) supply) (drop (16 * counts.recorded) rec) after counts (event (get_or bytes (2 * i) 0) (get_or bytes (2 * i + 1) 0)) link' counts' r)
    (kept : length after ≡ length (drop (16 * counts.recorded) rec)) where
  abbrev here : Event
  here = event (get_or bytes (2 * i) 0) (get_or bytes (2 * i + 1) 0)

  abbrev later : Moved
  later = reached link' counts' (take (16 * counts.recorded) rec ++ after)

  -- what the event did
  abbrev did : Moved
  did = stepped (drop (16 * counts.sent) supply) (drop (16 * counts.recorded) rec) (link_state link) here

  shown : Shows link (drop (16 * counts.sent) supply) (drop (16 * counts.recorded) rec) after counts here link' counts'
  shown = shows-counted link _ _ _ counts here link' counts' r m

  later-is : later ≡ next supply (reached link counts rec) here
  unfolding next continued
  later-is = ap (λ (x : Moved). record { state = x.state; counts = x.counts; buffer = take (16 * counts.recorded) rec ++ x.buffer }) shown.moved

  -- one table's account
  goes-account : (of_event : LinkState → Event → Account) (a a' : Account)
      → a' ≡ more_messages a (if_done (drop (16 * counts.sent) supply) (drop (16 * counts.recorded) rec) (link_state link) here (of_event (link_state link) here))
      → more_messages a (account of_event supply (reached link counts rec) (events (drop (2 * i) bytes))) ≡ account of_event supply (unmoved (link_state k) rec₀) (events bytes)
      → more_messages a' (account of_event supply later (events (drop (2 * (i + 1)) bytes))) ≡ account of_event supply (unmoved (link_state k) rec₀) (events bytes)
  goes-account of_event a a' p q =
      accounts.one-more of_event supply (reached link counts rec) later here (events (drop (2 * (i + 1)) bytes)) a a' _ p later-is
      (ap (λ es. more_messages a (account of_event supply (reached link counts rec) es)) (sym (event-at bytes i h)) ∙ q)

  goes_moved : after_all supply later (events (drop (2 * (i + 1)) bytes)) ≡ after_all supply (unmoved (link_state k) rec₀) (events bytes)
  unfolding after_all
  goes_moved =
      ap (λ x. after_all supply x (events (drop (2 * (i + 1)) bytes))) later-is
      ∙ sym (ap (after_all supply (reached link counts rec)) (event-at bytes i h))
      ∙ g.moved

  goes-numbers : take (i + 1) (set ans i (number_of r)) ++ answers supply later (events (drop (2 * (i + 1)) bytes))
      ≡ answers supply (unmoved (link_state k) rec₀) (events bytes)
  unfolding answers
  goes-numbers =
      ap₂ (λ n x. take n (set ans i (number_of r)) ++ answers supply x (events (drop (2 * (i + 1)) bytes))) (add-one i) later-is
      ∙ ap (◌++ answers supply (next supply (reached link counts rec) here) (events (drop (2 * (i + 1)) bytes))) (take-suc-set ans i (number_of r) fits)
      ∙ append_assoc (take i ans) (number_of r ∷ []) (answers supply (next supply (reached link counts rec) here) (events (drop (2 * (i + 1)) bytes)))
      ∙ ap (λ n. take i ans ++ (n ∷ answers supply (next supply (reached link counts rec) here) (events (drop (2 * (i + 1)) bytes)))) m.answered.number
      ∙ sym (ap (λ es. take i ans ++ answers supply (reached link counts rec) es) (event-at bytes i h))
      ∙ g.numbers

  goes-behind : drop (i + 1) (set ans i (number_of r)) ≡ drop (i + 1) ans₀
  goes-behind =
      drop-set-lt (i + 1) ans i (number_of r) (omega arith)
      ∙ sym (drop-drop 1 i ans)
      ∙ ap (drop 1) g.behind
      ∙ drop-drop 1 i ans₀

  -- as long as every event is refused, the link is the one at the start
  goes-still : all refuses (take (i + 1) (set ans i (number_of r))) ≡ true → link' ≡ k
  unfolding all
  goes-still e =
      let n = number_of r in
      let both-refuse : (all refuses (take i ans) && (refuses n && true)) ≡ true
      = sym (all_append refuses (take i ans) (n ∷ []))
      ∙ sym (ap (all refuses) (ap (λ j. take j (set ans i n)) (add-one i) ∙ take-suc-set ans i n fits))
      ∙ e in
      let refused = not-zero n (and_left (refuses n) true (and_right (all refuses (take i ans)) (refuses n && true) both-refuse)) in
      refused-stays link _ _ _ counts here link' counts' r m refused ∙ g.still (and_left (all refuses (take i ans)) (refuses n && true) both-refuse)

  pub goes : Going bytes supply rec₀ ans₀ k (take (16 * counts.recorded) rec ++ after) (set ans i (number_of r)) link' counts' (i + 1)
  goes =
      let u = rises (drop (16 * counts.sent) supply) (drop (16 * counts.recorded) rec) (link_state link) here in
      let sent = ap (λ (x : Moved). x.counts.sent) shown.moved in
      let acknowledged = ap (λ (x : Moved). x.counts.acknowledged) shown.moved in
      let recorded = ap (λ (x : Moved). x.counts.recorded) shown.moved in
      let out = ap (λ (x : Moved). outstanding x.state.mat) shown.moved in
      let d = length-drop (16 * counts.sent) supply in
      let b = length-drop (16 * counts.recorded) rec in
      let t = length-take-le (16 * counts.recorded) rec g.recorded in
      let a = length-append (take (16 * counts.recorded) rec) after in
      let s = length-set ans i (number_of r) in
      record {
        sound = m.stays g.sound;
        sent = omega arith;
        recorded = omega arith;
        balance = omega arith;
        moved = goes_moved;
        datas = goes-account data_account counts.datas counts'.datas shown.datas g.datas;
        replies = goes-account reply_account counts.replies counts'.replies shown.replies g.replies;
        numbers = goes-numbers;
        behind = goes-behind;
        still = goes-still;
        same-record = omega arith;
        same-answers = omega arith;
      }

-- a part from `at` to the end
part-rest : (xs : List ℕ) (at : ℕ) → take (length xs - at) (drop at xs) ≡ drop at xs
part-rest xs at = take_all (length xs - at) (drop at xs) (let d = length-drop at xs in omega arith)

part-back : (xs ys : List ℕ) (at : ℕ) → take at xs ++ (ys ++ drop (length xs - at) (drop at xs)) ≡ take at xs ++ ys
part-back xs ys at =
    ap (take at xs ++◌) (ap (ys ++◌) (drop_of_length-le (drop at xs) {i = length xs - at} (let d = length-drop at xs in omega arith)) ∙ append-nil ys)

counted-with : (link : Link) (supply supply' rec rec' after : List ℕ) (n : Counts) (e : Event) (link' : Link) (n' : Counts) (r : Answer) → supply ≡ supply' → rec ≡ rec'
    → Counted link supply rec after n e link' n' r → Counted link supply' rec' after n e link' n' r
counted-with link supply supply' rec rec' after n e link' n' r p q m = rw (← p, ← q) m

-- a turn of the loop, on the parts that it lends
module _ (bytes supply rec₀ ans₀ : List ℕ) (k : Link) (rec ans : List ℕ) (link : Link) (counts : Counts) (i : ℕ)
    (g : Going bytes supply rec₀ ans₀ k rec ans link counts i) (h : 2 * i + 1 < length bytes) (fits : i < length ans) (link' : Link) (counts' : Counts) (r : Answer) (after : List ℕ)
    (m : Counted link (take (length supply - 16 * counts.sent) (drop (16 * counts.sent) supply)) (take (length rec - 16 * counts.recorded) (drop (16 * counts.recorded) rec))
    after counts (event (get_or bytes (2 * i) 0) (get_or bytes (2 * i + 1) 0)) link' counts' r)
    (kept : length after ≡ length (take (length rec - 16 * counts.recorded) (drop (16 * counts.recorded) rec))) (n : ℕ) (is : n ≡ number_of r) where
  abbrev whole : List ℕ
  whole = take (16 * counts.recorded) rec ++ (after ++ drop (length rec - 16 * counts.recorded) (drop (16 * counts.recorded) rec))

  pub turn : Going bytes supply rec₀ ans₀ k whole (set ans i n) link' counts' (i + 1)
  turn =
      rw (part-back rec after (16 * counts.recorded), is)
      (goes bytes supply rec₀ ans₀ k rec ans link counts i g h fits link' counts' r after
      (counted-with link _ _ _ _ after counts (event (get_or bytes (2 * i) 0) (get_or bytes (2 * i + 1) 0)) link' counts' r (part-rest supply (16 * counts.sent)) (part-rest rec (16 * counts.recorded)) m)
      (kept ∙ ap length (part-rest rec (16 * counts.recorded))))

-- the loop's end
pub finishes : (bytes supply rec₀ ans₀ : List ℕ) (k : Link) (rec ans : List ℕ) (link : Link) (counts : Counts) (i : ℕ) → length bytes % 2 ≡ 0 → i ≡ length bytes / 2
    → length bytes / 2 ≤ length ans → Going bytes supply rec₀ ans₀ k rec ans link counts i
    → record { state = link_state link; counts = counts; buffer = rec; answers = ans } ≡ running k bytes supply rec₀ ans₀
unfolding after_all answers account
finishes bytes supply rec₀ ans₀ k rec ans link counts i z e f g =
    λ j. record {
      state = (moved-is j).state;
      counts = counts_of (moved-is j).counts (whole data_account counts.datas g.datas j) (whole reply_account counts.replies g.replies j);
      buffer = (moved-is j).buffer;
      answers = answers-are j;
    }
  where
    none_left : events (drop (2 * i) bytes) ≡ []
    none_left = ap events (drop_of_length-le bytes {i = 2 * i} (omega arith))

    moved-is : reached link counts rec ≡ after_all supply (unmoved (link_state k) rec₀) (events bytes)
    moved-is = sym (ap (after_all supply (reached link counts rec)) none_left) ∙ g.moved

    whole : (of_event : LinkState → Event → Account) (a : Account)
        → more_messages a (account of_event supply (reached link counts rec) (events (drop (2 * i) bytes))) ≡ account of_event supply (unmoved (link_state k) rec₀) (events bytes)
        → a ≡ account of_event supply (unmoved (link_state k) rec₀) (events bytes)
    whole of_event a q = same-account a ∙ sym (ap (λ es. more_messages a (account of_event supply (reached link counts rec) es)) none_left) ∙ q

    given : take i ans ≡ answers supply (unmoved (link_state k) rec₀) (events bytes)
    given = sym (append-nil (take i ans)) ∙ ap (λ es. take i ans ++ answers supply (reached link counts rec) es) (sym none_left) ∙ g.numbers

    answers-are : ans ≡ answers supply (unmoved (link_state k) rec₀) (events bytes) ++ drop (length bytes / 2) ans₀
    answers-are = sym (take-append-drop i ans) ∙ ap₂ ◌++◌ given (g.behind ∙ ap (λ n. drop n ans₀) e)

-- How a call on a link ends: refused, or done.
use Prim.Native.Nat.{ℕ}
use mathlib.Core.Path.{◌≡◌, refl, sym, ◌∙◌, ap}
use mathlib.Core.Bool.{true}
use mathlib.Core.List.{List}
use lib.Dec.{eqb}
use lib.ListN.{length}
use borrow.Author.Tests.{eq-eqb}
use Rattle.std.specs.Prelude.{Result, Ok, Err}
use Rattle.limits.specs.declared.answer.Refusal.{Refusal}
use Rattle.limits.specs.Answer.{refusal_number}
use Rattle.limits.specs.Events.{Event}
use Rattle.limits.specs.Questions.{pick, Question, first_no}
use Rattle.limits.proofs.Laws.Choice.{pick_yes, pick_no}
use Rattle.limits.proofs.Laws.Promise.{refusal-not-0, changed-refused, changed-as}
use Rattle.mat.specs.declared.Mat.{Mat}
use Rattle.mat.specs.View.{mat_of}
use Rattle.events.specs.declared.Link.{Link}
use Rattle.events.specs.declared.Counts.{Counts}
use Rattle.events.specs.State.{LinkState, Moved, unmoved}
use Rattle.events.specs.Counts.{Account, no_account, counts_of, rows_of, no_counts, risen}
use Rattle.events.specs.Rules.{questions, acted}
use Rattle.events.specs.View.{link_state, sound_link, LinkCall}

-- What an event of a sound link does that has `value` to tell, apart from what it counts.
abbrev pub Moves : {A : Type 0} → Link → List ℕ → List ℕ → List ℕ → Event → A → Link → Result A Refusal → Type 0
Moves k supply before after e value k' r =
    let moved = acted supply before (link_state k) e in
    LinkCall (questions supply (length before) (link_state k) e) (moved.state, moved.buffer) value k before k' after r

module _ {A : Type 0} (qs : List Question) (left : LinkState × List ℕ) {value : A} (k k' : Link) where
  pub refused : (b : List ℕ) (x : Refusal) → refusal_number x ≡ first_no qs → k' ≡ k → LinkCall qs left value k b k' b (Err x)
  refused b x e h = changed-refused qs x _ _ _ _ _ _ e (ap (λ y. (y, b)) h)

  pub done : (before after : List ℕ) (v : A) → first_no qs ≡ 0 → v ≡ value → link_state k' ≡ left.0 → after ≡ left.1
      → sound_link k' ≡ true → LinkCall qs left value k before k' after (Ok v)
  done before after v z c s b h =
      record { answered = record { number = sym z; value = c }; left = λ i. (s i, b i); kept = tt; stays = λ _. h }

-- the same promise by other questions with the same first no, and of a call that leaves the same
pub call-as : {A : Type 0} (qs qs' : List Question) (left left' : LinkState × List ℕ) {value : A} (k k' : Link) (before after : List ℕ) (r : Result A Refusal)
    → first_no qs ≡ first_no qs' → left ≡ left' → LinkCall qs left value k before k' after r → LinkCall qs' left' value k before k' after r
call-as qs qs' left left' k k' before after r e m c = changed-as qs qs' r _ _ _ _ _ _ e (rw m at c)

-- what `Counts::default` gives
abbrev NoMessages : Account → Type 0
NoMessages a = (a.put ≡ 0) × ((a.arrived ≡ 0) × ((a.lost ≡ 0) × (a.dropped ≡ 0)))

none-moved : (a : Account) → NoMessages a → a ≡ no_account
none-moved a e = λ i. record { put = e.0 i; arrived = e.1.0 i; lost = e.1.1.0 i; dropped = e.1.1.1 i }

pub zeros : (n : Counts) → (n.sent ≡ 0) × ((n.acknowledged ≡ 0) × ((n.recorded ≡ 0) × (NoMessages n.datas × NoMessages n.replies))) → n ≡ no_counts
zeros n e =
    λ i. record {
      sent = e.0 i;
      acknowledged = e.1.0 i;
      recorded = e.1.1.0 i;
      datas = none-moved n.datas e.1.1.1.0 i;
      replies = none-moved n.replies e.1.1.1.1 i;
    }

-- a mat that came back as it was, its numbers not written back
pub same-mat : (k : Link) (m : Mat) → m ≡ k.mat
    → record { limits = k.limits; mat = mat_of k.mat.oldest k.mat.next m.marks m.timers m.cells; pad = k.pad; datas = k.datas; replies = k.replies } ≡ k
same-mat k m e = λ i. record { limits = k.limits; mat = mat_of k.mat.oldest k.mat.next (e i).marks (e i).timers (e i).cells; pad = k.pad; datas = k.datas; replies = k.replies }

-- the accounts of a call that puts these questions, done or refused
pub tells : (qs : List Question) (left : LinkState × List ℕ) (counts : Counts) (k : Link) (before : List ℕ) (k' : Link) (after : List ℕ) (r : Result Counts Refusal)
    → LinkCall qs left counts k before k' after r → risen r ≡ pick (eqb (first_no qs) 0) counts no_counts
tells qs left counts k before k' after (Ok n) m = m.answered.value ∙ sym (pick_yes _ _ _ _ (eq-eqb _ _ (sym m.answered.number)) refl)
tells qs left counts k before k' after (Err x) m = sym (pick_no _ _ _ _ (ap (λ n. eqb n 0) (sym m.answered.number) ∙ refusal-not-0 x) refl)

-- what a call shows that puts these questions, done or refused
pub shows : (qs : List Question) (moved : Moved) (a b : Account) (k : Link) (before : List ℕ) (k' : Link) (after : List ℕ) (r : Result Counts Refusal)
    → LinkCall qs (moved.state, moved.buffer) (counts_of moved.counts a b) k before k' after r
    → record { state = link_state k'; counts = rows_of (risen r); buffer = after } ≡ pick (eqb (first_no qs) 0) moved (unmoved (link_state k) before)
shows qs moved a b k before k' after (Ok n) m =
    (λ i. record { state = (m.left i).0; counts = rows_of (m.answered.value i); buffer = (m.left i).1 }) ∙ sym (pick_yes _ _ _ _ (eq-eqb _ _ (sym m.answered.number)) refl)
shows qs moved a b k before k' after (Err x) m =
    (λ i. unmoved (link_state (m.kept i).0) (m.kept i).1) ∙ sym (pick_no _ _ _ _ (ap (λ n. eqb n 0) (sym m.answered.number) ∙ refusal-not-0 x) refl)

-- What an event promises that is counted: how it ends, refused or done, and what it shows.
use Prim.Native.Nat.{ℕ}
use mathlib.Core.Path.{◌≡◌, refl, sym, ◌∙◌, ap}
use mathlib.Core.Bool.{Bool, true, false}
use mathlib.Core.List.{List}
use lib.Dec.{eqb}
use lib.ListN.{length}
use borrow.Author.Tests.{eq-eqb}
use Rattle.std.specs.Prelude.{Result, Ok, Err}
use Rattle.std.specs.Result.{IsErrAnd}
use Rattle.limits.specs.declared.answer.Refusal.{Refusal}
use Rattle.limits.specs.Answer.{refusal_number}
use Rattle.limits.specs.Events.{Event}
use Rattle.limits.specs.Questions.{pick, Question, Answer, first_no}
use Rattle.limits.proofs.Laws.Choice.{pick_yes, pick_no}
use Rattle.limits.proofs.Laws.Promise.{refusal-not-0, changed-refused, changed-handed_on}
use Rattle.events.specs.declared.Link.{Link}
use Rattle.events.specs.declared.Counts.{Counts}
use Rattle.events.specs.State.{LinkState, Moved, more_rows, unmoved}
use Rattle.events.specs.Counts.{Account, no_account, more_messages, rows_of, no_counts, added}
use Rattle.events.specs.Rules.{questions, acted, stepped}
use Rattle.events.specs.Account.{data_account, reply_account, if_done, counted}
use Rattle.events.specs.View.{link_state, LinkCall, Counted}
use Rattle.events.proofs.Laws.Ends.{Moves}
use Rattle.events.proofs.Laws.Sums.{same-rows, same-account, none-added}

-- an event done, and what it added
pub done-counted : {A : Type 0} (k : Link) (supply before after : List ℕ) (e : Event) (value : A) (k' : Link) (n n' : Counts) (v : A)
    → Moves k supply before after e value k' (Ok v) → (v ≡ value → n' ≡ added n (counted supply before (link_state k) e))
    → Counted k supply before after n e k' n' (Ok tt)
done-counted k supply before after e value k' n n' v m f =
    record {
      answered = record { number = m.answered.number; value = refl };
      left = λ i. ((m.left i).0, (m.left i).1, f m.answered.value i);
      kept = tt;
      stays = m.stays;
    }

-- an event refused adds nothing
module _ (k k' : Link) (supply b : List ℕ) (e : Event) (n : Counts) where
  pub refused-counted : (x : Refusal) → refusal_number x ≡ first_no (questions supply (length b) (link_state k) e) → k' ≡ k
      → Counted k supply b b n e k' n (Err x)
  refused-counted x z h = changed-refused _ x _ _ _ _ _ _ z (ap (λ y. (y, b, n)) h)

  -- a refusal that `?` hands on
  pub handed-counted : (r : Answer) (x : Refusal) → IsErrAnd r (λ y. y ≡ x) → refusal_number x ≡ first_no (questions supply (length b) (link_state k) e) → k' ≡ k
      → Counted k supply b b n e k' n r
  handed-counted r x i z h = changed-handed_on _ r x _ _ _ _ _ _ i z (ap (λ y. (y, b, n)) h)

-- an event whose counts begin at 0, as a call that answers with them
module _ (k : Link) (supply before after : List ℕ) (e : Event) (k' : Link) (n n' : Counts) where
  abbrev asked : List Question
  asked = questions supply (length before) (link_state k) e

  abbrev moved : Moved
  moved = acted supply before (link_state k) e

  abbrev adds : Counts
  adds = counted supply before (link_state k) e

  pub counted-done : n ≡ no_counts → Counted k supply before after n e k' n' (Ok tt) → LinkCall asked (moved.state, moved.buffer) adds k before k' after (Ok n')
  counted-done z m =
      record {
        answered =
            record {
              number = m.answered.number;
              value = ap (λ (x : LinkState × List ℕ × Counts). x.2) m.left ∙ ap (λ x. added x adds) z ∙ sym (none-added adds);
            };
        left = ap (λ (x : LinkState × List ℕ × Counts). (x.0, x.1)) m.left;
        kept = tt;
        stays = m.stays;
      }

  pub counted-refused : (r : Result Counts Refusal) (x : Refusal) → IsErrAnd r (λ y. y ≡ x) → Counted k supply before after n e k' n' (Err x)
      → LinkCall asked (moved.state, moved.buffer) adds k before k' after r
  counted-refused r x i m =
      changed-handed_on asked r x _ _ _ _ _ _ i m.answered.number (ap (λ (y : Link × List ℕ × Counts). (y.0, y.1)) m.kept)

-- state, rows and record after an event that did `y`, where n counts stood before it
abbrev pub moved_on : Counts → Moved → Moved
moved_on n y = record { state = y.state; counts = more_rows (rows_of n) y.counts; buffer = y.buffer }

-- what an event shows, done or refused
pub record Shows (k : Link) (supply before after : List ℕ) (n : Counts) (e : Event) (k' : Link) (n' : Counts) : Type 0 where
  pub moved : ◌≡◌ {A = Moved} (record { state = link_state k'; counts = rows_of n'; buffer = after }) (moved_on n (stepped supply before (link_state k) e))
  pub datas : n'.datas ≡ more_messages n.datas (if_done supply before (link_state k) e (data_account (link_state k) e))
  pub replies : n'.replies ≡ more_messages n.replies (if_done supply before (link_state k) e (reply_account (link_state k) e))

module _ (k : Link) (supply before after : List ℕ) (n : Counts) (e : Event) (k' : Link) (n' : Counts) where
  abbrev flag : Bool
  flag = eqb (first_no (questions supply (length before) (link_state k) e)) 0

  abbrev did : Moved
  did = acted supply before (link_state k) e

  -- one table's account, of an event that is done and of one that is refused
  account-done : (a b x : Account) → flag ≡ true → b ≡ more_messages a x → b ≡ more_messages a (pick flag x no_account)
  account-done a b x f e = e ∙ sym (ap (more_messages a) (pick_yes flag x no_account x f refl))

  account-refused : (a b x : Account) → flag ≡ false → b ≡ a → b ≡ more_messages a (pick flag x no_account)
  account-refused a b x f e = e ∙ same-account a ∙ sym (ap (more_messages a) (pick_no flag x no_account no_account f refl))

  pub shows-counted : (r : Answer) → Counted k supply before after n e k' n' r → Shows k supply before after n e k' n'
  unfolding stepped
  shows-counted (Ok v) m =
      let yes : flag ≡ true = eq-eqb _ _ (sym m.answered.number) in
      let counts = ap (λ (x : LinkState × List ℕ × Counts). x.2) m.left in
      record {
        moved =
            (λ i. record { state = (m.left i).0; counts = rows_of (m.left i).2; buffer = (m.left i).1 })
            ∙ sym (ap (moved_on n) (pick_yes flag did (unmoved (link_state k) before) did yes refl));
        datas = account-done n.datas n'.datas (data_account (link_state k) e) yes (ap (λ (c : Counts). c.datas) counts);
        replies = account-done n.replies n'.replies (reply_account (link_state k) e) yes (ap (λ (c : Counts). c.replies) counts);
      }
  shows-counted (Err x) m =
      let no : flag ≡ false = ap (λ a. eqb a 0) (sym m.answered.number) ∙ refusal-not-0 x in
      let counts = ap (λ (y : Link × List ℕ × Counts). y.2) m.kept in
      record {
        moved =
            (λ i. record { state = link_state (m.kept i).0; counts = rows_of (m.kept i).2; buffer = (m.kept i).1 })
            ∙ ap (λ c. record { state = link_state k; counts = c; buffer = before }) (same-rows (rows_of n))
            ∙ sym (ap (moved_on n) (pick_no flag did (unmoved (link_state k) before) (unmoved (link_state k) before) no refl));
        datas = account-refused n.datas n'.datas (data_account (link_state k) e) no (ap (λ (c : Counts). c.datas) counts);
        replies = account-refused n.replies n'.replies (reply_account (link_state k) e) no (ap (λ (c : Counts). c.replies) counts);
      }

-- a promise by another name of the event
pub counted-as : (k : Link) (supply before after : List ℕ) (n : Counts) (e e' : Event) (k' : Link) (n' : Counts) (r : Answer) → e ≡ e'
    → Counted k supply before after n e k' n' r → Counted k supply before after n e' k' n' r
counted-as k supply before after n e e' k' n' r q m = rw (← q) m

-- A run of one event is the call for that event.
use Prim.Native.Nat.{ℕ, ◌%◌, ◌≤◌}
use mathlib.Core.Path.{◌≡◌, refl, sym, ◌∙◌, ap}
use mathlib.Core.Bool.{Bool, true, false}
use mathlib.Core.List.{List, [], ◌∷◌, ◌++◌}
use native.Mathlib.Nat.{zero-add}
use lib.Dec.{eqb}
use lib.ListN.{length, drop}
use borrow.Author.Tests.{eq-eqb}
use Rattle.std.specs.Prelude.{Result}
use Rattle.limits.specs.declared.answer.Refusal.{Refusal}
use Rattle.limits.specs.Answer.{number_of}
use Rattle.limits.specs.Events.{Event, event}
use Rattle.limits.specs.Questions.{pick, Question, ask, first_no, whole_rows}
use Rattle.limits.proofs.Laws.Choice.{pick_yes}
use Rattle.limits.proofs.Laws.Promise.{sound-first}
use Rattle.events.specs.declared.Link.{Link}
use Rattle.events.specs.declared.Counts.{Counts}
use Rattle.events.specs.State.{LinkState, Moved, unmoved}
use Rattle.events.specs.Counts.{Account, no_account, counts_of, no_counts, risen}
use Rattle.events.specs.Rules.{questions, acted, answer, stepped}
use Rattle.events.specs.Account.{data_account, reply_account, if_done, counted}
use Rattle.events.specs.View.{link_state, sound_link}
use Rattle.events.proofs.Laws.Ends.{tells, shows}
use Rattle.events.proofs.Laws.Sums.{same-account}
use Rattle.lists.specs.Runs.{continued, next, after_all, answers}
use Rattle.lists.specs.Account.{account}
use Rattle.lists.specs.View.{Run, running}
use Rattle.runs.specs.View.{Stepped, Ran, lent_questions}
use Rattle.runs.proofs.Laws.Calls.{run-shows, fits_all}

next-first : (supply before : List ℕ) (s : LinkState) (e : Event) → next supply (unmoved s before) e ≡ stepped supply before s e
unfolding next continued
next-first supply before s e =
    let y = stepped supply before s e in
    λ i. record {
      state = y.state;
      counts = record { sent = zero-add y.counts.sent i; acknowledged = zero-add y.counts.acknowledged i; recorded = zero-add y.counts.recorded i };
      buffer = y.buffer;
    }

-- what an event adds, done or refused
adds : (b : Bool) (s : LinkState) (before : List ℕ) (y : Moved) (datas replies : Account)
    → counts_of (pick b y (unmoved s before)).counts (pick b datas no_account) (pick b replies no_account) ≡ pick b (counts_of y.counts datas replies) no_counts
unfolding pick
adds true s before y datas replies = refl
adds false s before y datas replies = refl

module _ (k : Link) (kind argument : ℕ) (supply before answers_before : List ℕ) where
  abbrev one : Event
  one = event kind argument

  abbrev own : List Question
  own = questions supply (length before) (link_state k) one

  abbrev told : ℕ
  told = answer supply before (link_state k) one

  abbrev did : Moved
  did = stepped supply before (link_state k) one

  runs-one : running k (kind ∷ argument ∷ []) supply before answers_before
      ≡ record {
        state = did.state;
        counts = pick (eqb told 0) (counted supply before (link_state k) one) no_counts;
        buffer = did.buffer;
        answers = told ∷ drop 1 answers_before;
      }
  unfolding after_all account answers stepped
  runs-one =
      let y = next-first supply before (link_state k) one in
      let a : (of_event : LinkState → Event → Account)
      → account of_event supply (unmoved (link_state k) before) (one ∷ []) ≡ if_done supply before (link_state k) one (of_event (link_state k) one)
      = λ of_event. sym (same-account (if_done supply before (link_state k) one (of_event (link_state k) one))) in
      (λ i. record {
        state = (y i).state;
        counts = counts_of (y i).counts (a data_account i) (a reply_account i);
        buffer = (y i).buffer;
        answers = told ∷ drop 1 answers_before;
      })
      ∙ ap (λ c. record { state = did.state; counts = c; buffer = did.buffer; answers = told ∷ drop 1 answers_before })
      (adds (eqb told 0) (link_state k) before (acted supply before (link_state k) one) (data_account (link_state k) one) (reply_account (link_state k) one))

  -- What a run of one event shows, and what the call for it shows: of a sound link, with whole rows to send and a place for the answer.
  module _ (sound : sound_link k ≡ true) (whole : length supply % 16 ≡ 0) (place : 1 ≤ length answers_before) where
    passed : first_no (ask 4 (sound_link k) ∷ lent_questions (kind ∷ argument ∷ []) supply answers_before) ≡ 0
    passed = sound-first (lent_questions (kind ∷ argument ∷ []) supply answers_before) (sound_link k) sound ∙ sym (fits_all 2 (length supply) (length answers_before) refl whole place)

    asks : first_no (ask 4 (sound_link k) ∷ (whole_rows supply ++ own)) ≡ told
    asks = sound-first (whole_rows supply ++ own) (sound_link k) sound ∙ pick_yes (eqb (length supply % 16) 0) told 6 told (eq-eqb (length supply % 16) 0 whole) refl

    pub one-event : (after after' answers_after : List ℕ) (k' k'' : Link) (r r' : Result Counts Refusal)
        → Stepped k kind argument supply before after k' r
        → Ran k (kind ∷ argument ∷ []) supply before after' answers_before answers_after k'' r'
        → ((link_state k'' ≡ link_state k') × (after' ≡ after)) × ((risen r' ≡ risen r) × (answers_after ≡ number_of r ∷ drop 1 answers_before))
    unfolding stepped
    one-event after after' answers_after k' k'' r r' m n =
        let moved = acted supply before (link_state k) one in
        let adds_all = counted supply before (link_state k) one in
        let run = run-shows _ k (kind ∷ argument ∷ []) supply before answers_before k'' after' answers_after r' n.called
        ∙ pick_yes _ _ _ _ (eq-eqb _ _ passed) refl ∙ runs-one in
        let step = shows _ moved _ _ k before k' after r m ∙ ap (λ x. pick (eqb x 0) moved (unmoved (link_state k) before)) asks in
        let told_all = tells _ _ adds_all k before k' after r m ∙ ap (λ x. pick (eqb x 0) adds_all no_counts) asks in (
          (ap (λ (x : Run). x.state) run ∙ sym (ap (λ (x : Moved). x.state) step), ap (λ (x : Run). x.buffer) run ∙ sym (ap (λ (x : Moved). x.buffer) step)),
          (ap (λ (x : Run). x.counts) run ∙ sym told_all, ap (λ (x : Run). x.answers) run ∙ sym (ap (◌∷ drop 1 answers_before) (m.answered.number ∙ asks))),
        )

-- From the contracts of opening and of a run to that of a ride, by demand 3 of a list of one run.
use Prim.Native.Nat.{ℕ, ◌*◌, ◌/◌}
use mathlib.Core.Path.{◌≡◌, refl, sym, ◌∙◌, ap}
use mathlib.Core.Bool.{Bool, true, false}
use mathlib.Core.List.{List, [], ◌∷◌, ◌++◌, append-nil}
use native.Mathlib.Omega.{arith}
use lib.Dec.{eqb}
use lib.ListN.{length, take, drop}
use lib.Seq.{take_at}
use Rattle.limits.specs.declared.Limits.{Limits}
use Rattle.limits.specs.Answer.{refusal_number, number_of}
use Rattle.limits.specs.Lists.{joined, all}
use Rattle.limits.specs.Limits.{limits_questions, accepted}
use Rattle.limits.specs.Questions.{pick, ask, first_no}
use Rattle.limits.specs.Events.{Event, events}
use Rattle.limits.proofs.Laws.Choice.{pick_yes, pick_no}
use Rattle.limits.proofs.Laws.Questions.{first-stays, behind-passed}
use Rattle.limits.proofs.Laws.Promise.{refusal-not-0}
use Rattle.unbounded.specs.Ends.{fresh}
use Rattle.unbounded.specs.Lists as unbounded
use Rattle.events.specs.declared.Counts.{Counts}
use Rattle.std.specs.Prelude.{Result, Ok, Err}
use Rattle.std.specs.Result.{IsErrAnd}
use Rattle.limits.specs.declared.answer.Refusal.{Refusal}
use Rattle.events.specs.declared.Link.{Link}
use Rattle.events.specs.State.{LinkState, unmoved}
use Rattle.events.specs.Counts.{Account, counts_of, no_counts, risen}
use Rattle.events.specs.Account.{data_account, reply_account}
use Rattle.lists.specs.Account.{account}
use Rattle.lists.specs.Runs as runs
use Rattle.events.specs.View.{link_state, sound_link}
use Rattle.lists.specs.View.{Run, running}
use Rattle.runs.specs.View.{Ran, lent_questions}
use Rattle.runs.proofs.Laws.Calls.{none-ran, run-shows}
use Rattle.link.specs.View.{Opened}
use Rattle.agreement.specs.Calls.{run, Made, start, end_of, all_events}
use Rattle.agreement.specs.Agreed.{Same, Agreed}
use Rattle.agreement.proofs.Laws.Shift.{length-answers}
use Rattle.agreement.proofs.Laws.Fresh.{opened, fresh-sound}
use Rattle.agreement.proofs.Theorem.{demand-3}
use Rattle.ride.specs.Ride.{ride_questions, ends_of, answers_of, account_in, Riding, riding, Rode}

-- the first no of what is lent
abbrev lent : List ℕ → List ℕ → List ℕ → ℕ
lent bytes supply answers_before = first_no (lent_questions bytes supply answers_before)

abbrev made : List ℕ → List ℕ → Link → Result Counts Refusal → List ℕ → List ℕ → Made
made bytes answers_before k r after answers_after =
    record { call = run bytes answers_before; link = k; result = r; buffer = after; answers = answers_after }

-- one run that was not refused adds its own events and numbers
all-of-one : {A : Type 0} (b : Bool) (xs : List A) → b ≡ true → joined (pick b xs [] ∷ []) ≡ xs
unfolding joined
all-of-one b xs e = append-nil (pick b xs []) ∙ pick_yes b xs [] xs e refl

numbers-of-one : (b : Bool) (es : List Event) (xs : List ℕ) → b ≡ true → joined (take (length (pick b es [])) xs ∷ []) ≡ take (length es) xs
unfolding joined
numbers-of-one b es xs e = append-nil (take (length (pick b es [])) xs) ∙ ap (λ (fs : List Event). take (length fs) xs) (pick_yes b es [] es e refl)

module _ (asked : Limits) (bytes supply before answers_before : List ℕ) where
  -- the opening was refused
  pub rode-unopened : (r : Result Counts Refusal) (x : Refusal) → Opened asked (Err x) → IsErrAnd r (λ e. e ≡ x)
      → Rode asked bytes supply before before answers_before answers_before r
  rode-unopened (Ok n) x opens i = absurd i
  rode-unopened (Err y) x opens i =
      record {
        number =
            ap refusal_number i
            ∙ opens.number
            ∙ sym (first-stays (limits_questions asked) (lent_questions bytes supply answers_before) (ap (λ k. eqb k 0) (sym opens.number) ∙ refusal-not-0 x));
        done = tt;
        kept = (refl, refl);
      }

  -- what a ride gave, by what it shows
  rode : (after answers_after : List ℕ) (r : Result Counts Refusal) → number_of r ≡ first_no (ride_questions asked bytes supply answers_before)
      → (eqb (number_of r) 0 ≡ true → ◌≡◌ {A = Riding} (record { counts = risen r; buffer = after; answers = answers_after }) (riding asked bytes supply before answers_before))
      → (eqb (number_of r) 0 ≡ false → ◌≡◌ {A = Riding} (record { counts = risen r; buffer = after; answers = answers_after }) (record { counts = no_counts; buffer = before; answers = answers_before }))
      → Rode asked bytes supply before after answers_before answers_after r
  rode after answers_after (Ok n) e d f = record { number = e; done = d refl; kept = tt }
  rode after answers_after (Err x) e d f = let s = f (refusal-not-0 x) in
      record { number = e; done = tt; kept = (ap (λ (y : Riding). y.buffer) s, ap (λ (y : Riding). y.answers) s) }

  module _ (k : Link) (opens : Opened asked (Ok k)) (after answers_after : List ℕ) (k' : Link) (r : Result Counts Refusal)
      (ran : Ran k bytes supply before after answers_before answers_after k' r) where
    none-asked : first_no (limits_questions asked) ≡ 0
    none-asked = sym opens.number

    is-sound : sound_link k ≡ true
    is-sound = let f = opened asked k opens in ap sound_link f.0 ∙ fresh-sound (accepted asked) f.1

    run-asks : first_no (ask 4 (sound_link k) ∷ lent_questions bytes supply answers_before) ≡ lent bytes supply answers_before
    run-asks = pick_yes (sound_link k) (lent bytes supply answers_before) 4 (lent bytes supply answers_before) is-sound refl

    ride-asks : first_no (ride_questions asked bytes supply answers_before) ≡ lent bytes supply answers_before
    unfolding all
    ride-asks = behind-passed (limits_questions asked) (lent_questions bytes supply answers_before) refl none-asked

    agreed : Agreed (accepted asked) supply before (start k before) (made bytes answers_before k' r after answers_after ∷ [])
    agreed = demand-3 asked k opens supply before (made bytes answers_before k' r after answers_after ∷ []) (ran, tt)

    abbrev gave : Run
    gave = record { state = link_state k'; counts = risen r; buffer = after; answers = answers_after }

    shown : gave
        ≡ pick (eqb (first_no (ask 4 (sound_link k) ∷ lent_questions bytes supply answers_before)) 0) (running k bytes supply before answers_before)
        (none-ran k before answers_before)
    shown = run-shows _ k bytes supply before answers_before k' after answers_after r ran.called

    -- where everything was lent as it must be
    module _ (e : eqb (lent bytes supply answers_before) 0 ≡ true) where
      shows : gave ≡ running k bytes supply before answers_before
      shows = shown ∙ pick_yes _ _ _ _ (ap (λ n. eqb n 0) run-asks ∙ e) refl

      all-events : all_events supply (made bytes answers_before k' r after answers_after ∷ []) ≡ events bytes
      all-events = all-of-one (eqb (lent bytes supply answers_before) 0) (events bytes) e

      ends : unbounded.after_all (accepted asked) supply (length before) fresh (all_events supply (made bytes answers_before k' r after answers_after ∷ []))
          ≡ ends_of asked bytes supply (length before)
      unfolding ends_of
      ends = ap (unbounded.after_all (accepted asked) supply (length before) fresh) all-events

      same : Same (accepted asked) supply before (end_of (start k before) (made bytes answers_before k' r after answers_after ∷ [])) (ends_of asked bytes supply (length before))
      same = rw ends at agreed.same

      -- the run's own numbers are those of the unbounded ends
      own : runs.answers supply (unmoved (link_state k) before) (events bytes) ≡ answers_of asked bytes supply (length before)
      unfolding answers_of
      own =
          sym (ap (λ (x : Run). take (length (events bytes)) x.answers) shows
          ∙ take_at (runs.answers supply (unmoved (link_state k) before) (events bytes)) (drop (length bytes / 2) answers_before)
          (length (events bytes)) (length-answers supply (unmoved (link_state k) before) (events bytes)))
          ∙ sym (numbers-of-one (eqb (lent bytes supply answers_before) 0) (events bytes) answers_after e)
          ∙ agreed.answers
          ∙ ap (unbounded.answers (accepted asked) supply (length before) fresh) all-events

      -- the link that was opened is the fresh one
      from_fresh : (of_event : LinkState → Event → Account) → account of_event supply (unmoved (link_state k) before) (events bytes) ≡ account_in of_event asked bytes supply before
      from_fresh of_event = ap (λ y. account of_event supply (unmoved (link_state y) before) (events bytes)) (opened asked k opens).0

      rides : ◌≡◌ {A = Riding} (record { counts = risen r; buffer = after; answers = answers_after }) (riding asked bytes supply before answers_before)
      rides =
          let s = ends_of asked bytes supply (length before) in
          let sent : (risen r).sent ≡ s.next = (let h = same.sent in omega arith) in
          let acknowledged : (risen r).acknowledged ≡ s.oldest = (let h = same.acknowledged in omega arith) in
          let recorded : (risen r).recorded ≡ s.wanted = (let h = same.recorded in omega arith) in
          λ i. record {
            counts = counts_of (record { sent = sent i; acknowledged = acknowledged i; recorded = recorded i })
                ((ap (λ (x : Run). x.counts.datas) shows ∙ from_fresh data_account) i) ((ap (λ (x : Run). x.counts.replies) shows ∙ from_fresh reply_account) i);
            buffer = (same.record_is ∙ ap (◌++ drop (16 * (ends_of asked bytes supply (length before)).wanted) before) same.rows_in_order) i;
            answers = (ap (λ (x : Run). x.answers) shows ∙ ap (◌++ drop (length bytes / 2) answers_before) own) i;
          }

    refused : eqb (lent bytes supply answers_before) 0 ≡ false
        → ◌≡◌ {A = Riding} (record { counts = risen r; buffer = after; answers = answers_after })
        (record { counts = no_counts; buffer = before; answers = answers_before })
    refused e =
        ap (λ (x : Run). record { counts = x.counts; buffer = x.buffer; answers = x.answers })
        (shown ∙ pick_no _ _ _ _ (ap (λ n. eqb n 0) run-asks ∙ e) refl)

    number : number_of r ≡ lent bytes supply answers_before
    number = ran.called.answered.number ∙ run-asks

    pub rode-run : Rode asked bytes supply before after answers_before answers_after r
    rode-run =
        rode after answers_after r (number ∙ sym ride-asks) (λ z. rides (ap (λ n. eqb n 0) (sym number) ∙ z)) (λ z. refused (ap (λ n. eqb n 0) (sym number) ∙ z))

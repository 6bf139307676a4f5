-- What a call did that met its contract, as events on the whole supply and the whole record.
use Prim.Native.Nat.{ℕ, ◌*◌, ◌/◌, ◌%◌, ◌≤◌}
use mathlib.Core.Path.{◌≡◌, refl, ◌∙◌, ap, ap₂}
use mathlib.Core.Bool.{Bool, true, false}
use mathlib.Core.List.{List, [], ◌∷◌, ◌++◌}
use native.Mathlib.Omega.{arith}
use lib.Dec.{eqb, leb}
use lib.ListN.{length, take, drop, length-drop}
use lib.Seq.{take_at}
use Rattle.limits.specs.Answer.{number_of}
use Rattle.limits.specs.Questions.{pick, Question, ask, first_no, whole_rows}
use Rattle.limits.specs.Events.{Event, event, events}
use Rattle.limits.proofs.Laws.Choice.{pick_yes}
use Rattle.events.specs.State.{LinkState, Moved, unmoved}
use Rattle.events.specs.declared.Counts.{Counts}
use Rattle.events.specs.Counts.{Account, no_account, counts_of, rows_of, no_counts, risen}
use Rattle.events.specs.Account.{data_account, reply_account, if_done, counted}
use Rattle.events.proofs.Laws.Sums.{same-account}
use Rattle.events.proofs.Laws.Ends.{tells, shows}
use Rattle.runs.proofs.Laws.Calls.{none-ran, run-shows}
use Rattle.events.specs.Rules.{questions, acted, answer, stepped}
use Rattle.lists.specs.Runs.{supply_left, buffer_left, continued, next, after_all, answers}
use Rattle.events.specs.View.{link_state, sound_link}
use Rattle.lists.specs.Account.{account}
use Rattle.lists.specs.View.{Run, running}
use Rattle.runs.specs.View.{lent_questions}
use Rattle.agreement.specs.Calls.{Call, run, single, Made, Line, following, Met, events_of, given_by}
use Rattle.agreement.proofs.Laws.Codes.{not4, run-not4, single-not4}
use Rattle.agreement.proofs.Laws.Shift.{continued-unmoved, shift, shift-numbers, shift-account, length-answers}

abbrev pub shown_line : Line → Moved
shown_line x = record { state = link_state x.link; counts = rows_of x.counts; buffer = x.buffer }

abbrev pub left_by : Made → Moved
left_by c = record { state = link_state c.link; counts = rows_of (risen c.result); buffer = c.buffer }

abbrev moved_by : Run → Moved
moved_by r = record { state = r.state; counts = rows_of r.counts; buffer = r.buffer }

-- the call `call` of `c` on the line x
pub record Follows (supply : List ℕ) (x : Line) (c : Made) (call : Call) : Type 0 where
  pub sound : sound_link c.link ≡ true
  pub not-4 : not4 (number_of c.result) ≡ true
  pub moved : shown_line (following x c) ≡ after_all supply (shown_line x) (events_of supply call)
  pub numbers : take (length (events_of supply call)) (given_by call c) ≡ answers supply (shown_line x) (events_of supply call)
  pub datas : (risen c.result).datas ≡ account data_account supply (shown_line x) (events_of supply call)
  pub replies : (risen c.result).replies ≡ account reply_account supply (shown_line x) (events_of supply call)

-- a part from behind whole rows has whole rows if the whole has
whole-rows : (supply : List ℕ) (n : ℕ) → 16 * n ≤ length supply → eqb (length (drop (16 * n) supply) % 16) 0 ≡ eqb (length supply % 16) 0
whole-rows supply n h =
    ap (λ k. eqb k 0) {x = length (drop (16 * n) supply) % 16} {y = length supply % 16} (let e = length-drop (16 * n) supply in omega arith)

sound-passes : (b : Bool) (qs : List Question) → b ≡ true → first_no (ask 4 b ∷ qs) ≡ first_no qs
sound-passes b qs e = pick_yes b (first_no qs) 4 (first_no qs) e refl

-- where the questions before the event's own are passed by t
refused-early : {A : Type 0} (t : Bool) (n : ℕ) (done refused : A)
    → pick (eqb (pick t n 6) 0) done refused ≡ pick (eqb (pick t 0 6) 0) (pick (eqb n 0) done refused) refused
unfolding pick
refused-early true n done refused = refl
refused-early false n done refused = refl

within-table : (table : Counts → Account) (b : Bool) (n : Counts) → table (pick b n no_counts) ≡ pick b (table n) (table no_counts)
unfolding pick
within-table table true n = refl
within-table table false n = refl

asked-on : (t : Bool) (n : ℕ) → eqb (pick t 0 6) 0 ≡ true → pick t n 6 ≡ n
unfolding pick
asked-on true n e = refl
asked-on false n e = absurd (mathlib.Core.Bool.false≢true e)

module _ (supply : List ℕ) (y : Moved) (within : 16 * y.counts.recorded ≤ length y.buffer) where
  -- what a run of events leaves that was lent the rests, where it was not refused
  abbrev ran_on : List Event → List ℕ → Run
  ran_on es rest =
      let begin = unmoved y.state (buffer_left y) in
      let left = after_all (supply_left supply y) begin es in
      record {
        state = left.state;
        counts = counts_of left.counts (account data_account (supply_left supply y) begin es) (account reply_account (supply_left supply y) begin es);
        buffer = left.buffer;
        answers = answers (supply_left supply y) begin es ++ rest;
      }

  abbrev not_ran : List ℕ → Run
  not_ran before = record { state = y.state; counts = no_counts; buffer = buffer_left y; answers = before }

  run_moved : (es : List Event) (rest before : List ℕ) (b : Bool) (r : Run) → r ≡ pick b (ran_on es rest) (not_ran before)
      → (continued y (moved_by r) ≡ after_all supply y (pick b es []))
      × (take (length (pick b es [])) r.answers ≡ answers supply y (pick b es []))
      × (r.counts.datas ≡ account data_account supply y (pick b es []))
      × (r.counts.replies ≡ account reply_account supply y (pick b es []))
  unfolding pick after_all answers account
  run_moved es rest before true r e = (
    ap (λ (z : Run). continued y (moved_by z)) e ∙ shift y within supply es,
    ap (λ (z : Run). take (length es) z.answers) e
        ∙ take_at (answers (supply_left supply y) (unmoved y.state (buffer_left y)) es) rest (length es)
        (length-answers (supply_left supply y) (unmoved y.state (buffer_left y)) es)
        ∙ shift-numbers y within supply es,
    ap (λ (z : Run). z.counts.datas) e ∙ shift-account data_account y within supply es,
    ap (λ (z : Run). z.counts.replies) e ∙ shift-account reply_account y within supply es,
  )
  run_moved es rest before false r e = (
    ap (λ (z : Run). continued y (moved_by z)) e ∙ continued-unmoved y,
    refl,
    ap (λ (z : Run). z.counts.datas) e,
    ap (λ (z : Run). z.counts.replies) e,
  )

  single-counted : (of_event : LinkState → Event → Account) (e : Event) (b : Bool) (a : Account)
      → a ≡ pick b (if_done (supply_left supply y) (buffer_left y) y.state e (of_event y.state e)) no_account
      → a ≡ account of_event supply y (pick b (e ∷ []) [])
  unfolding pick account
  single-counted of_event e true a h = h ∙ same-account (if_done (supply_left supply y) (buffer_left y) y.state e (of_event y.state e))
  single-counted of_event e false a h = h

  single-moved : (e : Event) (b : Bool) (n : ℕ) (z : Moved)
      → z ≡ pick b (stepped (supply_left supply y) (buffer_left y) y.state e) (unmoved y.state (buffer_left y))
      → (b ≡ true → n ≡ answer (supply_left supply y) (buffer_left y) y.state e)
      → (continued y z ≡ after_all supply y (pick b (e ∷ []) [])) × (take (length (pick b (e ∷ []) [])) (n ∷ []) ≡ answers supply y (pick b (e ∷ []) []))
  unfolding pick after_all answers next
  single-moved e true n z h k = (ap (continued y) h, ap (◌∷ []) (k refl))
  single-moved e false n z h k = (ap (continued y) h ∙ continued-unmoved y, refl)

module _ (supply : List ℕ) (x : Line) (c : Made) (sound : sound_link x.link ≡ true) (supplied : 16 * x.counts.sent ≤ length supply)
    (within : 16 * x.counts.recorded ≤ length x.buffer) where
  rows_same : eqb (length (supply_left supply (shown_line x)) % 16) 0 ≡ eqb (length supply % 16) 0
  rows_same = whole-rows supply x.counts.sent supplied

  follows-run : (bytes before : List ℕ)
      → Met x.link (supply_left supply (shown_line x)) (buffer_left (shown_line x)) c (run bytes before)
      → Follows supply x c (run bytes before)
  unfolding continued
  follows-run bytes before m =
      record {
        sound = m.called.stays sound;
        not-4 = ap not4 (m.called.answered.number ∙ passes) ∙ run-not4 bytes (supply_left supply (shown_line x)) before;
        moved = all_of.0;
        numbers = all_of.1;
        datas = all_of.2;
        replies = all_of.3;
      }
    where
      passes : first_no (ask 4 (sound_link x.link) ∷ lent_questions bytes (supply_left supply (shown_line x)) before)
          ≡ first_no (lent_questions bytes (supply_left supply (shown_line x)) before)
      passes = sound-passes (sound_link x.link) (lent_questions bytes (supply_left supply (shown_line x)) before) sound

      whole : first_no (lent_questions bytes (supply_left supply (shown_line x)) before) ≡ first_no (lent_questions bytes supply before)
      whole =
          ap (λ b. first_no (ask 5 (eqb (length bytes % 2) 0) ∷ ask 6 b ∷ ask 7 (leb (length bytes / 2) (length before)) ∷ [])) rows_same

      all_of : (continued (shown_line x) (left_by c) ≡ after_all supply (shown_line x) (events_of supply (run bytes before)))
          × (take (length (events_of supply (run bytes before))) c.answers ≡ answers supply (shown_line x) (events_of supply (run bytes before)))
          × ((risen c.result).datas ≡ account data_account supply (shown_line x) (events_of supply (run bytes before)))
          × ((risen c.result).replies ≡ account reply_account supply (shown_line x) (events_of supply (run bytes before)))
      all_of =
          run_moved supply (shown_line x) within (events bytes) (drop (length bytes / 2) before) before
          (eqb (first_no (lent_questions bytes supply before)) 0)
          (record { state = link_state c.link; counts = risen c.result; buffer = c.buffer; answers = c.answers })
          (run-shows _ x.link bytes _ _ before c.link c.buffer c.answers c.result m.called
          ∙ ap
          (λ n. pick (eqb n 0) (running x.link bytes (supply_left supply (shown_line x)) (buffer_left (shown_line x)) before)
          (none-ran x.link (buffer_left (shown_line x)) before))
          (passes ∙ whole))

  follows-single : (kind argument : ℕ)
      → Met x.link (supply_left supply (shown_line x)) (buffer_left (shown_line x)) c (single kind argument)
      → Follows supply x c (single kind argument)
  unfolding continued stepped
  follows-single kind argument m =
      record {
        sound = m.stays sound;
        not-4 =
            ap not4 (m.answered.number ∙ passes)
            ∙ single-not4 (supply_left supply (shown_line x)) (length (buffer_left (shown_line x))) (link_state x.link) (event kind argument);
        moved = both.0;
        numbers = both.1;
        datas = counted-by data_account (λ (n : Counts). n.datas) refl refl;
        replies = counted-by reply_account (λ (n : Counts). n.replies) refl refl;
      }
    where
      own : List Question
      own = questions (supply_left supply (shown_line x)) (length (buffer_left (shown_line x))) (link_state x.link) (event kind argument)

      passes : first_no (ask 4 (sound_link x.link) ∷ (whole_rows (supply_left supply (shown_line x)) ++ own))
          ≡ pick (eqb (length (supply_left supply (shown_line x)) % 16) 0) (first_no own) 6
      passes = sound-passes (sound_link x.link) (whole_rows (supply_left supply (shown_line x)) ++ own) sound

      whole : pick (eqb (length (supply_left supply (shown_line x)) % 16) 0) (first_no own) 6 ≡ pick (eqb (length supply % 16) 0) (first_no own) 6
      whole = ap (λ b. pick b (first_no own) 6) rows_same

      done : Moved
      done = acted (supply_left supply (shown_line x)) (buffer_left (shown_line x)) (link_state x.link) (event kind argument)

      adds : Counts
      adds = counted (supply_left supply (shown_line x)) (buffer_left (shown_line x)) (link_state x.link) (event kind argument)

      refused : Moved
      refused = unmoved (link_state x.link) (buffer_left (shown_line x))

      -- one table's account of the event
      counted-by : (of_event : LinkState → Event → Account) (table : Counts → Account)
          → table adds ≡ of_event (link_state x.link) (event kind argument) → table no_counts ≡ no_account
          → table (risen c.result) ≡ account of_event supply (shown_line x) (events_of supply (single kind argument))
      counted-by of_event table h z =
          single-counted supply (shown_line x) within of_event (event kind argument) (eqb (first_no (whole_rows supply)) 0) (table (risen c.result))
          (ap table (tells _ _ adds x.link _ c.link c.buffer c.result m)
          ∙ within-table table (eqb (first_no (ask 4 (sound_link x.link) ∷ (whole_rows (supply_left supply (shown_line x)) ++ own))) 0) adds
          ∙ ap₂ (pick (eqb (first_no (ask 4 (sound_link x.link) ∷ (whole_rows (supply_left supply (shown_line x)) ++ own))) 0)) h z
          ∙ ap (λ n. pick (eqb n 0) (of_event (link_state x.link) (event kind argument)) no_account) (passes ∙ whole)
          ∙ refused-early (eqb (length supply % 16) 0) (first_no own) (of_event (link_state x.link) (event kind argument)) no_account)

      both : (continued (shown_line x) (left_by c) ≡ after_all supply (shown_line x) (events_of supply (single kind argument)))
          × (take (length (events_of supply (single kind argument))) (number_of c.result ∷ [])
          ≡ answers supply (shown_line x) (events_of supply (single kind argument)))
      both =
          single-moved supply (shown_line x) within (event kind argument) (eqb (first_no (whole_rows supply)) 0) (number_of c.result)
          (left_by c)
          (shows _ done _ _ x.link _ c.link c.buffer c.result m ∙ ap (λ n. pick (eqb n 0) done refused) (passes ∙ whole) ∙ refused-early (eqb (length supply % 16) 0) (first_no own) done refused)
          (λ t. m.answered.number ∙ passes ∙ whole ∙ asked-on (eqb (length supply % 16) 0) (first_no own) t)

  pub follows : (call : Call) → Met x.link (supply_left supply (shown_line x)) (buffer_left (shown_line x)) c call → Follows supply x c call
  follows (run bytes before) m = follows-run bytes before m
  follows (single kind argument) m = follows-single kind argument m

-- From the contract of the ride to the text of the trial.
use Prim.Native.Nat.{ℕ, ◌-◌, ◌*◌, ◌/◌, ◌≤◌, ◌<◌}
use mathlib.Core.Path.{◌≡◌, refl, sym, ◌∙◌, ap, ap₂}
use mathlib.Core.Bool.{true, false}
use mathlib.Core.List.{List, ◌++◌}
use native.Mathlib.Omega.{arith}
use lib.Dec.{eqb, leb}
use lib.ListN.{length, take, drop, length-append, length-drop, length-replicate}
use lib.Seq.{take_all, length-take-le}
use borrow.Author.Tests.{eq-eqb, leb-true, le-leb, lt-leb}
use Rattle.limits.specs.declared.Limits.{Limits}
use Rattle.limits.specs.declared.answer.Refusal.{Refusal}
use Rattle.limits.specs.declared.answer.Refusal.TheVariants.{BadInputLength, ShortBuffer}
use Rattle.std.specs.Prelude.{Result, Ok, Err, IsOk}
use Rattle.std.specs.Result.{IsErrAnd}
use Rattle.std.proofs.Common.{rules}
use Rattle.limits.specs.Answer.{refusal_number}
use Rattle.limits.specs.Lists.{tab}
use Rattle.limits.specs.Questions.{first_no}
use Rattle.limits.proofs.Laws.Choice.{pick_yes, pick_no, and_left, and_right, clash}
use Rattle.limits.proofs.Laws.Lists.{length-tab}
use Rattle.limits.proofs.Laws.Promise.{refusal-not-0}
use Rattle.unbounded.specs.Ends.{Ends}
use Rattle.lines.specs.Input.{row_count, event_start, most_input, readable, limits_of, supply_of, cell_at, event_bytes}
use Rattle.buffers.specs.Buffers.{Wrote}
use Rattle.buffers.proofs.Laws.Buffers.{wrote-front, same-wrote}
use Rattle.buffers.proofs.Laws.Writing.{write-done, write-refused}
use Rattle.lines.specs.Text.{event_lines, counts_line, refused_line}
use Rattle.lines.proofs.Laws.Input.{supply-front}
use Rattle.events.specs.declared.Counts.{Counts}
use Rattle.ride.specs.Ride.{ride_questions, ends_of, answers_of, Riding, riding, Rode}
use Rattle.ride.proofs.Laws.Bounds.{Bounded, bounded, answer-count}
use Rattle.report.specs.Report.{output_length, no_answers, trial_questions, trial_ends, trial_answers, ride_text, text_of, Room, output_questions, Ridden, Reports}
use Rattle.report.proofs.Laws.Text.{lines-front}

-- an input that 29 passes
pub record Readable (input : List ℕ) : Type 0 where
  pub starts : event_start input ≤ length input
  pub most : length input ≤ 40960

pub is-readable : (input : List ℕ) → readable input ≡ true → Readable input
unfolding readable
is-readable input e =
    record {
      starts = leb-true _ _ (and_left (leb (event_start input) (length input)) (leb (length input) most_input) e);
      most = leb-true _ _ (and_right (leb (event_start input) (length input)) (leb (length input) most_input) e);
    }

-- 29 is answered no
pub unreadable : (input before : List ℕ) → readable input ≡ false → Ridden input before before (Err BadInputLength)
unreadable input before e = record { number = sym (pick_no _ _ _ _ e refl); lines = tt; kept = refl }

-- a refusal of the ride is that of the trial
pub refused-on : (input before : List ℕ) (r : Result ℕ Refusal) (x : Refusal) → IsErrAnd r (λ e. e ≡ x) → refusal_number x ≡ first_no (trial_questions input)
    → Ridden input before before r
refused-on input before (Ok n) x i e = absurd i
refused-on input before (Err y) x i e = record { number = ap refusal_number i ∙ e; lines = tt; kept = refl }

-- the text of an input, by what its ride gave
pub lines-text : (input before after : List ℕ) (n : ℕ) → Ridden input before after (Ok n) → Wrote 0 (text_of input) before after n
unfolding text_of
lines-text input before after n r = same-wrote _ _ _ _ _ _ (sym (pick_yes _ _ _ _ (eq-eqb _ _ (sym r.number)) refl)) r.lines

pub refused-text : (input before after output : List ℕ) (x : Refusal) (n k : ℕ) → Ridden input before after (Err x) → n ≡ refusal_number x
    → Wrote 0 (refused_line n) after output k → Wrote 0 (text_of input) before output k
unfolding text_of
refused-text input before after output x n k r e w =
    same-wrote _ _ _ _ _ _ (ap refused_line (e ∙ r.number) ∙ sym (pick_no _ _ _ _ (ap (λ m. eqb m 0) (sym r.number) ∙ refusal-not-0 x) refl)) (rw r.kept at w)

pub supply-length : (input : List ℕ) → length (supply_of input) ≡ 16 * row_count input
unfolding supply_of
supply-length input = length-tab (16 * row_count input) (cell_at input)

pub events-length : (input : List ℕ) → Readable input → length (event_bytes input) ≤ 40953
unfolding event_bytes
events-length input h = let l = length-drop (event_start input) input in omega arith

-- the parts that are lent to the ride, where the events start at `start` and there are n rows
pub front_length : (n : ℕ) (xs : List ℕ) → length xs ≡ 4080 → n ≤ 255 → length (take (16 * n) xs) ≡ 16 * n
front_length n xs l h = length-take-le (16 * n) xs (omega arith)

pub cells-length : (input cells : List ℕ) → cells ≡ tab 4080 (cell_at input) → length cells ≡ 4080
cells-length input cells e = ap length e ∙ length-tab 4080 (cell_at input)

pub events-part : (input : List ℕ) (start : ℕ) → start ≡ event_start input → take (length input - start) (drop start input) ≡ event_bytes input
unfolding event_bytes
events-part input start e =
    take_all (length input - start) (drop start input) (let l = length-drop start input in omega arith) ∙ ap (λ n. drop n input) e

pub rows-part : (input cells : List ℕ) (n : ℕ) → cells ≡ tab 4080 (cell_at input) → n ≡ row_count input → n ≤ 255 → take (16 * n) cells ≡ supply_of input
rows-part input cells n c e h = ap₂ (λ k xs. take (16 * k) xs) e c ∙ supply-front input (omega arith)

pub rows_long : (input xs : List ℕ) (n : ℕ) → length xs ≡ 4080 → n ≡ row_count input → n ≤ 255 → length (take (16 * n) xs) ≡ length (supply_of input)
rows_long input xs n l e h = front_length n xs l h ∙ ap (16 *◌) e ∙ sym (supply-length input)

-- what is lent to the ride of an input
pub record Lent (input : List ℕ) (asked : Limits) (bytes supply before answers_before : List ℕ) : Type 0 where
  pub whole : readable input ≡ true
  pub limits : asked ≡ limits_of input
  pub events : bytes ≡ event_bytes input
  pub rows : supply ≡ supply_of input
  pub as_long : length before ≡ length (supply_of input)
  pub blank : answers_before ≡ no_answers

pub lent : (input : List ℕ) (asked : Limits) (start : ℕ) (cells record_before : List ℕ) (n : ℕ) → readable input ≡ true → asked ≡ limits_of input
    → start ≡ event_start input → cells ≡ tab 4080 (cell_at input) → length record_before ≡ 4080 → (n ≡ row_count input) × (n ≤ 255)
    → Lent input asked (take (length input - start) (drop start input)) (take (16 * n) cells) (take (16 * n) record_before) no_answers
lent input asked start cells record_before n e l s c r k =
    record {
      whole = e;
      limits = l;
      events = events-part input start s;
      rows = rows-part input cells n c k.0 k.1;
      as_long = rows_long input record_before n r k.0 k.1;
      blank = refl;
    }

module _ (input : List ℕ) (asked : Limits) (bytes supply before after answers_before answers_after : List ℕ) (h : Lent input asked bytes supply before answers_before) where
  first : first_no (ride_questions asked bytes supply answers_before) ≡ first_no (trial_questions input)
  first =
      (λ i. first_no (ride_questions (h.limits i) (h.events i) (h.rows i) (h.blank i)))
      ∙ sym (pick_yes (readable input) (first_no (ride_questions (limits_of input) (event_bytes input) (supply_of input) no_answers)) 29 _ h.whole refl)

  pub ride-refused : (x : Refusal) → Rode asked bytes supply before after answers_before answers_after (Err x) → refusal_number x ≡ first_no (trial_questions input)
  ride-refused x rode = rode.number ∙ first

  module _ (n : Counts) (rode : Rode asked bytes supply before after answers_before answers_after (Ok n)) where
    shows : ◌≡◌ {A = Riding} (record { counts = n; buffer = after; answers = answers_after }) (riding asked bytes supply before answers_before)
    shows = rode.done

    ends : ends_of asked bytes supply (length before) ≡ trial_ends input
    ends = λ i. ends_of (h.limits i) (h.events i) (h.rows i) (h.as_long i)

    numbers : answers_of asked bytes supply (length before) ≡ trial_answers input
    numbers = λ i. answers_of (h.limits i) (h.events i) (h.rows i) (h.as_long i)

    passed : first_no (ride_questions (limits_of input) (event_bytes input) (supply_of input) no_answers) ≡ 0
    passed = (λ i. first_no (ride_questions (sym h.limits i) (sym h.events i) (sym h.rows i) (sym h.blank i))) ∙ sym rode.number

    given : answers_after ≡ trial_answers input ++ drop (length bytes / 2) no_answers
    given = ap (λ (x : Riding). x.answers) shows ∙ ap₂ (λ xs ys. xs ++ drop (length bytes / 2) ys) numbers h.blank

    answered : length (trial_answers input) ≡ length (event_bytes input) / 2
    answered = answer-count (limits_of input) (event_bytes input) (supply_of input) (length (supply_of input))

    pub ride-lines : (output output' : List ℕ) (k : ℕ) → Wrote 0 (event_lines bytes answers_after ++ counts_line n.sent n.acknowledged n.recorded) output output' k
        → Ridden input output output' (Ok k)
    unfolding ride_text
    ride-lines output output' k w = record { number = rode.number ∙ first; lines = same-wrote _ _ _ _ _ _ text w; kept = tt }
      where
        text : event_lines bytes answers_after ++ counts_line n.sent n.acknowledged n.recorded ≡ ride_text input
        text =
            ap₂ ◌++◌
            (ap₂ event_lines h.events given
            ∙ lines-front (event_bytes input) (trial_answers input) (drop (length bytes / 2) no_answers) (let a = answered in omega arith))
            (ap (λ (x : Riding). counts_line x.counts.sent x.counts.acknowledged x.counts.recorded) shows
            ∙ ap (λ (s : Ends). counts_line s.next s.oldest s.wanted) ends)

    kept : length answers_after ≡ 20480
    kept =
        let q = is-readable input h.whole in
        let b : length bytes ≡ length (event_bytes input) = ap length h.events in
        let m = events-length input q in
        let a = answered in
        let l = ap length given ∙ length-append (trial_answers input) (drop (length bytes / 2) no_answers) in
        let d = length-drop (length bytes / 2) no_answers in
        let t = length-replicate {A = ℕ} 20480 0 in omega arith

    pub ride-room : (output : List ℕ) → row_count input ≤ 255 → output_length ≤ length output → Room output bytes answers_after n
    ride-room output few long =
        let q = is-readable input h.whole in
        let b : length bytes ≡ length (event_bytes input) = ap length h.events in
        let m = events-length input q in
        let s = supply-length input in
        let f : Bounded (supply_of input) (trial_ends input) =
        bounded (limits_of input) (event_bytes input) (supply_of input) no_answers (length (supply_of input)) passed in
        let x = ap (λ (y : Riding). y.counts.sent) shows ∙ ap (λ (t : Ends). t.next) ends in
        let y = ap (λ (y : Riding). y.counts.acknowledged) shows ∙ ap (λ (t : Ends). t.oldest) ends in
        let w = ap (λ (y : Riding). y.counts.recorded) shows ∙ ap (λ (t : Ends). t.wanted) ends in
        record {
          fits = omega arith;
          answered = let l = kept in omega arith;
          sent = omega arith;
          acknowledged = omega arith;
          recorded = omega arith;
        }

-- question 28, passed and answered no
output-passes : (before : List ℕ) → output_length ≤ length before → 0 ≡ first_no (output_questions before)
output-passes before h = sym (pick_yes _ _ _ _ (le-leb output_length (length before) h) refl)

pub reported : (input before after : List ℕ) (n : ℕ) → output_length ≤ length before → Wrote 0 (text_of input) before after n
    → Reports input before after (Ok n)
reported input before after n h w =
    write-done _ _ _ _ _ (output-passes before h) (let b = w.behind in omega arith) (w.buffer ∙ wrote-front (text_of input) before)

pub not-reported : (input before : List ℕ) → length before < output_length → Reports input before before (Err ShortBuffer)
not-reported input before h =
    write-refused _ _ _ _ ShortBuffer (sym (pick_no _ _ _ _ (lt-leb output_length (length before) h) refl)) refl

-- an output that is long enough is taken
pub reports-ok : (input before after : List ℕ) (r : Result ℕ Refusal) → output_length ≤ length before → Reports input before after r → IsOk r
reports-ok input before after (Ok n) h p = search rules
reports-ok input before after (Err r) h p = absurd (clash _ (eq-eqb (refusal_number r) 0 (p.answered.number ∙ sym (output-passes before h))) (refusal-not-0 r))

-- what a caller may read of its output
pub count_fits : (input before after : List ℕ) (n : ℕ) → Reports input before after (Ok n) → n ≤ length after
count_fits input before after n p =
    let v : n ≡ length (text_of input) = p.answered.value in
    let l : length after ≡ length (text_of input ++ drop (length (text_of input)) before) = ap length p.left in
    let a = length-append (text_of input) (drop (length (text_of input)) before) in omega arith

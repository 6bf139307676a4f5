-- No resend wait below the least one would do, and question 3 asks for no longer one.
use Prim.Native.Nat.{ℕ, ◌+◌, ◌-◌, ◌*◌, ◌%◌, ◌≤◌}
use mathlib.Core.Path.{◌≡◌, refl, ◌∙◌, ap, subst}
use mathlib.Core.Bool.{true, false, not}
use mathlib.Core.List.{List, [], ◌∷◌, ◌++◌, append_assoc}
use native.Mathlib.Omega.{arith}
use lib.Dec.{eqb, leb}
use borrow.Author.Tests.{lt-leb, ne_eqb}
use lib.ListN.{length, take, drop, replicate, length-replicate}
use lib.Seq.{length-take-le, take_at, drop_at}
use Rattle.limits.specs.declared.Limits.{Limits}
use Rattle.limits.specs.Lists.{all, joined}
use Rattle.limits.specs.Cells.{legal_cell, row_at}
use Rattle.limits.specs.Questions.{pick, first_no}
use Rattle.limits.specs.Limits.{between, sum_of_times, window_fits, times_fit, wait_fits, least_wait, limits_questions}
use Rattle.limits.specs.Events.{events, event}
use Rattle.limits.proofs.Laws.Choice.{three, pick_yes, pick_no, and-no-left}
use Rattle.limits.proofs.Laws.Good.{Times, times, between-low, between-high, range-passes, all_pass}
use Rattle.limits.proofs.Laws.Questions.{first-stays}
use Rattle.events.specs.State.{Moved}
use Rattle.runs.specs.View.{lent_questions}
use Rattle.leastwait.specs.NoShorterWait.{too_short, are_bytes, old_row, list_of, list_answers, start, end_of, RecordsAnOldRow, RecordsMoreThanSent, NoShorterWait, ShortWaitsRefused, LongerWaitsPass}
use Rattle.leastwait.specs.Shown.{ShownLists}
use Rattle.leastwait.proofs.Laws.Goes.{Goes}
use Rattle.leastwait.proofs.Laws.Supply.{rows-left}
use Rattle.leastwait.proofs.Laws.Rows.{Given, late, rows_done, old_recorded, timers_after, rows-behind, old-row}
use Rattle.leastwait.proofs.Laws.Bytes.{list-bytes, answers-not-21, zeros-legal}
use Rattle.leastwait.proofs.Laws.First.{Parts, timers, row-recorded}

-- `too_short` as bounds
record Short (l : Limits) : Type 0 where
  window_fits : window_fits l.window ≡ true
  times_fit : times_fit l ≡ true
  window_low : 1 ≤ l.window
  window_high : l.window ≤ 32
  times : Times l
  wait_low : 1 ≤ l.resendwait
  wait_high : l.resendwait ≤ sum_of_times l - 3

short : (l : Limits) → too_short l ≡ true → Short l
unfolding window_fits
short l e =
    let t = three (window_fits l.window) (times_fit l) (between 1 (sum_of_times l - 3) l.resendwait) e in
    record {
      window_fits = t.0;
      times_fit = t.1;
      window_low = between-low 1 32 l.window t.0;
      window_high = between-high 1 32 l.window t.0;
      times = times l t.1;
      wait_low = between-low 1 (sum_of_times l - 3) l.resendwait t.2;
      wait_high = between-high 1 (sum_of_times l - 3) l.resendwait t.2;
    }

-- what the list leaves
abbrev left : Limits → List ℕ → List ℕ → Moved
left l supply before = old_recorded l supply before (timers_after l (timers l) (2 * l.window - 1))

-- the whole list
goes : (l : Limits) (supply before : List ℕ) → Short l → Parts l → Given l supply before → Goes supply (start l before) (events (list_of l)) (list_answers l) (left l supply before)
unfolding event pick
goes l supply before s p given =
    let on = timers_after l (timers l) (2 * l.window - 1) in
    row-recorded l supply before given p _ _ _ s.window_high
    (rows-behind l supply before given (2 * l.window - 1) 1 (timers l) old_row _ _ (omega arith)
    (subst (λ n. Goes supply (rows_done l supply before n on (late l supply ∷ [])) (events old_row) (replicate 2 0) (left l supply before)) {x = 2 * l.window} {y = 1 + (2 * l.window - 1)} (omega arith)
    (old-row l supply before given on)))

pub no-shorter-wait : NoShorterWait
no-shorter-wait l e =
    record { bytes = bytes; always = always; some = some }
  where
    s : Short l
    s = short l e

    split : Parts l
    split = let t = s.times in let h = s.wait_high in record { in_air = omega arith; at_pad = omega arith; in_reply = omega arith; over = omega arith }

    bytes : are_bytes (list_of l) ≡ true
    bytes = list-bytes l split s.times

    always : (supply before : List ℕ) → all legal_cell supply ≡ true → 16 * (2 * l.window) ≤ length supply → 16 * (2 * l.window + 1) ≤ length before → RecordsAnOldRow l supply before
    always supply before legal rows space =
        let w = s.window_low in
        let sent = take (16 * (2 * l.window)) supply in
        let row = row_at supply 0 in
        let g = goes l supply before s split (record { window = s.window_low; times = s.times; legal = legal; rows = rows; space = space }) in
        let left-is : (end_of l (list_of l) supply before).buffer ≡ (sent ++ row) ++ drop 16 (drop (16 * (2 * l.window)) before) = ap (λ (x : Moved). x.buffer) g.left in
        let is : (end_of l (list_of l) supply before).buffer ≡ sent ++ (row ++ drop (16 * (2 * l.window + 1)) before)
        = left-is ∙ append_assoc sent row (drop 16 (drop (16 * (2 * l.window)) before)) ∙ ap (λ xs. sent ++ (row ++ xs)) (rows-left (2 * l.window) before) in
        record {
          answered = g.answered;
          sent = ap (λ (x : Moved). x.counts.sent) g.left;
          recorded = ap (λ (x : Moved). x.counts.recorded) g.left;
          record_is = is;
          last_row =
              ap (λ xs. row_at xs (2 * l.window)) is
              ∙ ap (take 16) (drop_at sent (row ++ drop (16 * (2 * l.window + 1)) before) (16 * (2 * l.window)) (length-take-le (16 * (2 * l.window)) supply rows))
              ∙ take_at row (drop (16 * (2 * l.window + 1)) before) 16 (length-take-le 16 supply (omega arith));
        }

    zeros : ℕ → List ℕ
    zeros n = replicate (16 * n) 0

    long : (n : ℕ) → 16 * n ≤ length (zeros n)
    long n = let same : length (zeros n) ≡ 16 * n = length-replicate (16 * n) 0 in omega arith

    whole : (n : ℕ) → length (zeros n) % 16 ≡ 0
    whole n = let same : length (zeros n) ≡ 16 * n = length-replicate (16 * n) 0 in omega arith

    some : RecordsMoreThanSent l
    some =
        let rows = zeros (2 * l.window) in
        let space = zeros (2 * l.window + 1) in
        let legal = zeros-legal (16 * (2 * l.window)) in
        let x = always rows space legal (long (2 * l.window)) (long (2 * l.window + 1)) in
        record {
          list = list_of l;
          supply = rows;
          before = space;
          bytes = bytes;
          whole_rows = whole (2 * l.window);
          legal = legal;
          long_enough = ap (all (λ n. not (eqb n 21))) x.answered ∙ answers-not-21 l;
          more = let a = x.sent in let b = x.recorded in omega arith;
        }

pub short-waits-refused : ShortWaitsRefused
unfolding wait_fits least_wait
short-waits-refused l e =
    record {
      opening = opening;
      riding =
          λ bytes supply before after answers_before answers_after r rode. rode.number
          ∙ first-stays (limits_questions l) (lent_questions bytes supply answers_before) (ap (λ n. eqb n 0) opening)
          ∙ opening;
    }
  where
    s : Short l
    s = short l e

    low : wait_fits l ≡ false
    low =
        rw (ne_eqb l.resendwait 0 (λ z. let h = s.wait_low in omega arith))
        (and-no-left _ (leb l.resendwait 1000) (lt-leb (sum_of_times l - 2) l.resendwait (let t = s.times in let h = s.wait_high in omega arith)))

    opening : first_no (limits_questions l) ≡ 3
    opening = pick_yes _ _ _ _ s.window_fits (pick_yes _ _ _ _ s.times_fit (pick_no _ _ _ _ low refl))

pub longer-waits-pass : LongerWaitsPass
unfolding least_wait
longer-waits-pass l w t e = all_pass l (record { window = w; times = t; wait = range-passes l e })

pub shown-lists : ShownLists
unfolding joined
shown-lists = record { short_wait = refl; short_wait_riding = refl; parts_of_0 = refl; in_the_air = refl }

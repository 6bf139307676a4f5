-- The mat's events: send, resend, a reply arrives, time passes.
use Rattle.std.specs.Prelude.{ℕ, ◌+◌, ◌-◌, ◌*◌, false, not, ◌&&◌, ◌||◌, List, [], ◌∷◌, ◌++◌, map, eqb, leb, ltb, length, get_or, take, drop, set}
use Rattle.limits.specs.declared.Limits.{Limits}
use Rattle.limits.specs.Lists.{tab, leading}
use Rattle.limits.specs.Cells.{legal_row}
use Rattle.limits.specs.Questions.{Question, ask}
use Rattle.limits.specs.Ring.{distance, step}
use Rattle.limits.specs.Tables.{Data, Reply, span}
use Rattle.mat.specs.Window.{Kept, MatState, outstanding, row_of, timer_place}

-- What a sending gives: the state and the message to put in the data table.
pub record Sending : Type 0 where
  pub state : MatState
  pub message : Data

-- `supply` is the cells that are left to send
abbrev pub send_questions : Limits → MatState → List ℕ → List Question
send_questions l s supply =
    ask 10 (ltb (outstanding s) l.window) ∷ ask 11 (leb 16 (length supply)) ∷ ask 12 (legal_row (take 16 supply)) ∷ []

-- the first row of the supply is kept as row next, its resend timer is set and next rises by 1
unfoldable pub sending : Limits → MatState → List ℕ → Sending
sending l s supply =
    record {
      state =
          record {
            oldest = s.oldest;
            next = step (2 * l.window) s.next 1;
            rows = s.rows ++ (record { acknowledged = false; cells = take 16 supply } ∷ []);
            timers = drop 1 s.timers ++ (l.resendwait ∷ []);
          };
      message = record { number = s.next; row = take 16 supply };
    }

abbrev pub resend_questions : Limits → MatState → ℕ → List Question
resend_questions l s k =
    ask 14 (ltb k (outstanding s))
    ∷ ask 15 (not (row_of s k).acknowledged)
    ∷ ask 16 (eqb (get_or s.timers (timer_place l.window s k) 0) 0)
    ∷ []

-- the kept row oldest + k is sent again and its resend timer set
unfoldable pub resending : Limits → MatState → ℕ → Sending
resending l s k =
    record {
      state =
          record {
            oldest = s.oldest;
            next = s.next;
            rows = s.rows;
            timers = set s.timers (timer_place l.window s k) l.resendwait;
          };
      message = record { number = step (2 * l.window) s.oldest k; row = (row_of s k).cells };
    }

-- What an arriving reply gives: the state and by how many rows oldest rose.
pub record Acknowledging : Type 0 where
  pub state : MatState
  pub passed : ℕ

-- how far the reply's first number lies on from oldest
abbrev pub start_of : Limits → MatState → Reply → ℕ
start_of l s x = distance (2 * l.window) s.oldest x.first

abbrev pub acknowledge_questions : Limits → MatState → Reply → List Question
acknowledge_questions l s x = ask 19 (leb (start_of l s x + span l.window x) (outstanding s)) ∷ []

-- the rows from number `from` on, `count` of them, marked; `from` is counted from the oldest as 0
unfoldable pub marked : ℕ → ℕ → MatState → List Kept
marked from count s =
    tab (outstanding s)
    (λ k. record { acknowledged = (row_of s k).acknowledged || (leb from k && ltb k (from + count)); cells = (row_of s k).cells })

-- the rows are marked, and oldest passes every marked number
unfoldable pub passing : Limits → MatState → ℕ → ℕ → Acknowledging
passing l s from count =
    let passed = leading (λ (k : Kept). k.acknowledged) (marked from count s) in
    record {
      state =
          record {
            oldest = step (2 * l.window) s.oldest passed;
            next = s.next;
            rows = drop passed (marked from count s);
            timers = s.timers;
          };
      passed = passed;
    }

-- all numbers from first to last
abbrev pub acknowledging : Limits → MatState → Reply → Acknowledging
acknowledging l s x = passing l s (start_of l s x) (span l.window x)

-- every resend timer falls by d and stops at 0
unfoldable pub ticked : ℕ → MatState → MatState
ticked d s = record { oldest = s.oldest; next = s.next; rows = s.rows; timers = map (λ t. t - d) s.timers }

-- The limits of a link, in ticks, and questions 1 to 3.
use Rattle.std.specs.Prelude.{ℕ, ◌+◌, ◌-◌, Bool, not, ◌&&◌, ◌||◌, List, [], ◌∷◌, eqb, leb}
use Rattle.limits.specs.declared.Limits.{Limits}
use Rattle.limits.specs.Questions.{pick, Question, ask, first_no}

abbrev pub between : ℕ → ℕ → ℕ → Bool
between low high x = leb low x && leb x high

abbrev pub sum_of_times : Limits → ℕ
sum_of_times l = l.datalife + l.replylife + l.replywait

-- the shortest resend wait that question 3 takes, besides 0, and what a 0 stands for
unfoldable pub least_wait : Limits → ℕ
least_wait l = sum_of_times l - 2

unfoldable pub window_fits : ℕ → Bool
window_fits w = between 1 32 w

unfoldable pub times_fit : Limits → Bool
times_fit l = between 1 250 l.datalife && (between 1 250 l.replylife && between 1 250 l.replywait)

unfoldable pub wait_fits : Limits → Bool
wait_fits l = eqb l.resendwait 0 || between (least_wait l) 1000 l.resendwait

abbrev pub limits_questions : Limits → List Question
limits_questions l = ask 1 (window_fits l.window) ∷ ask 2 (times_fit l) ∷ ask 3 (wait_fits l) ∷ []

-- the limits that a link is opened with, where those asked for pass the questions
unfoldable pub accepted : Limits → Limits
accepted l =
    record {
      window = l.window;
      datalife = l.datalife;
      replylife = l.replylife;
      replywait = l.replywait;
      resendwait = pick (eqb l.resendwait 0) (least_wait l) l.resendwait;
    }

abbrev pub zero_limits : Limits
zero_limits = record { window = 0; datalife = 0; replylife = 0; replywait = 0; resendwait = 0 }

-- question 4 of limits: no question of an opening refuses them, and the wait is set
unfoldable pub sound_limits : Limits → Bool
sound_limits l = eqb (first_no (limits_questions l)) 0 && not (eqb l.resendwait 0)

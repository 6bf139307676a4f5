-- What a resend wait of 0 stands for, and that question 4 lets pass the limits that an opening returns, and no others.
use Rattle.std.specs.Prelude.{ℕ, ◌-◌, ◌≡◌, ◌≤◌, true}
use Rattle.limits.specs.declared.Limits.{Limits}
use Rattle.limits.specs.Questions.{first_no}
use Rattle.limits.specs.Limits.{sum_of_times, window_fits, times_fit, limits_questions, accepted, sound_limits}

-- limits with another resend wait
abbrev pub with_wait : Limits → ℕ → Limits
with_wait l r = record { window = l.window; datalife = l.datalife; replylife = l.replylife; replywait = l.replywait; resendwait = r }

-- an opening with `asked` returns `l`
abbrev pub Opens : Limits → Limits → Type 0
Opens asked l = (first_no (limits_questions asked) ≡ 0) × (accepted asked ≡ l)

-- A wait of 0 stands for the times' sum less 2. That one can be written out, too; it is not 0, and no shorter one from 1 on passes.
pub record Shortest (l : Limits) : Type 0 where
  pub left_at_0 : Opens (with_wait l 0) (with_wait l (sum_of_times l - 2))
  pub written_out : Opens (with_wait l (sum_of_times l - 2)) (with_wait l (sum_of_times l - 2))
  pub not_0 : 1 ≤ sum_of_times l - 2
  pub none_shorter : (r : ℕ) → 1 ≤ r → first_no (limits_questions (with_wait l r)) ≡ 0 → sum_of_times l - 2 ≤ r

abbrev pub WaitOf0 : Type 0
WaitOf0 = (l : Limits) → window_fits l.window ≡ true → times_fit l ≡ true → Shortest l

-- Limits that an opening returns pass question 4. Limits that pass it open, and are returned as they are.
pub record AsOpened (l : Limits) : Type 0 where
  pub sound : first_no (limits_questions l) ≡ 0 → sound_limits (accepted l) ≡ true
  pub no_others : sound_limits l ≡ true → Opens l l

abbrev pub SoundAsOpened : Type 0
SoundAsOpened = (l : Limits) → AsOpened l

-- A resend wait of 0 stands for the least one, and limits that pass question 4 are those that an opening returns.
use Prim.Native.Nat.{◌-◌}
use mathlib.Core.Path.{◌≡◌, refl}
use native.Mathlib.Omega.{arith}
use borrow.Author.Tests.{ne_eqb}
use Rattle.limits.specs.Questions.{pick, first_no}
use Rattle.limits.specs.Limits.{sum_of_times, times_fit, wait_fits, least_wait, limits_questions, accepted}
use Rattle.limits.specs.Waits.{with_wait, WaitOf0, SoundAsOpened}
use Rattle.limits.proofs.Laws.Good.{passes, all_pass, times, between-low, wait-range, least-not-0, sound-parts, accepted-sound}

pub sound-as-opened : SoundAsOpened
unfolding accepted pick
sound-as-opened l =
    record {
      sound = accepted-sound l;
      no_others = λ e. let s = sound-parts l e in (s.0, rw s.1);
    }

pub wait-of-0 : WaitOf0
unfolding accepted pick wait_fits least_wait times_fit
wait-of-0 l w t =
    record {
      left_at_0 = (opens, refl);
      written_out = (sound-as-opened (with_wait l (sum_of_times l - 2))).no_others (accepted-sound (with_wait l 0) opens);
      not_0 = least-not-0 l (times l t);
      none_shorter =
          λ r some e. between-low (least_wait l) 1000 r
          (wait-range (with_wait l r) (passes (with_wait l r) e).wait (ne_eqb r 0 (λ z. omega arith)));
    }
  where
    opens : first_no (limits_questions (with_wait l 0)) ≡ 0
    opens = all_pass (with_wait l 0) (record { window = w; times = t; wait = refl })

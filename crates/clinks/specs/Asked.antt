-- The numbers that a program in C asks for: limits, and how much time passes.
use Rattle.std.specs.Prelude.{ℕ, leb, Result, Ok, Err}
use Rattle.limits.specs.declared.answer.Refusal.{Refusal}
use Rattle.limits.specs.declared.Limits.{Limits}
use Rattle.limits.specs.Limits.{zero_limits}
use Rattle.limits.specs.Questions.{pick}

-- A limit or a time is a 32-bit number here. One above 65535 is taken as 65535: every question of a limit refuses both, and no timer is
-- longer than either.
unfoldable pub capped : ℕ → ℕ
capped x = pick (leb x 65535) x 65535

unfoldable pub asked : ℕ → ℕ → ℕ → ℕ → ℕ → Limits
asked window datalife replylife replywait resendwait =
    record {
      window = capped window;
      datalife = capped datalife;
      replylife = capped replylife;
      replywait = capped replywait;
      resendwait = capped resendwait;
    }

-- An opening stores the limits that it accepts, or zeros where it is refused.
abbrev pub limits_or_zeros : Result Limits Refusal → Limits
limits_or_zeros (Ok l) = l
limits_or_zeros (Err refusal) = zero_limits

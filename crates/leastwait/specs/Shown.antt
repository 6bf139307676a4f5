-- The list for some limits, byte by byte. The rides short-wait and short-wait-riding are the first two in words.
use Rattle.std.specs.Prelude.{ℕ, ◌≡◌, [], ◌∷◌}
use Rattle.limits.specs.declared.Limits.{Limits}
use Rattle.leastwait.specs.NoShorterWait.{list_of}

abbrev pub limits : ℕ → ℕ → ℕ → ℕ → ℕ → Limits
limits w d l q r = record { window = w; datalife = d; replylife = l; replywait = q; resendwait = r }

pub record ShownLists : Type 0 where
  pub short_wait : list_of (limits 1 2 2 2 3) ≡ 1 ∷ 0 ∷ 8 ∷ 1 ∷ 3 ∷ 0 ∷ 8 ∷ 1 ∷ 4 ∷ 0 ∷ 8 ∷ 1 ∷ 2 ∷ 0 ∷ 5 ∷ 0 ∷ 1 ∷ 0 ∷ 3 ∷ 1 ∷ 4 ∷ 0 ∷ 5 ∷ 0 ∷ 3 ∷ 0 ∷ 4 ∷ 0 ∷ []
  pub short_wait_riding : list_of (limits 2 5 5 3 10) ≡ 1 ∷ 0 ∷ 8 ∷ 4 ∷ 3 ∷ 0 ∷ 8 ∷ 2 ∷ 4 ∷ 0 ∷ 8 ∷ 4 ∷ 2 ∷ 0 ∷ 5 ∷ 0 ∷ 1 ∷ 0 ∷ 3 ∷ 1 ∷ 4 ∷ 0 ∷ 5 ∷ 0 ∷ 1 ∷ 0 ∷ 3 ∷ 1 ∷ 4 ∷ 0 ∷ 5 ∷ 0 ∷ 1 ∷ 0 ∷ 3 ∷ 1 ∷ 4 ∷ 0 ∷ 5 ∷ 0 ∷ 3 ∷ 0 ∷ 4 ∷ 0 ∷ []
  -- parts of 0, and a wait that is over while row 0 is in the air
  pub parts_of_0 : list_of (limits 1 2 1 1 1) ≡ 1 ∷ 0 ∷ 8 ∷ 1 ∷ 3 ∷ 0 ∷ 8 ∷ 0 ∷ 4 ∷ 0 ∷ 8 ∷ 0 ∷ 2 ∷ 0 ∷ 5 ∷ 0 ∷ 1 ∷ 0 ∷ 3 ∷ 1 ∷ 4 ∷ 0 ∷ 5 ∷ 0 ∷ 3 ∷ 0 ∷ 4 ∷ 0 ∷ []
  pub in_the_air : list_of (limits 1 9 9 1 3) ≡ 1 ∷ 0 ∷ 8 ∷ 3 ∷ 3 ∷ 0 ∷ 8 ∷ 0 ∷ 4 ∷ 0 ∷ 8 ∷ 0 ∷ 2 ∷ 0 ∷ 5 ∷ 0 ∷ 1 ∷ 0 ∷ 3 ∷ 1 ∷ 4 ∷ 0 ∷ 5 ∷ 0 ∷ 3 ∷ 0 ∷ 4 ∷ 0 ∷ []

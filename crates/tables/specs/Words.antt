-- A table of messages as an array of words: message p stands at width * p, its life first and behind it what it carries.
use Rattle.std.specs.Prelude.{ℕ, ◌+◌, ◌-◌, ◌*◌, ◌≤◌, ◌<◌, ◌≡◌, Bool, List, ltb, length, get_or}
use Rattle.limits.specs.Lists.{tab}
use Rattle.limits.specs.Tables.{Message, aged}

-- the message whose word k is `word k`
unfoldable pub entry : ℕ → (ℕ → ℕ) → Message (List ℕ)
entry width word = record { body = tab (width - 1) (λ k. word (k + 1)); life = word 0 }

-- a message handed in as its words
abbrev pub message_of : ℕ → List ℕ → Message (List ℕ)
message_of width words = entry width (λ k. get_or words k 0)

-- message p of a table
abbrev pub message_at : ℕ → List ℕ → ℕ → Message (List ℕ)
message_at width words p = entry width (λ k. get_or words (width * p + k) 0)

-- the first `count` messages; what stands behind them is free
unfoldable pub messages : ℕ → ℕ → List ℕ → List (Message (List ℕ))
messages width count words = tab count (message_at width words)

abbrev pub outlives : {B : Type 0} → ℕ → Message B → Bool
outlives d m = ltb d m.life

-- the messages from place `from` to before place `to` have d less of life, and all other words are as they were
pub record Lowered (width d from to : ℕ) (old new : List ℕ) : Type 0 where
  pub size : length new ≡ length old
  pub low : (k : ℕ) → k < width * from → get_or new k 0 ≡ get_or old k 0
  pub done : (p : ℕ) → from ≤ p → p < to → message_at width new p ≡ aged d (message_at width old p)
  pub rest : (k : ℕ) → width * to ≤ k → get_or new k 0 ≡ get_or old k 0

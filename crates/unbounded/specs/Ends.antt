-- The state of the unbounded ends. Numbers grow without end and tables have no limit.
use Rattle.std.specs.Prelude.{ℕ, ◌+◌, Bool, false, ◌&&◌, List, [], eqb, ltb}
use Rattle.limits.specs.Lists.{tab, leading}
use Rattle.limits.specs.Questions.{pick}
use Rattle.limits.specs.Tables.{Message, Data, Reply}

-- `oldest` is the first unacknowledged number, `next` the one to be sent, `wanted` the first that is not recorded. For every
-- number: at the mat a mark, a resend timer and the kept row; at the pad a mark, a reply timer and the held row.
pub record Ends : Type 0 where
  pub oldest : ℕ
  pub next : ℕ
  pub wanted : ℕ
  pub acknowledged : ℕ → Bool
  pub resend_timer : ℕ → ℕ
  pub kept_row : ℕ → List ℕ
  pub held : ℕ → Bool
  pub reply_timer : ℕ → ℕ
  pub held_row : ℕ → List ℕ
  pub data_table : List (Message Data)
  pub reply_table : List (Message Reply)
  pub recorded : List ℕ

abbrev pub fresh : Ends
fresh =
    record {
      oldest = 0;
      next = 0;
      wanted = 0;
      acknowledged = λ m. false;
      resend_timer = λ m. 0;
      kept_row = λ m. [];
      held = λ m. false;
      reply_timer = λ m. 0;
      held_row = λ m. [];
      data_table = [];
      reply_table = [];
      recorded = [];
    }

-- `f` with `v` at number m
unfoldable pub at : {A : Type 0} → ℕ → A → (ℕ → A) → ℕ → A
at m v f k = pick (eqb k m) v (f k)

-- row m is held with a reply timer above 0
abbrev pub ready : Ends → ℕ → Bool
ready s m = s.held m && ltb 0 (s.reply_timer m)

-- the longest run of ready rows from wanted on, at most w
abbrev pub run : ℕ → Ends → ℕ
run w s = leading (ready s) (tab w (λ i. s.wanted + i))

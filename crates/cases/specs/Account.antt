-- The account of a list in which messages of both tables arrive, are lost and are dropped, and one event is refused, as the rules give it.
use Rattle.std.specs.Prelude.{ℕ, ◌≡◌, List, [], ◌∷◌, ◌++◌, replicate}
use Rattle.limits.specs.Events.{events}
use Rattle.events.specs.Counts.{Account}
use Rattle.events.specs.Account.{data_account, reply_account}
use Rattle.lists.specs.Runs.{answers}
use Rattle.lists.specs.Account.{account}
use Rattle.cases.specs.Torn.{row, start}

-- A row is sent, lost, sent again and arrives; its reply is dropped. It is sent again and is old; that reply is lost. Once more, and the
-- reply arrives. A second row is sent and dropped. The seventh event finds no message.
abbrev pub list : List ℕ
list =
    1 ∷ 0 ∷ 6 ∷ 0 ∷ 8 ∷ 4 ∷ 2 ∷ 0 ∷ 3 ∷ 0 ∷ 4 ∷ 0 ∷ 3 ∷ 0 ∷ 8 ∷ 1 ∷ 8 ∷ 3
    ∷ 2 ∷ 0 ∷ 3 ∷ 0 ∷ 7 ∷ 0 ∷ 8 ∷ 4 ∷ 2 ∷ 0 ∷ 3 ∷ 0 ∷ 5 ∷ 0 ∷ 1 ∷ 0 ∷ 8 ∷ 2 ∷ []

abbrev pub answered : ℕ → List ℕ
answered w = answers (row ++ row) (start w) (events list)

abbrev pub data_told : ℕ → Account
data_told w = account data_account (row ++ row) (start w) (events list)

abbrev pub replies_told : ℕ → Account
replies_told w = account reply_account (row ++ row) (start w) (events list)

pub record AccountOfList (w : ℕ) : Type 0 where
  pub answers_are : answered w ≡ replicate 6 0 ++ (17 ∷ replicate 11 0)
  pub datas : data_told w ≡ record { put = 5; arrived = 3; lost = 1; dropped = 1 }
  pub replies : replies_told w ≡ record { put = 3; arrived = 1; lost = 1; dropped = 1 }

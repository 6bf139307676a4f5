-- What the functions for C promise: the number they return, and the whole contents at exit of everything that is lent.
use Rattle.std.specs.Prelude.{ℕ, ◌%◌, ◌*◌, ◌≡◌, ◌&&◌, List, [], ◌∷◌, ◌++◌, leb, drop, Result, Ok, Err}
use Rattle.limits.specs.declared.answer.Refusal.{Refusal}
use Rattle.events.specs.declared.Link.{Link}
use Rattle.limits.specs.declared.Limits.{Limits}
use Rattle.limits.specs.Answer.{number_of}
use Rattle.limits.specs.Limits.{zero_limits}
use Rattle.limits.specs.Questions.{pick}
use Rattle.events.specs.declared.Counts.{Counts}
use Rattle.events.specs.Counts.{Account, risen}
use Rattle.runs.specs.View.{Stepped, Ran}
use Rattle.link.specs.View.{fresh_link, Opened}
use Rattle.agreement.specs.Calls.{Made, Line, following, Met}
use Rattle.ride.specs.Ride.{Rode}
use Rattle.clinks.specs.Links.{CLink, link_at, stored}

-- An opening stores the link that it gives: fresh, or of zeros where it is refused.
abbrev pub link_or_zeros : Result Link Refusal → Link
link_or_zeros (Ok k) = k
link_or_zeros (Err refusal) = fresh_link zero_limits

pub record OpenCall (l : Limits) (after : CLink) (r : ℕ) : Type 0 where
  pub opening : Result Link Refusal
  pub promise : Opened l opening
  pub number : r ≡ number_of opening
  pub left : after ≡ stored (link_or_zeros opening)

abbrev pub account_list : Account → List ℕ
account_list a = a.put ∷ a.arrived ∷ a.lost ∷ a.dropped ∷ []

-- the rows, the data table's account, the reply table's account
abbrev pub counts_list : Counts → List ℕ
counts_list n = n.sent ∷ n.acknowledged ∷ n.recorded ∷ (account_list n.datas ++ account_list n.replies)

-- What a call leaves of a link in C whose answer was `answer` and whose link `k`: the counts, and where it was done the new link;
-- where it was refused everything is as before.
pub record Leaves (k : Link) (answer : Result Counts Refusal) (before after : CLink) (counts : List ℕ) (r : ℕ) : Type 0 where
  pub number : r ≡ number_of answer
  pub told : counts ≡ counts_list (risen answer)
  pub done : r ≡ 0 → after ≡ stored k
  pub kept : (r ≡ 0 → ⊥) → (after ≡ before) × (k ≡ link_at before)

-- A call in place gives what the link's own call promises of the link that is kept.
pub record InPlace (call : Link → Result Counts Refusal → Type 0) (before after : CLink) (counts : List ℕ) (r : ℕ) : Type 0 where
  pub link : Link
  pub answer : Result Counts Refusal
  pub promise : call link answer
  pub leaves : Leaves link answer before after counts r

-- An event is two bytes. A kind or an argument that is no byte makes it an unknown event: 8.
unfoldable pub kind_of : ℕ → ℕ → ℕ
kind_of kind argument = pick (leb kind 255 && leb argument 255) kind 0

abbrev pub StepCall : ℕ → ℕ → List ℕ → List ℕ → List ℕ → CLink → CLink → List ℕ → ℕ → Type 0
StepCall kind argument supply buffer buffer' before after counts r =
    InPlace (Stepped (link_at before) (kind_of kind argument) (argument % 256) supply buffer buffer') before after counts r

abbrev pub RunCall : List ℕ → List ℕ → List ℕ → List ℕ → List ℕ → List ℕ → CLink → CLink → List ℕ → ℕ → Type 0
RunCall events supply buffer buffer' answers answers' before after counts r =
    InPlace (Ran (link_at before) events supply buffer buffer' answers answers') before after counts r

-- a ride by ride's own promise
pub record RideCall (l : Limits) (events supply buffer buffer' answers answers' counts : List ℕ) (r : ℕ) : Type 0 where
  pub answer : Result Counts Refusal
  pub promise : Rode l events supply buffer buffer' answers answers' answer
  pub number : r ≡ number_of answer
  pub told : counts ≡ counts_list (risen answer)

-- A call from C in a list of them: what was called and what it gave, the link that it left, its counts and its number.
pub record CCall : Type 0 where
  pub made : Made
  pub left : CLink
  pub counts : List ℕ
  pub number : ℕ

-- every call of the list met its contract: each works on the link that the one before it left
abbrev pub CChain : List ℕ → Line → CLink → List CCall → Type 0
CChain supply x s [] = Unit {0}
CChain supply x s (c ∷ cs) =
    Met (link_at s) (drop (16 * x.counts.sent) supply) (drop (16 * x.counts.recorded) x.buffer) c.made c.made.call
    × Leaves c.made.link c.made.result s c.left c.counts c.number
    × CChain supply (following x c.made) c.left cs

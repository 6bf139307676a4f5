-- Counts added up: what each kind of event adds.
use Prim.Native.Nat.{ℕ, ◌+◌}
use mathlib.Core.Path.{◌≡◌, refl, ◌∙◌, ap}
use mathlib.Core.Bool.{Bool, true, false}
use native.Mathlib.Omega.{arith}
use Rattle.limits.specs.Questions.{pick}
use Rattle.events.specs.declared.Counts.{Counts}
use Rattle.events.specs.State.{Rows, no_rows, one_sent, acknowledged_by, recorded_by, more_rows}
use Rattle.events.specs.Counts.{Account, no_account, one_put, one_arrived, one_lost, dropped_by, more_messages, counts_of, rows_of, no_counts, added}

rows-sum : (a b c : Rows) → c.sent ≡ a.sent + b.sent → c.acknowledged ≡ a.acknowledged + b.acknowledged → c.recorded ≡ a.recorded + b.recorded
    → c ≡ more_rows a b
rows-sum a b c s k r = λ i. record { sent = s i; acknowledged = k i; recorded = r i }

account-sum : (a b c : Account) → c.put ≡ a.put + b.put → c.arrived ≡ a.arrived + b.arrived → c.lost ≡ a.lost + b.lost
    → c.dropped ≡ a.dropped + b.dropped → c ≡ more_messages a b
account-sum a b c p q r s = λ i. record { put = p i; arrived = q i; lost = r i; dropped = s i }

pub account-assoc : (a b c : Account) → more_messages (more_messages a b) c ≡ more_messages a (more_messages b c)
account-assoc a b c =
    let a0 = a.put in let a1 = a.arrived in let a2 = a.lost in let a3 = a.dropped in
    let b0 = b.put in let b1 = b.arrived in let b2 = b.lost in let b3 = b.dropped in
    let c0 = c.put in let c1 = c.arrived in let c2 = c.lost in let c3 = c.dropped in
    account-sum a (more_messages b c) (more_messages (more_messages a b) c) (omega arith) (omega arith) (omega arith) (omega arith)

pub counts-sum : (n n' : Counts) (r : Rows) (a b : Account) → rows_of n' ≡ more_rows (rows_of n) r → n'.datas ≡ more_messages n.datas a
    → n'.replies ≡ more_messages n.replies b → n' ≡ added n (counts_of r a b)
counts-sum n n' r a b p q s = λ i. counts_of (p i) (q i) (s i)

module _ (n : Rows) where
  pub same-rows : n ≡ more_rows n no_rows
  same-rows =
      let s = n.sent in let k = n.acknowledged in let r = n.recorded in
      rows-sum n no_rows n (omega arith) (omega arith) (omega arith)

  pub row-sent : record { sent = n.sent + 1; acknowledged = n.acknowledged; recorded = n.recorded } ≡ more_rows n one_sent
  row-sent =
      let k = n.acknowledged in let r = n.recorded in
      rows-sum n one_sent _ refl (omega arith) (omega arith)

  pub rows-acknowledged : (k x : ℕ) → k ≡ x → record { sent = n.sent; acknowledged = n.acknowledged + k; recorded = n.recorded } ≡ more_rows n (acknowledged_by x)
  rows-acknowledged k x e =
      let s = n.sent in let r = n.recorded in
      rows-sum n (acknowledged_by x) _ (omega arith) (ap (n.acknowledged +◌) e) (omega arith)

  pub rows-recorded : (r x : ℕ) → r ≡ x → record { sent = n.sent; acknowledged = n.acknowledged; recorded = n.recorded + r } ≡ more_rows n (recorded_by x)
  rows-recorded r x e =
      let s = n.sent in let k = n.acknowledged in
      rows-sum n (recorded_by x) _ (omega arith) (omega arith) (ap (n.recorded +◌) e)

module _ (a : Account) where
  pub same-account : a ≡ more_messages a no_account
  same-account =
      let p = a.put in let q = a.arrived in let r = a.lost in let s = a.dropped in
      account-sum a no_account a (omega arith) (omega arith) (omega arith) (omega arith)

  pub message-put : record { put = a.put + 1; arrived = a.arrived; lost = a.lost; dropped = a.dropped } ≡ more_messages a one_put
  message-put =
      let q = a.arrived in let r = a.lost in let s = a.dropped in
      account-sum a one_put _ refl (omega arith) (omega arith) (omega arith)

  pub message-arrived : record { put = a.put; arrived = a.arrived + 1; lost = a.lost; dropped = a.dropped } ≡ more_messages a one_arrived
  message-arrived =
      let p = a.put in let r = a.lost in let s = a.dropped in
      account-sum a one_arrived _ (omega arith) refl (omega arith) (omega arith)

  pub message-lost : record { put = a.put; arrived = a.arrived; lost = a.lost + 1; dropped = a.dropped } ≡ more_messages a one_lost
  message-lost =
      let p = a.put in let q = a.arrived in let s = a.dropped in
      account-sum a one_lost _ (omega arith) (omega arith) refl (omega arith)

  pub messages-dropped : (d x : ℕ) → d ≡ x → record { put = a.put; arrived = a.arrived; lost = a.lost; dropped = a.dropped + d } ≡ more_messages a (dropped_by x)
  messages-dropped d x e =
      let p = a.put in let q = a.arrived in let r = a.lost in
      account-sum a (dropped_by x) _ (omega arith) (omega arith) (omega arith) (ap (a.dropped +◌) e)

  -- a reply is put for an old row, and for no other
  pub reply-put : (old : Bool) → true ≡ old → record { put = a.put + 1; arrived = a.arrived; lost = a.lost; dropped = a.dropped } ≡ more_messages a (pick old one_put no_account)
  unfolding pick
  reply-put old e = message-put ∙ ap (λ b. more_messages a (pick b one_put no_account)) e

  pub no-reply-put : (old : Bool) → false ≡ old → a ≡ more_messages a (pick old one_put no_account)
  unfolding pick
  no-reply-put old e = same-account ∙ ap (λ b. more_messages a (pick b one_put no_account)) e

pub from-none : (a : Account) → a ≡ more_messages no_account a
from-none a =
    let p = a.put in let q = a.arrived in let r = a.lost in let s = a.dropped in
    account-sum no_account a a (omega arith) (omega arith) (omega arith) (omega arith)

pub none-added : (n : Counts) → n ≡ added no_counts n
none-added n =
    let s = n.sent in let k = n.acknowledged in let r = n.recorded in
    counts-sum no_counts n (rows_of n) n.datas n.replies (rows-sum no_rows (rows_of n) (rows_of n) (omega arith) (omega arith) (omega arith))
    (from-none n.datas) (from-none n.replies)

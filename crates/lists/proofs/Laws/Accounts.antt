-- One table's account of a list: it balances, and puts no more messages than there are events.
use Prim.Native.Nat.{ℕ, ◌+◌, ◌≤◌, ◌<◌}
use mathlib.Core.Path.{◌≡◌, ◌∙◌, ap}
use mathlib.Core.List.{List, [], ◌∷◌}
use native.Mathlib.Omega.{arith}
use lib.ListN.{length}
use Rattle.limits.specs.Events.{Event}
use Rattle.events.specs.State.{LinkState, Moved}
use Rattle.events.specs.Counts.{Account, more_messages, Balances}
use Rattle.events.specs.Rules.{stepped}
use Rattle.events.specs.Account.{if_done}
use Rattle.events.specs.View.{AccountRoom}
use Rattle.events.proofs.Laws.Sums.{account-assoc}
use Rattle.events.proofs.Laws.Balancing.{OneEvent, balances-on}
use Rattle.lists.specs.Runs.{supply_left, buffer_left, continued, next, after_all}
use Rattle.lists.specs.Account.{account}

module _ (of_event : LinkState → Event → Account) (size : LinkState → ℕ)
    (each : (supply buffer : List ℕ) (s : LinkState) (e : Event) → OneEvent (size s) (if_done supply buffer s e (of_event s e)) (size (stepped supply buffer s e).state))
    (supply : List ℕ) where
  pub balances : (x : Moved) (es : List Event) → Balances (size x.state) (account of_event supply x es) (size (after_all supply x es).state)
  unfolding account after_all next continued
  balances x [] = let n = size x.state in omega arith
  balances x (e ∷ es) =
      balances-on _ _ _ _ _ (each (supply_left supply x) (buffer_left x) x.state e).balances (balances (next supply x e) es)

  pub puts : (x : Moved) (es : List Event) → (account of_event supply x es).put ≤ length es
  unfolding account
  puts x [] = omega arith
  puts x (e ∷ es) =
      let f = (each (supply_left supply x) (buffer_left x) x.state e).puts in
      let r = puts (next supply x e) es in
      omega arith

  -- what is counted so far has room where the list and the tables are short
  pub room : (x : Moved) (es : List Event) (a b : Account) → more_messages a b ≡ account of_event supply x es → size x.state ≤ 32
      → length es + 64 < 18446744073709551616 → AccountRoom a
  room x es a b e few short =
      let p = ap (λ (c : Account). c.put) e in
      let q = ap (λ (c : Account). c.arrived) e in
      let r = ap (λ (c : Account). c.lost) e in
      let s = ap (λ (c : Account). c.dropped) e in
      let t = puts x es in
      let u = balances x es in
      let left = size (after_all supply x es).state in
      (omega arith, omega arith, omega arith, omega arith)

-- an event more is counted
pub one-more : (of_event : LinkState → Event → Account) (supply : List ℕ) (x y : Moved) (e : Event) (es : List Event) (a a' whole : Account)
    → a' ≡ more_messages a (if_done (supply_left supply x) (buffer_left x) x.state e (of_event x.state e)) → y ≡ next supply x e
    → more_messages a (account of_event supply x (e ∷ es)) ≡ whole → more_messages a' (account of_event supply y es) ≡ whole
unfolding account
one-more of_event supply x y e es a a' whole p q h =
    ap (λ c. more_messages c (account of_event supply y es)) p
    ∙ ap (λ z. more_messages (more_messages a (if_done (supply_left supply x) (buffer_left x) x.state e (of_event x.state e))) (account of_event supply z es)) q
    ∙ account-assoc a _ (account of_event supply (next supply x e) es)
    ∙ h

-- The rows of the list: the first one, those behind it, and the old one.
use Prim.Native.Nat.{ℕ, zero, suc, ◌+◌, ◌*◌, ◌≤◌, ◌<◌}
use mathlib.Core.Path.{◌≡◌, refl, sym, ◌∙◌, ap, ap₂, subst}
use mathlib.Core.Bool.{true}
use mathlib.Core.List.{List, [], ◌∷◌, ◌++◌}
use native.Mathlib.Omega.{arith}
use native.Mathlib.Nat.{mod-eq_of_lt}
use lib.ListN.{length, take, drop, replicate, length-drop}
use lib.Seq.{length-take-le}
use Rattle.limits.specs.declared.Limits.{Limits}
use Rattle.limits.specs.Lists.{all, joined}
use Rattle.limits.specs.Cells.{legal_cell, row_at}
use Rattle.limits.specs.Questions.{pick}
use Rattle.limits.specs.Tables.{Message, Data, remove}
use Rattle.limits.specs.Events.{Event, send, arrive_data, reply, arrive_reply, event, events}
use Rattle.limits.proofs.Laws.Good.{Times}
use Rattle.limits.proofs.Laws.Ring.{mod-once}
use Rattle.events.specs.State.{LinkState, Moved}
use Rattle.leastwait.specs.NoShorterWait.{further_row, old_row}
use Rattle.leastwait.proofs.Laws.Goes.{reached, Does, leaves, Goes, none, and-then}
use Rattle.leastwait.proofs.Laws.Forms.{idle, out, free, held, data_message, reply_message, link_of}
use Rattle.leastwait.proofs.Laws.Supply.{number, rows-taken, rows-left}
use Rattle.leastwait.proofs.Laws.Events.{sends, arrives, replies-to, acknowledges}

-- what the list is run with
pub record Given (l : Limits) (supply before : List ℕ) : Type 0 where
  pub window : 1 ≤ l.window
  pub times : Times l
  pub legal : all legal_cell supply ≡ true
  pub rows : 16 * (2 * l.window) ≤ length supply
  pub space : 16 * (2 * l.window + 1) ≤ length before

-- the second message of row 0
abbrev pub late : Limits → List ℕ → Message Data
late l supply = data_message (number l 0) (row_at supply 0) l.datalife

-- n rows were sent, recorded and acknowledged
abbrev pub rows_done : Limits → List ℕ → List ℕ → ℕ → List ℕ → List (Message Data) → Moved
rows_done l supply before n timers datas =
    reached (link_of l (idle (number l n) timers) (free l.window (number l n)) datas []) n n n (take (16 * n) supply) (drop (16 * n) before)

abbrev pub timers_on : Limits → List ℕ → List ℕ
timers_on l timers = drop 1 timers ++ (l.resendwait ∷ [])

abbrev pub timers_after : Limits → List ℕ → ℕ → List ℕ
timers_after l timers zero = timers
timers_after l timers (suc k) = timers_after l (timers_on l timers) k

-- the second message of row 0 has arrived, and is replied to
abbrev pub old_held : Limits → List ℕ → List ℕ → List ℕ → Moved
old_held l supply before timers =
    reached
    (link_of l (idle (number l (2 * l.window)) timers) (held l.window (number l (2 * l.window)) l.replywait (row_at supply 0)) [] [])
    (2 * l.window) (2 * l.window) (2 * l.window) (take (16 * (2 * l.window)) supply) (drop (16 * (2 * l.window)) before)

abbrev pub old_recorded : Limits → List ℕ → List ℕ → List ℕ → Moved
old_recorded l supply before timers =
    reached
    (link_of l (idle (number l (2 * l.window)) timers) (free l.window (number l (2 * l.window + 1))) [] (reply_message (number l (2 * l.window)) l.replylife ∷ []))
    (2 * l.window) (2 * l.window) (2 * l.window + 1) (take (16 * (2 * l.window)) supply ++ row_at supply 0) (drop 16 (drop (16 * (2 * l.window)) before))

module _ (l : Limits) (supply before : List ℕ) (given : Given l supply before) where
  pub written-fits : (n : ℕ) → n ≤ 2 * l.window → length (take (16 * n) supply) ≡ 16 * n
  written-fits n h = length-take-le (16 * n) supply (let r = given.rows in omega arith)

  -- what stands in the record once row n is recorded
  recorded-on : (n : ℕ) (s : LinkState) → reached s (n + 1) (n + 1) (n + 1) (take (16 * n) supply ++ row_at supply n) (drop 16 (drop (16 * n) before))
      ≡ reached s (n + 1) (n + 1) (n + 1) (take (16 * (n + 1)) supply) (drop (16 * (n + 1)) before)
  recorded-on n s = ap₂ (reached s (n + 1) (n + 1) (n + 1)) (rows-taken n supply) (rows-left n before)

  more-fits : (n : ℕ) → n < 2 * l.window → length (take (16 * n) supply ++ row_at supply n) ≡ 16 * (n + 1)
  more-fits n h = ap length (rows-taken n supply) ∙ written-fits (n + 1) (omega arith)

  space-left : (n : ℕ) → n ≤ 2 * l.window → 16 ≤ length (drop (16 * n) before)
  space-left n h = let d = length-drop (16 * n) before in let s = given.space in omega arith

  -- one row more
  further : (n : ℕ) (timers : List ℕ) (es : List Event) (ns : List ℕ) (z : Moved) → n < 2 * l.window
      → Goes supply (rows_done l supply before (n + 1) (timers_on l timers) (late l supply ∷ [])) es ns z
      → Goes supply (rows_done l supply before n timers (late l supply ∷ [])) (send ∷ arrive_data 1 ∷ reply ∷ arrive_reply 0 ∷ es) (0 ∷ 0 ∷ 0 ∷ 0 ∷ ns) z
  unfolding remove
  further n timers es ns z h g =
      let row = row_at supply n in
      let f = written-fits n (omega arith) in
      and-then supply _ _ _ send _ _ _
      (sends l given.window supply (take (16 * n) supply) (drop (16 * n) before) n n n f n timers (free l.window (number l n)) (late l supply ∷ []) [] (let r = given.rows in omega arith) given.legal refl)
      (and-then supply _ _ _ (arrive_data 1) _ _ _
      (arrives l given.window supply (take (16 * n) supply) (drop (16 * n) before) (n + 1) n n f n 1 l.datalife row
      (out (number l n) (number l (n + 1)) row (timers_on l timers)) (late l supply ∷ data_message (number l n) row l.datalife ∷ []) (late l supply ∷ []) [] refl refl refl)
      (and-then supply _ _ _ reply _ _ _
      (replies-to l given.window supply (take (16 * n) supply) (drop (16 * n) before) (n + 1) n n f n l.replywait row
      (out (number l n) (number l (n + 1)) row (timers_on l timers)) (late l supply ∷ []) given.times.wait-low (space-left n (omega arith)))
      (and-then supply _ _ _ (arrive_reply 0) _ _ _
      (leaves
      (acknowledges l given.window supply (take (16 * n) supply ++ row) (drop 16 (drop (16 * n) before)) (n + 1) n (n + 1) (more-fits n h) n l.replylife row (timers_on l timers)
      (free l.window (number l (n + 1))) (late l supply ∷ []))
      (recorded-on n _))
      g)))

  -- k rows more, and what comes behind them
  pub rows-behind : (k n : ℕ) (timers bytes ns : List ℕ) (z : Moved) → n + k ≤ 2 * l.window
      → Goes supply (rows_done l supply before (n + k) (timers_after l timers k) (late l supply ∷ [])) (events bytes) ns z
      → Goes supply (rows_done l supply before n timers (late l supply ∷ [])) (events (joined (replicate k further_row) ++ bytes)) (joined (replicate k (replicate 4 0)) ++ ns) z
  unfolding joined event pick
  rows-behind zero n timers bytes ns z h g = subst (λ m. Goes supply (rows_done l supply before m timers (late l supply ∷ [])) (events bytes) ns z) {x = n + 0} {y = n} (omega arith) g
  rows-behind (suc k) n timers bytes ns z h g =
      further n timers (events (joined (replicate k further_row) ++ bytes)) (joined (replicate k (replicate 4 0)) ++ ns) z (omega arith)
      (rows-behind k (n + 1) (timers_on l timers) bytes ns z (omega arith)
      (subst (λ m. Goes supply (rows_done l supply before m (timers_after l (timers_on l timers) k) (late l supply ∷ [])) (events bytes) ns z) {x = n + suc k} {y = n + 1 + k} (omega arith) g))

  -- number 0 is row 2w at the pad
  taken-for-new : (timers : List ℕ) → Does supply (rows_done l supply before (2 * l.window) timers (late l supply ∷ [])) (arrive_data 0) 0 (old_held l supply before timers)
  unfolding remove
  taken-for-new timers =
      let n = 2 * l.window in
      arrives l given.window supply (take (16 * n) supply) (drop (16 * n) before) n n n (written-fits n (omega arith)) n 0 l.datalife (row_at supply 0)
      (idle (number l n) timers) (late l supply ∷ []) [] [] (ap (λ k. data_message k (row_at supply 0) l.datalife) round) refl refl
    where
      round : number l 0 ≡ number l (2 * l.window)
      round = let w = given.window in mod-eq_of_lt (omega arith) ∙ sym (mod-once (2 * l.window) (2 * l.window) (omega arith) (omega arith) ∙ omega arith)

  recorded-as-new : (timers : List ℕ) → Does supply (old_held l supply before timers) reply 0 (old_recorded l supply before timers)
  recorded-as-new timers =
      let n = 2 * l.window in
      replies-to l given.window supply (take (16 * n) supply) (drop (16 * n) before) n n n (written-fits n (omega arith)) n l.replywait (row_at supply 0)
      (idle (number l n) timers) [] given.times.wait-low (space-left n (omega arith))

  pub old-row : (timers : List ℕ) → Goes supply (rows_done l supply before (2 * l.window) timers (late l supply ∷ [])) (events old_row) (replicate 2 0) (old_recorded l supply before timers)
  unfolding event pick
  old-row timers = and-then supply _ _ _ _ _ _ _ (taken-for-new timers) (and-then supply _ _ _ _ _ _ _ (recorded-as-new timers) (none supply (old_recorded l supply before timers)))

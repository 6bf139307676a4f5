-- The first row of the list: it is recorded, sent again while its reply is in the air, and acknowledged.
use Prim.Native.Nat.{ℕ, ◌+◌, ◌-◌, ◌*◌, ◌≤◌, ◌<◌}
use mathlib.Core.Path.{◌≡◌, refl, sym, ◌∙◌, ap, ap₂, subst}
use mathlib.Core.List.{List, [], ◌∷◌, ◌++◌}
use native.Mathlib.Omega.{arith}
use native.Mathlib.Nat.{mod-eq_of_lt}
use lib.ListN.{length, take, drop, set, replicate}
use Rattle.limits.specs.declared.Limits.{Limits}
use Rattle.limits.specs.Cells.{row_at}
use Rattle.limits.specs.Tables.{remove}
use Rattle.limits.specs.Events.{Event, send, resend, arrive_data, reply, arrive_reply, event}
use Rattle.limits.proofs.Laws.Lists.{replicate-tab}
use Rattle.mat.specs.View.{mat_state, fresh_mat}
use Rattle.mat.proofs.Laws.Fresh as mat
use Rattle.pad.specs.Window.{empty}
use Rattle.pad.specs.View.{pad_state, fresh_pad}
use Rattle.pad.proofs.Laws.Fresh as pad
use Rattle.air.proofs.Laws.Fresh.{no-data, no-replies}
use Rattle.events.specs.State.{Moved}
use Rattle.events.specs.View.{link_state}
use Rattle.link.specs.View.{fresh_link}
use Rattle.leastwait.specs.NoShorterWait.{data_part, pad_part, reply_part, answer_to_tick, start}
use Rattle.leastwait.proofs.Laws.Goes.{reached, leaves, Goes, and-then}
use Rattle.leastwait.proofs.Laws.Forms.{idle, out, free, data_message, reply_message, link_of, last_timer, rest-of}
use Rattle.leastwait.proofs.Laws.Events.{sends, arrives, replies-to, acknowledges, resends}
use Rattle.leastwait.proofs.Laws.Waiting.{passes, first_out, in_air, at_pad, in_reply, in-air-falls, at-pad-falls, in-reply-falls}
use Rattle.leastwait.proofs.Laws.Supply.{number}
use Rattle.leastwait.proofs.Laws.Rows.{Given, late, rows_done, written-fits}

-- what the parts of the wait leave of each time
pub record Parts (l : Limits) : Type 0 where
  pub in_air : data_part l < l.datalife
  pub at_pad : pad_part l < l.replywait
  pub in_reply : reply_part l < l.replylife
  pub over : l.resendwait - data_part l - pad_part l - reply_part l ≡ 0

-- a fresh link of these limits
module _ (l : Limits) (some : 1 ≤ l.window) (most : l.window ≤ 32) where
  zero : 0 ≡ number l 0
  zero = sym (mod-eq_of_lt (omega arith))

  fresh-mat : mat_state l.window fresh_mat ≡ idle (number l 0) (replicate l.window 0)
  fresh-mat = mat.fresh-state l.window some most ∙ ap₂ idle zero (sym (replicate-tab l.window 0))

  fresh-pad : pad_state l.window fresh_pad ≡ free l.window (number l 0)
  fresh-pad =
      pad.fresh-state l.window some most
      ∙ (λ i. record { wanted = zero i; slots = sym (replicate-tab l.window empty) i })

  pub fresh : link_state (fresh_link l) ≡ link_of l (idle (number l 0) (replicate l.window 0)) (free l.window (number l 0)) [] []
  unfolding link_state
  fresh = λ i. link_of l (fresh-mat i) (fresh-pad i) (no-data i) (no-replies i)

-- what goes from that state goes from the fresh link
from-fresh : (l : Limits) (supply before : List ℕ) (es : List Event) (ns : List ℕ) (z : Moved) → 1 ≤ l.window → l.window ≤ 32
    → Goes supply (reached (link_of l (idle (number l 0) (replicate l.window 0)) (free l.window (number l 0)) [] []) 0 0 0 [] before) es ns z
    → Goes supply (start l before) es ns z
from-fresh l supply before es ns z some most g = subst (λ s. Goes supply (reached s 0 0 0 [] before) es ns z) (sym (fresh l some most)) g

-- the timers once row 0 was sent again
abbrev pub timers : Limits → List ℕ
timers l = set (last_timer l.window 0) (l.window - 1 + 0) l.resendwait

module _ (l : Limits) (supply before : List ℕ) (given : Given l supply before) (p : Parts l) where
  one-fits : length (take (16 * 1) supply) ≡ 16 * 1
  one-fits = written-fits l supply before given 1 (let w = given.window in omega arith)

  -- row 0 is recorded, its reply is in the air, and the wait is over
  again : (es : List Event) (ns : List ℕ) (z : Moved) → Goes supply (rows_done l supply before 1 (timers l) (late l supply ∷ [])) es ns z
      → Goes supply (reached (in_reply l supply 0 (l.replylife - reply_part l)) 1 0 1 (take (16 * 1) supply) (drop (16 * 1) before))
      (resend 0 ∷ arrive_reply 0 ∷ es) (0 ∷ 0 ∷ ns) z
  again es ns z g =
      and-then supply _ _ _ (resend 0) _ _ _
      (resends l given.window supply (take (16 * 1) supply) (drop (16 * 1) before) 1 0 1 one-fits 0 (number l 1) (row_at supply 0) (free l.window (number l 1)) (reply_message (number l 0) (l.replylife - reply_part l) ∷ []))
      (and-then supply _ _ _ (arrive_reply 0) _ _ _
      (acknowledges l given.window supply (take (16 * 1) supply) (drop (16 * 1) before) 1 0 1 one-fits 0 (l.replylife - reply_part l) (row_at supply 0) (timers l) (free l.window (number l 1)) (late l supply ∷ []))
      g)

  abbrev after_data : ℕ
  after_data = l.resendwait - data_part l

  abbrev after_pad : ℕ
  after_pad = after_data - pad_part l

  -- row 0 is held: the second part of the wait, the reply, and the third part
  answered : (es : List Event) (ns : List ℕ) (z : Moved) → Goes supply (rows_done l supply before 1 (timers l) (late l supply ∷ [])) es ns z
      → Goes supply (reached (at_pad l supply after_data l.replywait) 1 0 0 [] before)
      (event 8 (pad_part l) ∷ reply ∷ event 8 (reply_part l) ∷ resend 0 ∷ arrive_reply 0 ∷ es)
      (answer_to_tick (pad_part l) ∷ 0 ∷ answer_to_tick (reply_part l) ∷ 0 ∷ 0 ∷ ns) z
  answered es ns z g =
      and-then supply _ _ _ (event 8 (pad_part l)) _ _ _
      (passes supply [] before 1 0 0 refl (at_pad l supply) (pad_part l) after_data l.replywait (at-pad-falls l supply (pad_part l) after_data l.replywait))
      (and-then supply _ _ _ reply _ _ _
      (replies-to l given.window supply [] before 1 0 0 refl 0 (l.replywait - pad_part l) (row_at supply 0) (first_out l supply after_pad) []
      (let h = p.at_pad in omega arith) (let h = given.space in omega arith))
      (and-then supply _ _ _ (event 8 (reply_part l)) _ _ _
      (leaves
      (passes supply (row_at supply 0) (drop 16 before) 1 0 1 one-fits (in_reply l supply) (reply_part l) after_pad l.replylife
      (in-reply-falls l supply (reply_part l) after_pad l.replylife p.in_reply))
      (ap (λ t. reached (in_reply l supply t (l.replylife - reply_part l)) 1 0 1 (row_at supply 0) (drop 16 before)) p.over))
      (again es ns z g)))

  pub row-recorded : (es : List Event) (ns : List ℕ) (z : Moved) → l.window ≤ 32 → Goes supply (rows_done l supply before 1 (timers l) (late l supply ∷ [])) es ns z
      → Goes supply (start l before)
      (send ∷ event 8 (data_part l) ∷ arrive_data 0 ∷ event 8 (pad_part l) ∷ reply ∷ event 8 (reply_part l) ∷ resend 0 ∷ arrive_reply 0 ∷ es)
      (0 ∷ answer_to_tick (data_part l) ∷ 0 ∷ answer_to_tick (pad_part l) ∷ 0 ∷ answer_to_tick (reply_part l) ∷ 0 ∷ 0 ∷ ns) z
  unfolding remove
  row-recorded es ns z most g =
      from-fresh l supply before _ _ z given.window most
      (and-then supply _ _ _ send _ _ _
      (leaves
      (sends l given.window supply [] before 0 0 0 refl 0 (replicate l.window 0) (free l.window (number l 0)) [] [] (let r = given.rows in let w = given.window in omega arith) given.legal refl)
      (ap (λ ts. reached (link_of l (out (number l 0) (number l 1) (row_at supply 0) (ts ++ (l.resendwait ∷ []))) (free l.window (number l 0)) (late l supply ∷ []) []) 1 0 0 [] before) (rest-of l.window 0 given.window)))
      (and-then supply _ _ _ (event 8 (data_part l)) _ _ _
      (passes supply [] before 1 0 0 refl (in_air l supply) (data_part l) l.resendwait l.datalife (in-air-falls l supply (data_part l) l.resendwait l.datalife p.in_air))
      (and-then supply _ _ _ (arrive_data 0) _ _ _
      (arrives l given.window supply [] before 1 0 0 refl 0 0 (l.datalife - data_part l) (row_at supply 0) (first_out l supply after_data)
      (data_message (number l 0) (row_at supply 0) (l.datalife - data_part l) ∷ []) [] [] refl refl refl)
      (answered es ns z g))))

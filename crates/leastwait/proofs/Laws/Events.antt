-- What each event of the list does to a link with one row under way.
use Prim.Native.Nat.{ℕ, ◌+◌, ◌-◌, ◌*◌, ◌≤◌}
use mathlib.Core.Path.{◌≡◌, refl, sym, ◌∙◌, ap, ap₂}
use mathlib.Core.Bool.{true, false, not, ◌||◌}
use mathlib.Core.List.{List, [], ◌∷◌, ◌++◌, append_assoc}
use native.Mathlib.Omega.{arith}
use lib.Dec.{leb, ltb, eqb}
use borrow.Author.Tests.{lt-ltb, le-leb}
use lib.ListN.{length, drop, set, get_or, length-drop}
use Rattle.limits.specs.declared.Limits.{Limits}
use Rattle.limits.specs.Lists.{all}
use Rattle.limits.specs.Cells.{legal_cell, row_at}
use Rattle.limits.specs.Questions.{pick}
use Rattle.limits.specs.Tables.{Message, Data, Reply, no_data, remove, put}
use Rattle.limits.specs.Events.{Event, send, resend, arrive_data, reply, arrive_reply}
use Rattle.limits.proofs.Laws.Choice.{pick_yes}
use Rattle.mat.specs.Window.{MatState}
use Rattle.mat.specs.Rules as mat
use Rattle.pad.specs.Window.{PadState}
use Rattle.pad.specs.Rules as pad
use Rattle.events.specs.State.{LinkState, Rows, Moved}
use Rattle.events.specs.Rules.{answer, acted}
use Rattle.leastwait.proofs.Laws.Goes.{reached, Does, leaves, does}
use Rattle.leastwait.proofs.Laws.Forms.{idle, out, free, held, data_message, reply_message, link_of, last_timer, timer-at, one-ready, arrived, replied, acknowledged}
use Rattle.leastwait.proofs.Laws.Supply.{number, in-part, number-next, number-same, no-distance}

module _ (l : Limits) (some : 1 ≤ l.window) (supply written rest : List ℕ) (sent acked recorded : ℕ) (fits : length written ≡ 16 * recorded) where
  -- an event that does not touch the record
  aside : (s s' : LinkState) (e : Event) (k : Rows) (sent' acked' : ℕ) → answer (drop (16 * sent) supply) rest s e ≡ 0
      → acted (drop (16 * sent) supply) rest s e ≡ record { state = s'; counts = k; buffer = rest }
      → sent + k.sent ≡ sent' → acked + k.acknowledged ≡ acked' → recorded + k.recorded ≡ recorded
      → Does supply (reached s sent acked recorded written rest) e 0 (reached s' sent' acked' recorded written rest)
  aside s s' e k sent' acked' a h p q r =
      leaves (does supply s sent acked recorded written rest fits e _ a h)
      (λ i. record { state = s'; counts = record { sent = p i; acknowledged = q i; recorded = r i }; buffer = written ++ rest })

  pub sends : (n : ℕ) (timers : List ℕ) (p : PadState) (datas : List (Message Data)) (replies : List (Message Reply))
      → 16 * (sent + 1) ≤ length supply → all legal_cell supply ≡ true → ltb (length datas) 32 ≡ true
      → Does supply (reached (link_of l (idle (number l n) timers) p datas replies) sent acked recorded written rest) send 0
      (reached (link_of l (out (number l n) (number l (n + 1)) (row_at supply sent) (drop 1 timers ++ (l.resendwait ∷ []))) p (put (data_message (number l n) (row_at supply sent) l.datalife) datas) replies) (sent + 1) acked recorded written rest)
  unfolding mat.sending
  sends n timers p datas replies enough legal room =
      let left = length-drop (16 * sent) supply in
      aside _ _ send _ (sent + 1) acked
      (pick_yes _ _ _ _ (lt-ltb 0 l.window some)
      (pick_yes _ _ _ _ (le-leb 16 (length (drop (16 * sent) supply)) (omega arith))
      (pick_yes _ _ _ _ (in-part legal_cell 16 (16 * sent) supply legal) (pick_yes _ _ _ _ room refl))))
      (ap (λ k. record {
        state = link_of l (out (number l n) k (row_at supply sent) (drop 1 timers ++ (l.resendwait ∷ []))) p (put (data_message (number l n) (row_at supply sent) l.datalife) datas) replies;
        counts = record { sent = 1; acknowledged = 0; recorded = 0 };
        buffer = rest;
      }) (number-next l n))
      refl (omega arith) (omega arith)

  -- message `at` carries the wanted number
  pub arrives : (n at life : ℕ) (row : List ℕ) (m : MatState) (datas left : List (Message Data)) (replies : List (Message Reply))
      → get_or datas at no_data ≡ data_message (number l n) row life → ltb at (length datas) ≡ true → remove at datas ≡ left
      → Does supply (reached (link_of l m (free l.window (number l n)) datas replies) sent acked recorded written rest) (arrive_data at) 0
      (reached (link_of l m (held l.window (number l n) l.replywait row) left replies) sent acked recorded written rest)
  unfolding pick
  arrives n at life row m datas left replies is there gone =
      aside _ _ (arrive_data at) _ sent acked
      (pick_yes _ _ _ _ there (ap (λ (y : pad.Arrival). pick (not y.old || ltb (length replies) 32) 0 18) made))
      (ap₂ taken made gone)
      (omega arith) (omega arith) (omega arith)
    where
      made : pad.arrival l (free l.window (number l n)) (get_or datas at no_data).body ≡ record { state = held l.window (number l n) l.replywait row; old = false; reply = record { first = 0; last = 0 } }
      made =
          ap (λ (x : Message Data). pad.arrival l (free l.window (number l n)) x.body) is
          ∙ arrived l (number l n) (number l n) row some (no-distance l some n)

      taken : pad.Arrival → List (Message Data) → Moved
      taken y xs =
          record {
            state =
                pick y.old (link_of l m (free l.window (number l n)) xs (put (record { body = y.reply; life = l.replylife }) replies))
                (link_of l m y.state xs replies);
            counts = record { sent = 0; acknowledged = 0; recorded = 0 };
            buffer = rest;
          }

  pub replies-to : (n timer : ℕ) (row : List ℕ) (m : MatState) (datas : List (Message Data)) → 1 ≤ timer → 16 ≤ length rest
      → Does supply (reached (link_of l m (held l.window (number l n) timer row) datas []) sent acked recorded written rest) reply 0
      (reached (link_of l m (free l.window (number l (n + 1))) datas (reply_message (number l n) l.replylife ∷ [])) sent acked (recorded + 1) (written ++ row) (drop 16 rest))
  unfolding pick
  replies-to n timer row m datas some_time enough =
      leaves
      (does supply _ sent acked recorded written rest fits reply _ asks
      (ap made_of (replied l (number l n) timer row rest some some_time (number-same l n))))
      (λ i. record {
        state = link_of l m (free l.window (number-next l n i)) datas (reply_message (number l n) l.replylife ∷ []);
        counts = record { sent = same_sent i; acknowledged = same_acked i; recorded = recorded + 1 };
        buffer = sym (append_assoc written row (drop 16 rest)) i;
      })
    where
      asked : ℕ → ℕ
      asked k = pick (ltb 0 k) (pick (leb (16 * k) (length rest)) 0 21) 20

      asks : answer (drop (16 * sent) supply) rest (link_of l m (held l.window (number l n) timer row) datas []) reply ≡ 0
      asks =
          ap asked (one-ready l.window (number l n) timer row some_time) ∙ pick_yes _ _ _ _ (le-leb 16 (length rest) enough) refl

      made_of : pad.Replying → Moved
      made_of x =
          record {
            state = link_of l m x.state datas (record { body = x.reply; life = l.replylife } ∷ []);
            counts = record { sent = 0; acknowledged = 0; recorded = x.count };
            buffer = x.buffer;
          }

      same_sent : sent + 0 ≡ sent
      same_sent = omega arith

      same_acked : acked + 0 ≡ acked
      same_acked = omega arith

  pub acknowledges : (n life : ℕ) (row timers : List ℕ) (p : PadState) (datas : List (Message Data))
      → Does supply (reached (link_of l (out (number l n) (number l (n + 1)) row timers) p datas (reply_message (number l n) life ∷ [])) sent acked recorded written rest) (arrive_reply 0) 0
      (reached (link_of l (idle (number l (n + 1)) timers) p datas []) sent (acked + 1) recorded written rest)
  unfolding remove pick
  acknowledges n life row timers p datas =
      aside _ _ (arrive_reply 0) _ sent (acked + 1)
      (ap (λ k. pick (leb (k + (k + 1)) 1) 0 19) (no-distance l some n))
      (ap (λ (x : mat.Acknowledging). record {
        state = link_of l x.state p datas [];
        counts = record { sent = 0; acknowledged = x.passed; recorded = 0 };
        buffer = rest;
      }) (acknowledged l (number l n) (number l (n + 1)) row timers (no-distance l some n) (sym (number-next l n))))
      (omega arith) refl (omega arith)

  -- the timer of the one outstanding row is 0
  pub resends : (n next : ℕ) (row : List ℕ) (p : PadState) (replies : List (Message Reply))
      → Does supply (reached (link_of l (out (number l n) next row (last_timer l.window 0)) p [] replies) sent acked recorded written rest) (resend 0) 0
      (reached (link_of l (out (number l n) next row (set (last_timer l.window 0) (l.window - 1 + 0) l.resendwait)) p (data_message (number l n) row l.datalife ∷ []) replies) sent acked recorded written rest)
  unfolding mat.resending pick
  resends n next row p replies =
      aside _ _ (resend 0) _ sent acked
      (ap (λ k. pick (eqb k 0) 0 16) (timer-at l.window 0))
      (ap (λ k. record {
        state = link_of l (out (number l n) next row (set (last_timer l.window 0) (l.window - 1 + 0) l.resendwait)) p (data_message k row l.datalife ∷ []) replies;
        counts = record { sent = 0; acknowledged = 0; recorded = 0 };
        buffer = rest;
      }) (number-same l n))
      (omega arith) (omega arith) (omega arith)

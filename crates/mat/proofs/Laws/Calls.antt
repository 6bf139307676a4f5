-- What the parts of a call give, put together as what it promises.
use Prim.Native.Nat.{ℕ, ◌+◌, ◌*◌, ◌≤◌, ◌<◌}
use native.Mathlib.Omega.{arith}
use borrow.Author.Tests.{le-leb, lt-leb, ltb-true}
use mathlib.Core.Path.{◌≡◌, refl, sym, ◌∙◌, ap}
use mathlib.Core.Bool.{true, false}
use mathlib.Core.List.{List}
use lib.Dec.{leb}
use lib.ListN.{take}
use Rattle.std.specs.Prelude.{Ok}
use Rattle.limits.specs.declared.Limits.{Limits}
use Rattle.limits.specs.Questions.{Question, first_no, Answered}
use Rattle.limits.specs.Limits.{sound_limits}
use Rattle.limits.specs.Lists.{all}
use Rattle.limits.specs.Cells.{legal_row}
use Rattle.limits.specs.Ring.{distance, step}
use Rattle.limits.specs.Tables.{Data, Reply, span}
use Rattle.limits.proofs.Laws.Good.{good}
use Rattle.limits.proofs.Laws.Questions.{each}
use Rattle.limits.proofs.Laws.Ring.{step_fits}
use Rattle.mat.specs.declared.Mat.{Mat}
use Rattle.mat.specs.Rules.{Sending, send_questions, sending, resend_questions, resending, start_of, passing, acknowledging}
use Rattle.mat.specs.View.{outstanding_of, mat_state, sound_mat, SendCall}
use Rattle.mat.specs.Window.{outstanding}
use Rattle.mat.proofs.Laws.Send.{sending-row}
use Rattle.mat.proofs.Laws.Resend.{out-shown}

-- a sending that is done: the state and the message are the rule's
sent : (l : Limits) (qs : List Question) (x : Data) (done : Sending) (m m' : Mat) → 0 ≡ first_no qs → sound_mat l m' ≡ true
    → record { state = mat_state l.window m'; message = x } ≡ done → SendCall l qs (Ok x) done m m'
sent l qs x done m m' e s h =
    record {
      answered = record { number = e; value = ap (λ (d : Sending). d.message) h };
      left = ap (λ (d : Sending). d.state) h;
      kept = tt;
      stays = λ _. s;
    }

-- the span of an arriving reply, by the distances that the code takes
module _ (l : Limits) (m : Mat) (x : Reply) (reach start out : ℕ) (a : reach ≡ distance (2 * l.window) x.first x.last)
    (b : start ≡ distance (2 * l.window) m.oldest x.first) (c : out ≡ outstanding_of l.window m) where
  pub span-yes : start + (reach + 1) ≤ out
      → leb (start_of l (mat_state l.window m) x + span l.window x) (outstanding (mat_state l.window m)) ≡ true
  unfolding mat_state
  span-yes h = le-leb (distance (2 * l.window) m.oldest x.first + (distance (2 * l.window) x.first x.last + 1)) (outstanding (mat_state l.window m)) (let o = out-shown l.window m in omega arith)

  pub span-no : out < start + (reach + 1)
      → leb (start_of l (mat_state l.window m) x + span l.window x) (outstanding (mat_state l.window m)) ≡ false
  unfolding mat_state
  span-no h = lt-leb (distance (2 * l.window) m.oldest x.first + (distance (2 * l.window) x.first x.last + 1)) (outstanding (mat_state l.window m)) (let o = out-shown l.window m in omega arith)

  pub passing-span : passing l (mat_state l.window m) (distance (2 * l.window) m.oldest x.first) (reach + 1)
      ≡ acknowledging l (mat_state l.window m) x
  unfolding mat_state
  passing-span = ap (λ r. passing l (mat_state l.window m) (distance (2 * l.window) m.oldest x.first) (r + 1)) a

-- a send that found a row to send: the row may be kept, and once it is the call is done
module _ (l : Limits) (m : Mat) (supply row : List ℕ)
    (c : Answered (send_questions l (mat_state l.window m) supply) (Ok row) (take 16 supply)) where
  pub next_fits : outstanding_of l.window m < l.window
  unfolding all
  next_fits =
      let q = each (send_questions l (mat_state l.window m) supply) refl (sym c.number) in
      let h = ltb-true (outstanding (mat_state l.window m)) l.window q.0 in
      let o = out-shown l.window m in omega arith

  pub next-legal : legal_row row ≡ true
  unfolding all
  next-legal =
      let q = each (send_questions l (mat_state l.window m) supply) refl (sym c.number) in
      ap legal_row c.value ∙ q.1.1.0

  pub send-done : (m' : Mat) → sound_mat l m' ≡ true
      → record { state = mat_state l.window m'; message = record { number = m.next; row = row } } ≡ sending l (mat_state l.window m) row
      → SendCall l (send_questions l (mat_state l.window m) supply) (Ok (record { number = m.next; row = row })) (sending l (mat_state l.window m) supply) m m'
  send-done m' s h = sent _ _ _ _ _ _ c.number s (h ∙ sending-row l _ row supply c.value)

-- a resend that found a row to send again
module _ (l : Limits) (m : Mat) (k number : ℕ)
    (c : Answered (resend_questions l (mat_state l.window m) k) (Ok number) (step (2 * l.window) m.oldest k)) where
  pub due-there : k < outstanding_of l.window m
  unfolding all
  due-there =
      let q = each (resend_questions l (mat_state l.window m) k) refl (sym c.number) in
      let h = ltb-true k (outstanding (mat_state l.window m)) q.0 in
      let o = out-shown l.window m in omega arith

  pub due-low : sound_limits l ≡ true → number < 2 * l.window
  due-low s =
      let g = good l s in
      let b = step_fits (2 * l.window) m.oldest k (omega arith) in
      let i = c.value in omega arith

  pub resend-done : (m' : Mat) (x : Data) → (sound_mat l m' ≡ true) × (record { state = mat_state l.window m'; message = x } ≡ resending l (mat_state l.window m) k)
      → SendCall l (resend_questions l (mat_state l.window m) k) (Ok x) (resending l (mat_state l.window m) k) m m'
  resend-done m' x h = sent _ _ _ _ _ _ c.number h.0 h.1

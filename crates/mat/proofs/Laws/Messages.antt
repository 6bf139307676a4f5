-- The messages that a sound mat sends are sound.
use Prim.Native.Nat.{ℕ, ◌*◌, ◌<◌}
use mathlib.Core.Path.{◌≡◌, refl, ◌∙◌, ap}
use mathlib.Core.Bool.{true}
use mathlib.Core.List.{List}
use native.Mathlib.Omega.{arith}
use lib.ListN.{length}
use borrow.Author.Tests.{ltb-true}
use Rattle.limits.specs.declared.Limits.{Limits}
use Rattle.limits.specs.Lists.{tab, all}
use Rattle.limits.specs.Cells.{legal_row}
use Rattle.limits.specs.Questions.{first_no}
use Rattle.limits.specs.Limits.{sound_limits}
use Rattle.limits.specs.Tables.{sound_data}
use Rattle.limits.proofs.Laws.Lists.{length-tab, get_or-tab}
use Rattle.limits.proofs.Laws.Messages.{data-sound}
use Rattle.limits.proofs.Laws.Questions.{each}
use Rattle.limits.proofs.Laws.Ring.{step_fits}
use Rattle.mat.specs.declared.Mat.{Mat}
use Rattle.mat.specs.Window.{Kept, no_row}
use Rattle.mat.specs.Rules.{send_questions, sending, resend_questions, resending}
use Rattle.mat.specs.View.{outstanding_of, mark_at, cells_at, mat_state, sound_mat}
use Rattle.mat.proofs.Laws.Sound.{facts}

module _ (l : Limits) (m : Mat) (g : sound_limits l ≡ true) (s : sound_mat l m ≡ true) where
  pub resending-sound : (k : ℕ) → first_no (resend_questions l (mat_state l.window m) k) ≡ 0
      → sound_data l (resending l (mat_state l.window m) k).message ≡ true
  unfolding resending mat_state all
  resending-sound k e =
      let f = facts l m g s in
      let rows : ℕ → Kept = λ i. record { acknowledged = mark_at l.window m i; cells = cells_at l.window m i } in
      let q = each (resend_questions l (mat_state l.window m) k) refl e in
      let n = length-tab (outstanding_of l.window m) rows in
      let t = ltb-true k (length (tab (outstanding_of l.window m) rows)) q.0 in
      let h : k < outstanding_of l.window m = omega arith in
      data-sound l _ (step_fits (2 * l.window) m.oldest k (omega arith))
      (ap (λ (x : Kept). legal_row x.cells) (get_or-tab (outstanding_of l.window m) rows k no_row h) ∙ f.cells k h)

  pub sending-sound : (supply : List ℕ) → first_no (send_questions l (mat_state l.window m) supply) ≡ 0
      → sound_data l (sending l (mat_state l.window m) supply).message ≡ true
  unfolding sending mat_state all
  sending-sound supply e =
      let q = each (send_questions l (mat_state l.window m) supply) refl e in
      data-sound l _ (facts l m g s).numbers.next q.1.1.0

-- What the pad keeps of its number, and what an arrival gives, by whether the row is one of the window.
use Prim.Native.Nat.{ℕ, ◌*◌}
use mathlib.Core.Path.{◌≡◌, refl, sym, ◌∙◌, ap}
use mathlib.Core.Bool.{true, false}
use lib.Dec.{ltb}
use Rattle.limits.specs.Tables.{Data, no_reply}
use Rattle.limits.specs.declared.Limits.{Limits}
use Rattle.limits.specs.Ring.{distance}
use Rattle.limits.proofs.Laws.Choice.{pick_yes, pick_no}
use Rattle.pad.specs.declared.Pad.{Pad}
use Rattle.pad.specs.Window.{PadState}
use Rattle.pad.specs.Rules.{holding, arrival}
use Rattle.pad.specs.View.{pad_of, pad_state, Shows}

-- of the pad that was lent, with the number that the state says
pub with-number : (l : Limits) (wanted : ℕ) (p : Pad) (s : PadState) → wanted ≡ s.wanted → Shows l p s → Shows l (pad_of wanted p.held p.timers p.cells) s
unfolding pad_state
with-number l wanted p s e h = rw (e ∙ sym (ap (λ (x : PadState). x.wanted) h.1)) h

module _ (l : Limits) (p : Pad) (x : Data) where
  -- a row of the window, where `held` is what holding it left
  pub arrival-new : (held : PadState) → ltb (distance (2 * l.window) p.wanted x.number) l.window ≡ true → held ≡ holding l (pad_state l.window p) x
      → arrival l (pad_state l.window p) x ≡ record { state = held; old = false; reply = no_reply.body }
  unfolding arrival pad_state
  arrival-new held h e = pick_yes _ _ _ _ h refl ∙ ap (λ s. record { state = s; old = false; reply = no_reply.body }) (sym e)

  pub arrival-old : ltb (distance (2 * l.window) p.wanted x.number) l.window ≡ false
      → arrival l (pad_state l.window p) x ≡ record { state = pad_state l.window p; old = true; reply = record { first = x.number; last = x.number } }
  unfolding arrival pad_state
  arrival-old h = pick_no _ _ _ _ h refl

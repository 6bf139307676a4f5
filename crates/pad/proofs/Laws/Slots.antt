-- Laws on what stands at a place of the pad.
use Prim.Native.Nat.{ℕ, ◌≤◌, ◌<◌}
use mathlib.Core.Path.{◌≡◌, refl, sym, ◌∙◌, ap, ap₂}
use mathlib.Core.Bool.{Bool, true, false, ◌&&◌}
use mathlib.Core.List.{List}
use native.Mathlib.Omega.{arith}
use lib.Dec.{ltb}
use lib.ListN.{length, get_or}
use Rattle.std.specs.Prelude.{IsTrue, ◌↔◌}
use Rattle.limits.specs.Cells.{row_at, legal_row}
use Rattle.limits.specs.Lists.{tab, all}
use Rattle.limits.specs.Questions.{pick}
use Rattle.limits.proofs.Laws.Choice.{test, pick_yes, pick_no, clash, and-no-left, and-goes-on}
use Rattle.limits.proofs.Laws.Lists.{all-tab, all-tab-at}
use Rattle.pad.specs.declared.Pad.{Pad}
use Rattle.pad.specs.Window.{Slot, empty, full, ready, contents}
use Rattle.pad.specs.Rules.{slot_falls}
use Rattle.pad.specs.View.{slot_at, HeldLegal, sound_slot}

-- the lengths of the arrays
pub record Sized (p : Pad) : Type 0 where
  pub held : length p.held ≡ 32
  pub timers : length p.timers ≡ 32
  pub cells : length p.cells ≡ 512

-- a held row, and a row not held
pub slot-full : (p : Pad) (at t : ℕ) (row : List ℕ) → get_or p.held at false ≡ true → get_or p.timers at 0 ≡ t → row_at p.cells at ≡ row
    → slot_at p at ≡ full t row
unfolding slot_at
slot-full p at t row e h k = pick_yes _ _ _ _ e (ap₂ full h k)

pub slot-empty : (p : Pad) (at : ℕ) → get_or p.held at false ≡ false → slot_at p at ≡ empty
unfolding slot_at
slot-empty p at e = pick_no _ _ _ _ e refl

-- two pads alike at a place
pub slot_same : (p q : Pad) (at : ℕ) → get_or p.held at false ≡ get_or q.held at false → get_or p.timers at 0 ≡ get_or q.timers at 0
    → row_at p.cells at ≡ row_at q.cells at → slot_at p at ≡ slot_at q at
unfolding slot_at
slot_same p q at e h k = ap₂ (λ b s. pick b s empty) e (ap₂ full h k)

-- by cases on whether the row is held
pub slot_cases : {X : Type 0} (p : Pad) (at : ℕ)
    → (get_or p.held at false ≡ true → slot_at p at ≡ full (get_or p.timers at 0) (row_at p.cells at) → X)
    → (get_or p.held at false ≡ false → slot_at p at ≡ empty → X) → X
slot_cases p at f g = test (get_or p.held at false) (λ e. f e (slot-full p at _ _ e refl refl)) (λ e. g e (slot-empty p at e))

-- the two questions put to a slot, by the arrays
pub slot-ready : (p : Pad) (at : ℕ) → ready (slot_at p at) ≡ (get_or p.held at false && ltb 0 (get_or p.timers at 0))
unfolding ready
slot-ready p at =
    slot_cases p at
    (λ e s. ap ready s ∙ and-goes-on _ _ e)
    (λ e s. ap ready s ∙ sym (and-no-left _ _ e))

pub slot-sound : (p : Pad) (at : ℕ) → sound_slot (slot_at p at) ≡ pick (get_or p.held at false) (legal_row (row_at p.cells at)) true
slot-sound p at =
    slot_cases p at
    (λ e s. ap sound_slot s ∙ sym (pick_yes _ _ _ _ e refl))
    (λ e s. ap sound_slot s ∙ sym (pick_no _ _ _ _ e refl))

-- every row held is sound where each place passes, by the arrays
pub held_sound : (p : Pad) (w : ℕ) (b : Bool) → IsTrue b ↔ HeldLegal w p.held p.cells → b ≡ all sound_slot (tab w (slot_at p))
held_sound p w true e = sym (all-tab sound_slot w (slot_at p) (λ i h. slot-sound p i ∙ e.0 refl i h))
held_sound p w false e =
    test (all sound_slot (tab w (slot_at p)))
    (λ t. absurd (clash false (e.1 (λ k h. sym (slot-sound p k) ∙ all-tab-at sound_slot w (slot_at p) t k h)) refl))
    (λ f. sym f)

-- where no row is held, each place passes
pub unheld-legal : (w : ℕ) (held : List Bool) (cells : List ℕ) → w ≤ 32 → ((i : ℕ) → i < 32 → get_or held i false ≡ false) → HeldLegal w held cells
unheld-legal w held cells high none = λ i h. pick_no _ _ _ _ (none i (omega arith)) refl

-- a ready row is held
pub ready-contents : (p : Pad) (at : ℕ) → ready (slot_at p at) ≡ true → contents (slot_at p at) ≡ row_at p.cells at
unfolding ready
ready-contents p at r =
    slot_cases p at (λ e s. ap contents s) (λ e s. absurd (clash (ready (slot_at p at)) r (ap ready s)))

pub falls-sound : (d : ℕ) (s : Slot) → sound_slot (slot_falls d s) ≡ sound_slot s
falls-sound d empty = refl
falls-sound d (full t row) = refl

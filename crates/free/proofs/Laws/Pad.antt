-- What is free in a pad.
use Prim.Native.Nat.{ℕ, ◌<◌}
use mathlib.Core.Path.{◌≡◌, refl, sym, ◌∙◌, ap, ap₂}
use mathlib.Core.Bool.{Bool, true, false}
use mathlib.Core.List.{List}
use native.Mathlib.Omega.{arith}
use lib.ListN.{get_or}
use Rattle.limits.specs.declared.Limits.{Limits}
use Rattle.limits.specs.Cells.{row_at}
use Rattle.limits.specs.Questions.{pick}
use Rattle.limits.proofs.Laws.Choice.{clash}
use Rattle.pad.specs.declared.Pad.{Pad}
use Rattle.pad.specs.Window.{empty, full, PadState}
use Rattle.pad.specs.View.{slot_at, pad_state, sound_slot, sound_pad}
use Rattle.pad.proofs.Laws.Sound.{facts, sound-of}
use Rattle.free.specs.Free.{SamePad, TimersLow}
use Rattle.free.proofs.Laws.Places.{places-at, places_same}

-- two slots, by their marks b and c, their timers t and u and their rows r and s
module _ (t u : ℕ) (r s : List ℕ) where
  slot_held : (b c : Bool) → pick b (full t r) empty ≡ pick c (full u s) empty → b ≡ c
  unfolding pick
  slot_held true true e = refl
  slot_held true false e = absurd (let z : ◌≡◌ {A = ℕ} 0 1 = cc in omega arith)
  slot_held false true e = absurd (let z : ◌≡◌ {A = ℕ} 0 1 = cc in omega arith)
  slot_held false false e = refl

  slot-holds : (b c : Bool) → pick b (full t r) empty ≡ pick c (full u s) empty → b ≡ true → (t ≡ u) × (r ≡ s)
  unfolding pick
  slot-holds true true e q = (cc, cc)
  slot-holds true false e q = absurd (let z : ◌≡◌ {A = ℕ} 0 1 = cc in omega arith)
  slot-holds false c e q = absurd (clash false q refl)

  slot-equal : (b c : Bool) → b ≡ c → (b ≡ true → t ≡ u) → (b ≡ true → r ≡ s) → pick b (full t r) empty ≡ pick c (full u s) empty
  unfolding pick
  slot-equal true c e f g = rw (sym e) (ap₂ full (f refl) (g refl))
  slot-equal false c e f g = rw (sym e)

-- pads with the same view
pub only-free : (w : ℕ) (a b : Pad) → pad_state w a ≡ pad_state w b → SamePad w a b
unfolding pad_state slot_at
only-free w a b e =
    record {
      wanted = wanted;
      held = λ p h. slot_held _ _ _ _ (get_or a.held p false) (get_or b.held p false) (slots p h);
      held_timers = λ p h q. (slot-holds _ _ _ _ (get_or a.held p false) (get_or b.held p false) (slots p h) q).0;
      held_rows = λ p h q. (slot-holds _ _ _ _ (get_or a.held p false) (get_or b.held p false) (slots p h) q).1;
    }
  where
    wanted : a.wanted ≡ b.wanted
    wanted = ap (λ (s : PadState). s.wanted) e

    slots : (p : ℕ) → p < w → slot_at a p ≡ slot_at b p
    slots = places-at (slot_at a) (slot_at b) w a.wanted b.wanted wanted (ap (λ (s : PadState). s.slots) e)

-- pads that differ in nothing but the free parts
module _ (w : ℕ) (a b : Pad) (s : SamePad w a b) where
  slot_same : (p : ℕ) → p < w → slot_at a p ≡ slot_at b p
  unfolding slot_at
  slot_same p h =
      slot-equal (get_or a.timers p 0) (get_or b.timers p 0) (row_at a.cells p) (row_at b.cells p) (get_or a.held p false) (get_or b.held p false)
      (s.held p h) (s.held_timers p h) (s.held_rows p h)

  pub not-shown : pad_state w a ≡ pad_state w b
  unfolding pad_state
  not-shown =
      λ i. record { wanted = s.wanted i; slots = places_same (slot_at a) (slot_at b) w a.wanted b.wanted s.wanted slot_same i }

pub timers-low : (l : Limits) (p : Pad) → sound_pad l p ≡ true → TimersLow l p
timers-low l p e = (facts l p e).timers

pub not-asked : (l : Limits) (a b : Pad) → SamePad l.window a b → TimersLow l b → sound_pad l a ≡ true → sound_pad l b ≡ true
not-asked l a b s low e =
    let f = facts l a e in
    sound-of l b
    (record {
      low = let q = s.wanted in let h = f.low in omega arith;
      timers = low;
      rows = λ i h. ap sound_slot (sym (slot_same l.window a b s i h)) ∙ f.rows i h;
    })

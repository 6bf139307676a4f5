-- Events one after the other: what they answer and what they leave.
use Prim.Native.Nat.{ℕ, ◌*◌}
use mathlib.Core.Path.{◌≡◌, refl, sym, ◌∙◌, ap, ap₂}
use mathlib.Core.Bool.{false}
use mathlib.Core.List.{List, [], ◌∷◌, ◌++◌}
use lib.Dec.{eqb}
use lib.ListN.{length, drop}
use lib.Seq.{take_at, drop_at}
use Rattle.limits.specs.Events.{Event}
use Rattle.limits.proofs.Laws.Choice.{pick_yes, pick_no}
use Rattle.events.specs.State.{LinkState, Moved, more_rows, unmoved}
use Rattle.events.specs.Rules.{answer, acted, stepped}
use Rattle.events.proofs.Laws.Sums.{same-rows}
use Rattle.lists.specs.Runs.{supply_left, buffer_left, continued, next, after_all, answers}

-- the record is what is written and the rest behind it
abbrev pub reached : LinkState → ℕ → ℕ → ℕ → List ℕ → List ℕ → Moved
reached s sent acknowledged recorded written rest =
    record {
      state = s;
      counts = record { sent = sent; acknowledged = acknowledged; recorded = recorded };
      buffer = written ++ rest;
    }

-- an event answers n and leaves y
pub record Does (supply : List ℕ) (x : Moved) (e : Event) (n : ℕ) (y : Moved) : Type 0 where
  pub answered : answer (supply_left supply x) (buffer_left x) x.state e ≡ n
  pub left : next supply x e ≡ y

pub leaves : {supply : List ℕ} {x : Moved} {e : Event} {n : ℕ} {y z : Moved} → Does supply x e n y → y ≡ z → Does supply x e n z
leaves d p = record { answered = d.answered; left = d.left ∙ p }

module _ (supply : List ℕ) (s : LinkState) (sent acknowledged recorded : ℕ) (written rest : List ℕ) (fits : length written ≡ 16 * recorded) (e : Event) where
  abbrev here : Moved
  here = reached s sent acknowledged recorded written rest

  left_is : buffer_left here ≡ rest
  left_is = drop_at written rest (16 * recorded) fits

  -- by what it does with the rests of supply and record
  by_rests : (n : ℕ) (m : Moved) → answer (drop (16 * sent) supply) rest s e ≡ n → stepped (drop (16 * sent) supply) rest s e ≡ m
      → Does supply here e n (record { state = m.state; counts = more_rows here.counts m.counts; buffer = written ++ m.buffer })
  unfolding next continued
  by_rests n m a h =
      record {
        answered = ap (λ r. answer (drop (16 * sent) supply) r s e) left_is ∙ a;
        left =
            ap (continued here) (ap (λ r. stepped (drop (16 * sent) supply) r s e) left_is ∙ h)
            ∙ ap (λ w. record { state = m.state; counts = more_rows here.counts m.counts; buffer = w ++ m.buffer }) (take_at written rest (16 * recorded) fits);
      }

  pub does : (m : Moved) → answer (drop (16 * sent) supply) rest s e ≡ 0 → acted (drop (16 * sent) supply) rest s e ≡ m
      → Does supply here e 0 (record { state = m.state; counts = more_rows here.counts m.counts; buffer = written ++ m.buffer })
  unfolding stepped
  does m a h =
      by_rests 0 m a
      (pick_yes (eqb (answer (drop (16 * sent) supply) rest s e) 0) (acted (drop (16 * sent) supply) rest s e) (unmoved s rest) m (ap (λ k. eqb k 0) a) h)

  -- a refused event leaves what it found
  pub refuses : (n : ℕ) → answer (drop (16 * sent) supply) rest s e ≡ n → eqb n 0 ≡ false → Does supply here e n here
  unfolding stepped
  refuses n a z =
      leaves
      (by_rests n (unmoved s rest) a
      (pick_no (eqb (answer (drop (16 * sent) supply) rest s e) 0) (acted (drop (16 * sent) supply) rest s e) (unmoved s rest) (unmoved s rest) (ap (λ k. eqb k 0) a ∙ z) refl))
      (ap (λ k. record { state = s; counts = k; buffer = written ++ rest }) (sym (same-rows here.counts)))

module _ (supply : List ℕ) where
  pub record Goes (x : Moved) (es : List Event) (ns : List ℕ) (y : Moved) : Type 0 where
    pub answered : answers supply x es ≡ ns
    pub left : after_all supply x es ≡ y

  pub none : (x : Moved) → Goes x [] [] x
  unfolding answers after_all
  none x = record { answered = refl; left = refl }

  pub and-then : (x y z : Moved) (e : Event) (es : List Event) (n : ℕ) (ns : List ℕ) → Does supply x e n y → Goes y es ns z → Goes x (e ∷ es) (n ∷ ns) z
  unfolding answers after_all
  and-then x y z e es n ns d g =
      record {
        answered = ap₂ (λ k u. k ∷ answers supply u es) d.answered d.left ∙ ap (n ∷◌) g.answered;
        left = ap (λ u. after_all supply u es) d.left ∙ g.left;
      }

-- A list of events on the parts of supply and record that were left, and then continued, is the list on the whole.
use Prim.Native.Nat.{ℕ, suc, ◌+◌, ◌*◌, ◌≤◌}
use mathlib.Core.Path.{◌≡◌, refl, sym, ◌∙◌, ap, ap₂}
use mathlib.Core.List.{List, [], ◌∷◌, ◌++◌, append_assoc}
use native.Mathlib.Omega.{arith}
use lib.ListN.{length, take, drop, take-append-drop}
use lib.Seq.{length-take-le, take-append-add, drop-append-add, drop-drop}
use Rattle.limits.specs.Events.{Event}
use Rattle.events.specs.State.{LinkState, Moved, unmoved}
use Rattle.events.specs.Counts.{Account, more_messages}
use Rattle.events.specs.Rules.{answer, stepped}
use Rattle.events.specs.Account.{if_done}
use Rattle.events.proofs.Laws.Sums.{from-none, account-assoc}
use Rattle.lists.specs.Account.{account}
use Rattle.lists.specs.Runs.{supply_left, buffer_left, continued, next, after_all, answers}

pub moved_same : (x y : Moved) → x.state ≡ y.state → x.counts.sent ≡ y.counts.sent → x.counts.acknowledged ≡ y.counts.acknowledged
    → x.counts.recorded ≡ y.counts.recorded
    → x.buffer ≡ y.buffer
    → x ≡ y
moved_same x y p a b c q = λ i. record { state = p i; counts = record { sent = a i; acknowledged = b i; recorded = c i }; buffer = q i }

-- the front of n elements, and a list behind it
take-front : (n m : ℕ) (xs ys : List ℕ) → n ≤ length xs → take (n + m) (take n xs ++ ys) ≡ take n xs ++ take m ys
take-front n m xs ys h =
    ap (λ k. take (k + m) (take n xs ++ ys)) (sym (length-take-le n xs h)) ∙ take-append-add (take n xs) ys m

drop-front : (n m : ℕ) (xs ys : List ℕ) → n ≤ length xs → drop (n + m) (take n xs ++ ys) ≡ drop m ys
drop-front n m xs ys h =
    ap (λ k. drop (k + m) (take n xs ++ ys)) (sym (length-take-le n xs h)) ∙ drop-append-add (take n xs) ys m

-- nothing moved
pub continued-unmoved : (x : Moved) → continued x (unmoved x.state (buffer_left x)) ≡ x
unfolding continued
continued-unmoved x =
    moved_same (continued x (unmoved x.state (buffer_left x))) x refl (omega arith) (omega arith) (omega arith)
    (take-append-drop (16 * x.counts.recorded) x.buffer)

module _ (x : Moved) (within : 16 * x.counts.recorded ≤ length x.buffer) where
  continued-assoc : (y z : Moved) → continued (continued x y) z ≡ continued x (continued y z)
  unfolding continued
  continued-assoc y z =
      moved_same (continued (continued x y) z) (continued x (continued y z)) refl (omega arith) (omega arith) (omega arith)
      (ap (◌++ z.buffer)
      (ap (λ k. take k (take (16 * x.counts.recorded) x.buffer ++ y.buffer)) {x = 16 * (x.counts.recorded + y.counts.recorded)}
      {y = 16 * x.counts.recorded + 16 * y.counts.recorded} (omega arith)
      ∙ take-front (16 * x.counts.recorded) (16 * y.counts.recorded) x.buffer y.buffer within)
      ∙ append_assoc (take (16 * x.counts.recorded) x.buffer) (take (16 * y.counts.recorded) y.buffer) z.buffer)

  buffer-left : (y : Moved) → buffer_left (continued x y) ≡ buffer_left y
  unfolding continued
  buffer-left y =
      ap (λ k. drop k (take (16 * x.counts.recorded) x.buffer ++ y.buffer)) {x = 16 * (x.counts.recorded + y.counts.recorded)}
      {y = 16 * x.counts.recorded + 16 * y.counts.recorded} (omega arith)
      ∙ drop-front (16 * x.counts.recorded) (16 * y.counts.recorded) x.buffer y.buffer within

  supply-left : (supply : List ℕ) (y : Moved) → supply_left supply (continued x y) ≡ supply_left (supply_left supply x) y
  unfolding continued
  supply-left supply y =
      ap (λ k. drop k supply) {x = 16 * (x.counts.sent + y.counts.sent)} {y = 16 * x.counts.sent + 16 * y.counts.sent} (omega arith)
      ∙ sym (drop-drop (16 * y.counts.sent) (16 * x.counts.sent) supply)

  shift-next : (supply : List ℕ) (y : Moved) (e : Event) → next supply (continued x y) e ≡ continued x (next (supply_left supply x) y e)
  unfolding next continued
  shift-next supply y e =
      ap₂ (λ s b. continued (continued x y) (stepped s b y.state e)) (supply-left supply y) (buffer-left y)
      ∙ continued-assoc y (stepped (supply_left (supply_left supply x) y) (buffer_left y) y.state e)

  shift-all : (supply : List ℕ) (y : Moved) (es : List Event)
      → after_all supply (continued x y) es ≡ continued x (after_all (supply_left supply x) y es)
  unfolding after_all
  shift-all supply y [] = refl
  shift-all supply y (e ∷ es) = ap (λ z. after_all supply z es) (shift-next supply y e) ∙ shift-all supply (next (supply_left supply x) y e) es

  shift-answers : (supply : List ℕ) (y : Moved) (es : List Event)
      → answers supply (continued x y) es ≡ answers (supply_left supply x) y es
  unfolding answers continued
  shift-answers supply y [] = refl
  shift-answers supply y (e ∷ es) =
      ap₂ ◌∷◌ (ap₂ (λ s b. answer s b y.state e) (supply-left supply y) (buffer-left y))
      (ap (λ z. answers supply z es) (shift-next supply y e) ∙ shift-answers supply (next (supply_left supply x) y e) es)

  pub shift : (supply : List ℕ) (es : List Event)
      → continued x (after_all (supply_left supply x) (unmoved x.state (buffer_left x)) es) ≡ after_all supply x es
  shift supply es = sym (shift-all supply (unmoved x.state (buffer_left x)) es) ∙ ap (λ z. after_all supply z es) (continued-unmoved x)

  pub shift-numbers : (supply : List ℕ) (es : List Event)
      → answers (supply_left supply x) (unmoved x.state (buffer_left x)) es ≡ answers supply x es
  shift-numbers supply es = sym (shift-answers supply (unmoved x.state (buffer_left x)) es) ∙ ap (λ z. answers supply z es) (continued-unmoved x)

module _ (of_event : LinkState → Event → Account) where
  module _ (x : Moved) (within : 16 * x.counts.recorded ≤ length x.buffer) where
    shift-on : (supply : List ℕ) (y : Moved) (es : List Event)
        → account of_event supply (continued x y) es ≡ account of_event (supply_left supply x) y es
    unfolding account continued
    shift-on supply y [] = refl
    shift-on supply y (e ∷ es) =
        ap₂ more_messages (ap₂ (λ s b. if_done s b y.state e (of_event y.state e)) (supply-left x within supply y) (buffer-left x within y))
        (ap (λ z. account of_event supply z es) (shift-next x within supply y e) ∙ shift-on supply (next (supply_left supply x) y e) es)

    pub shift-account : (supply : List ℕ) (es : List Event)
        → account of_event (supply_left supply x) (unmoved x.state (buffer_left x)) es ≡ account of_event supply x es
    shift-account supply es = sym (shift-on supply (unmoved x.state (buffer_left x)) es) ∙ ap (λ z. account of_event supply z es) (continued-unmoved x)

  -- the account of two lists, one after the other
  pub account-append : (supply : List ℕ) (x : Moved) (es fs : List Event)
      → account of_event supply x (es ++ fs) ≡ more_messages (account of_event supply x es) (account of_event supply (after_all supply x es) fs)
  unfolding account after_all
  account-append supply x [] fs = from-none (account of_event supply x fs)
  account-append supply x (e ∷ es) fs =
      let a = if_done (supply_left supply x) (buffer_left x) x.state e (of_event x.state e) in
      ap (more_messages a) (account-append supply (next supply x e) es fs)
      ∙ sym (account-assoc a (account of_event supply (next supply x e) es) (account of_event supply (after_all supply (next supply x e) es) fs))

pub length-answers : (supply : List ℕ) (x : Moved) (es : List Event) → length (answers supply x es) ≡ length es
unfolding answers
length-answers supply x [] = refl
length-answers supply x (e ∷ es) = ap suc (length-answers supply (next supply x e) es)

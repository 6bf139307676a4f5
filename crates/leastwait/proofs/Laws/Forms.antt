-- The states that a link passes through while one row is under way, and the rules of mat and pad on them.
use Prim.Native.Nat.{ℕ, zero, suc, ◌+◌, ◌-◌, ◌*◌, ◌≤◌, ◌<◌}
use mathlib.Core.Path.{◌≡◌, refl, sym, ◌∙◌, ap, ap₂}
use mathlib.Core.Bool.{false}
use mathlib.Core.List.{List, [], ◌∷◌, ◌++◌, map, map-append, append-nil}
use native.Mathlib.Omega.{arith}
use lib.Dec.{ltb}
use borrow.Author.Tests.{lt-ltb, lt-leb}
use lib.ListN.{get_or, take, drop, set, replicate, length-replicate, replicate-append-replicate}
use lib.Seq.{get_or_at}
use Rattle.limits.specs.declared.Limits.{Limits}
use Rattle.limits.specs.Lists.{tab, leading, joined}
use Rattle.limits.specs.Questions.{pick}
use Rattle.limits.specs.Ring.{distance, step}
use Rattle.limits.specs.Tables.{Message, Data, Reply, age}
use Rattle.limits.proofs.Laws.Choice.{pick_yes, pick_no}
use Rattle.mat.specs.Window.{MatState}
use Rattle.mat.specs.Rules as mat
use Rattle.pad.specs.Window.{empty, full, PadState, ready, contents}
use Rattle.pad.specs.Rules as pad
use Rattle.events.specs.State.{LinkState}

-- no row is outstanding, and one is
abbrev pub idle : ℕ → List ℕ → MatState
idle o timers = record { oldest = o; next = o; rows = []; timers = timers }

abbrev pub out : ℕ → ℕ → List ℕ → List ℕ → MatState
out o next row timers = record { oldest = o; next = next; rows = record { acknowledged = false; cells = row } ∷ []; timers = timers }

-- no row is held, and the wanted one is
abbrev pub free : ℕ → ℕ → PadState
free w wanted = record { wanted = wanted; slots = replicate w empty }

abbrev pub held : ℕ → ℕ → ℕ → List ℕ → PadState
held w wanted timer row = record { wanted = wanted; slots = full timer row ∷ replicate (w - 1) empty }

abbrev pub data_message : ℕ → List ℕ → ℕ → Message Data
data_message number row life = record { body = record { number = number; row = row }; life = life }

abbrev pub reply_message : ℕ → ℕ → Message Reply
reply_message number life = record { body = record { first = number; last = number }; life = life }

abbrev pub link_of : Limits → MatState → PadState → List (Message Data) → List (Message Reply) → LinkState
link_of l m p datas replies = record { limits = l; mat = m; pad = p; datas = datas; replies = replies }

map-replicate : {A B : Type 0} (f : A → B) (n : ℕ) (x : A) → map f (replicate n x) ≡ replicate n (f x)
map-replicate f zero x = refl
map-replicate f (suc n) x = ap (f x ∷◌) (map-replicate f n x)

-- a list of w equal elements from its first on
module _ {A : Type 0} (w : ℕ) (x : A) (some : 1 ≤ w) where
  from-first : replicate w x ≡ x ∷ replicate (w - 1) x
  from-first = ap (λ n. replicate n x) {x = w} {y = suc (w - 1)} (omega arith)

  pub rest-of : drop 1 (replicate w x) ≡ replicate (w - 1) x
  rest-of = ap (drop 1) from-first

  first-set : (y : A) → set (replicate w x) 0 y ≡ y ∷ replicate (w - 1) x
  first-set y = ap (λ xs. set xs 0 y) from-first

  one-more : replicate (w - 1) x ++ (x ∷ []) ≡ replicate w x
  one-more = replicate-append-replicate (w - 1) 1 x ∙ ap (λ n. replicate n x) {x = w - 1 + 1} {y = w} (omega arith)

-- the timers where that of the row before next is the only one above 0
abbrev pub last_timer : ℕ → ℕ → List ℕ
last_timer w t = replicate (w - 1) 0 ++ (t ∷ [])

pub timer-at : (w t : ℕ) → get_or (last_timer w t) (w - 1 + 0) 0 ≡ t
timer-at w t = get_or_at (replicate (w - 1) 0) t [] 0 (w - 1 + 0) (length-replicate (w - 1) 0 ∙ omega arith)

pub timers-fall : (d w t : ℕ) → map (λ x. x - d) (last_timer w t) ≡ last_timer w (t - d)
timers-fall d w t =
    map-append (λ x. x - d) (replicate (w - 1) 0) (t ∷ [])
    ∙ ap (◌++ ((t - d) ∷ [])) (map-replicate (λ x. x - d) (w - 1) 0 ∙ ap (replicate (w - 1)) {x = 0 - d} {y = 0} (omega arith))

pub life-falls : {B : Type 0} (d : ℕ) (body : B) (life : ℕ) → d < life
    → age d (record { body = body; life = life } ∷ []) ≡ record { body = body; life = life - d } ∷ []
unfolding age
life-falls d body life h = pick_no _ _ _ _ (lt-leb life d h) refl

pub free-ticked : (d w p : ℕ) → pad.ticked d (free w p) ≡ free w p
unfolding pad.ticked
free-ticked d w p = ap (λ xs. record { wanted = p; slots = xs }) (map-replicate (pad.slot_falls d) w empty)

pub held-ticked : (d w p timer : ℕ) (row : List ℕ) → pad.ticked d (held w p timer row) ≡ held w p (timer - d) row
unfolding pad.ticked
held-ticked d w p timer row = ap (λ xs. record { wanted = p; slots = full (timer - d) row ∷ xs }) (map-replicate (pad.slot_falls d) (w - 1) empty)

none-ready : (n : ℕ) → leading ready (replicate n empty) ≡ 0
unfolding leading ready pick
none-ready zero = refl
none-ready (suc n) = refl

pub one-ready : (w p timer : ℕ) (row : List ℕ) → 1 ≤ timer → pad.run (held w p timer row) ≡ 1
unfolding leading ready
one-ready w p timer row h = pick_yes _ _ _ _ (lt-ltb 0 timer h) (ap (◌+ 1) (none-ready (w - 1)))

-- the wanted row arrives
pub arrived : (l : Limits) (p n : ℕ) (row : List ℕ) → 1 ≤ l.window → distance (2 * l.window) p n ≡ 0
    → pad.arrival l (free l.window p) (record { number = n; row = row })
    ≡ record { state = held l.window p l.replywait row; old = false; reply = record { first = 0; last = 0 } }
unfolding pad.arrival
arrived l p n row some e =
    pick_yes _ _ _ _ (ap (λ k. ltb k l.window) e ∙ lt-ltb 0 l.window some)
    (ap (λ xs. record { state = record { wanted = p; slots = xs }; old = false; reply = record { first = 0; last = 0 } })
    (ap (λ k. set (replicate l.window empty) k (full l.replywait row)) e ∙ first-set l.window empty some (full l.replywait row)))

-- it is replied to
pub replied : (l : Limits) (p timer : ℕ) (row buffer : List ℕ) → 1 ≤ l.window → 1 ≤ timer → step (2 * l.window) p 0 ≡ p
    → pad.replying l (held l.window p timer row) buffer
    ≡ record {
      state = free l.window (step (2 * l.window) p 1);
      count = 1;
      reply = record { first = p; last = p };
      buffer = row ++ drop 16 buffer;
    }
unfolding pad.replying joined
replied l p timer row buffer some h e =
    ap (replying-of l p timer row buffer) (one-ready l.window p timer row h)
    ∙ (λ i. record {
      state = record { wanted = step (2 * l.window) p 1; slots = one-more l.window empty some i };
      count = 1;
      reply = record { first = p; last = e i };
      buffer = append-nil row i ++ drop 16 buffer;
    })
  where
    replying-of : (l : Limits) (p timer : ℕ) (row buffer : List ℕ) → ℕ → pad.Replying
    replying-of l p timer row buffer n =
        record {
          state =
              record {
                wanted = step (2 * l.window) p n;
                slots = drop n (held l.window p timer row).slots ++ replicate n empty;
              };
          count = n;
          reply = record { first = p; last = step (2 * l.window) p (n - 1) };
          buffer = joined (map contents (take n (held l.window p timer row).slots)) ++ drop (16 * n) buffer;
        }

-- its reply acknowledges it
pub acknowledged : (l : Limits) (o next : ℕ) (row timers : List ℕ) → distance (2 * l.window) o o ≡ 0 → next ≡ step (2 * l.window) o 1
    → mat.acknowledging l (out o next row timers) (record { first = o; last = o }) ≡ record { state = idle next timers; passed = 1 }
unfolding mat.passing mat.marked tab leading pick
acknowledged l o next row timers e q =
    ap₂ (λ a b. mat.passing l (out o next row timers) a (b + 1)) e e
    ∙ ap (λ n. record { state = record { oldest = n; next = next; rows = []; timers = timers }; passed = 1 }) (sym q)

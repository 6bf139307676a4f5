-- How many messages a table has when one has left, and when time has passed.
use Prim.Native.Nat.{ℕ, zero, suc, ◌+◌, ◌≤◌, ◌<◌}
use mathlib.Core.Path.{◌≡◌, refl, ap}
use mathlib.Core.List.{List, [], ◌∷◌, map}
use native.Mathlib.Omega.{arith}
use lib.Dec.{leb}
use lib.ListN.{length}
use Rattle.limits.specs.Lists.{how_many}
use Rattle.limits.specs.Questions.{pick}
use Rattle.limits.specs.Tables.{Message, on_body, remove, age, aged, expired}
use Rattle.limits.proofs.Laws.Choice.{test, pick_yes, pick_no}

pub size-remove : {A : Type 0} (p : ℕ) (ms : List A) → p < length ms → length (remove p ms) + 1 ≡ length ms
unfolding remove
size-remove p [] h = absurd (omega arith)
size-remove zero (m ∷ ms) h = omega arith
size-remove (suc p) (m ∷ ms) h = let i = size-remove p ms (omega arith) in omega arith

module _ {B : Type 0} (d : ℕ) where
  -- those that are left, and those whose life is over
  pub size-age : (ms : List (Message B)) → length (age d ms) + expired d ms ≡ length ms
  unfolding age how_many
  size-age [] = refl
  size-age (m ∷ ms) =
      let i = size-age ms in
      test (leb m.life d)
      (λ e. let a = pick_yes (leb m.life d) (age d ms) (aged d m ∷ age d ms) _ e refl in
      let b = pick_yes (leb m.life d) (expired d ms + 1) (expired d ms) _ e refl in
      let l = ap length a in omega arith)
      (λ e. let a = pick_no (leb m.life d) (age d ms) (aged d m ∷ age d ms) _ e refl in
      let b = pick_no (leb m.life d) (expired d ms + 1) (expired d ms) _ e refl in
      let l = ap length a in omega arith)

  pub expired-most : (ms : List (Message B)) → expired d ms ≤ length ms
  expired-most ms = let s = size-age ms in omega arith

-- whose life is over does not hang on what messages carry
pub expired-read : {B C : Type 0} (g : B → C) (d : ℕ) (ms : List (Message B)) → expired d (map (on_body g) ms) ≡ expired d ms
unfolding how_many
expired-read g d [] = refl
expired-read g d (m ∷ ms) = ap (λ n. pick (leb m.life d) (n + 1) n) (expired-read g d ms)

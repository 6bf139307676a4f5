-- What limits that pass their questions are known to satisfy.
use Prim.Native.Nat.{ℕ, ◌+◌, ◌≤◌}
use mathlib.Core.Path.{◌≡◌, refl}
use mathlib.Core.Bool.{Bool, true, false, ◌&&◌}
use native.Mathlib.Omega.{arith}
use lib.Dec.{eqb, leb}
use borrow.Author.Tests.{leb-true, le-leb, eqb-true, eqb-false, not-true, eq-eqb, ne_eqb}
use Rattle.limits.specs.declared.Limits.{Limits}
use Rattle.limits.specs.Questions.{pick, first_no}
use Rattle.limits.specs.Limits.{between, sum_of_times, window_fits, times_fit, wait_fits, least_wait, limits_questions, accepted, sound_limits}
use Rattle.limits.proofs.Laws.Choice.{and_left, and_right, both, two, test, pick_yes}

pub between-low : (low high x : ℕ) → between low high x ≡ true → low ≤ x
between-low low high x e = leb-true low x (and_left (leb low x) (leb x high) e)

pub between-high : (low high x : ℕ) → between low high x ≡ true → x ≤ high
between-high low high x e = leb-true x high (and_right (leb low x) (leb x high) e)

pub in_between : (low high x : ℕ) → low ≤ x → x ≤ high → between low high x ≡ true
in_between low high x h k = both (leb low x) (leb x high) (le-leb _ _ h) (le-leb _ _ k)

-- each time is 1 to 250
pub record Times (l : Limits) : Type 0 where
  pub data-low : 1 ≤ l.datalife
  pub data-high : l.datalife ≤ 250
  pub reply-low : 1 ≤ l.replylife
  pub reply-high : l.replylife ≤ 250
  pub wait-low : 1 ≤ l.replywait
  pub wait-high : l.replywait ≤ 250

pub times : (l : Limits) → times_fit l ≡ true → Times l
unfolding times_fit
times l e =
    record {
      data-low = between-low 1 250 l.datalife d;
      data-high = between-high 1 250 l.datalife d;
      reply-low = between-low 1 250 l.replylife r;
      reply-high = between-high 1 250 l.replylife r;
      wait-low = between-low 1 250 l.replywait q;
      wait-high = between-high 1 250 l.replywait q;
    }
  where
    d : between 1 250 l.datalife ≡ true
    d = and_left _ (between 1 250 l.replylife && between 1 250 l.replywait) e

    rest : (between 1 250 l.replylife && between 1 250 l.replywait) ≡ true
    rest = and_right (between 1 250 l.datalife) _ e

    r : between 1 250 l.replylife ≡ true
    r = and_left _ (between 1 250 l.replywait) rest

    q : between 1 250 l.replywait ≡ true
    q = and_right (between 1 250 l.replylife) _ rest

-- the three questions, passed
pub record Passes (l : Limits) : Type 0 where
  pub window : window_fits l.window ≡ true
  pub times : times_fit l ≡ true
  pub wait : wait_fits l ≡ true

first_passes : (a b d : Bool) → pick a (pick b (pick {A = ℕ} d 0 3) 2) 1 ≡ 0 → (a ≡ true) × (b ≡ true) × (d ≡ true)
unfolding pick
first_passes true true true e = (refl, refl, refl)
first_passes true true false e = absurd (eqb-false 3 0 refl e)
first_passes true false d e = absurd (eqb-false 2 0 refl e)
first_passes false b d e = absurd (eqb-false 1 0 refl e)

pub passes : (l : Limits) → first_no (limits_questions l) ≡ 0 → Passes l
passes l e = record { window = h.0; times = h.1; wait = h.2 }
  where
    h : (window_fits l.window ≡ true) × (times_fit l ≡ true) × (wait_fits l ≡ true)
    h = first_passes _ _ _ e

-- Of the resend wait the proofs use no more than that the three times do not exceed it by more than 2.
pub record Good (l : Limits) : Type 0 where
  pub window-low : 1 ≤ l.window
  pub window-high : l.window ≤ 32
  pub times : Times l
  pub resend-low : sum_of_times l ≤ l.resendwait + 2
  pub resend-high : l.resendwait ≤ 1000

pub wait-range : (l : Limits) → wait_fits l ≡ true → eqb l.resendwait 0 ≡ false → between (least_wait l) 1000 l.resendwait ≡ true
unfolding wait_fits
wait-range l e ne = rw ne at e

passes-good : (l : Limits) → Passes l → eqb l.resendwait 0 ≡ false → Good l
unfolding window_fits least_wait
passes-good l p ne =
    let range = wait-range l p.wait ne in
    let low = between-low (least_wait l) 1000 l.resendwait range in
    record {
      window-low = between-low 1 32 l.window p.window;
      window-high = between-high 1 32 l.window p.window;
      times = times l p.times;
      resend-low = omega arith;
      resend-high = between-high (least_wait l) 1000 l.resendwait range;
    }

pub sound-parts : (l : Limits) → sound_limits l ≡ true → (first_no (limits_questions l) ≡ 0) × (eqb l.resendwait 0 ≡ false)
unfolding sound_limits
sound-parts l e = let x = two (eqb (first_no (limits_questions l)) 0) _ e in (eqb-true _ _ x.0, not-true _ x.1)

pub good : (l : Limits) → sound_limits l ≡ true → Good l
good l e = let s = sound-parts l e in passes-good l (passes l s.0) s.1

-- a wait in the range of question 3 passes it
pub range-passes : (l : Limits) → between (least_wait l) 1000 l.resendwait ≡ true → wait_fits l ≡ true
unfolding wait_fits
range-passes l e = test (eqb l.resendwait 0) (λ z. rw z refl) (λ z. rw z e)

pub all_pass : (l : Limits) → Passes l → first_no (limits_questions l) ≡ 0
all_pass l p = pick_yes _ _ _ _ p.window (pick_yes _ _ _ _ p.times (pick_yes _ _ _ _ p.wait refl))

pub least-not-0 : (l : Limits) → Times l → 1 ≤ least_wait l
unfolding least_wait
least-not-0 l t = omega arith

-- the wait of accepted limits: the one asked for, or the least
accepted-range : (l : Limits) → Passes l → between (least_wait l) 1000 (accepted l).resendwait ≡ true
unfolding accepted pick least_wait
accepted-range l p =
    test (eqb l.resendwait 0)
    (λ e. rw e (let t = times l p.times in in_between (least_wait l) 1000 _ (omega arith) (omega arith)))
    (λ e. rw e (wait-range l p.wait e))

-- accepted limits are sound
pub accepted-sound : (l : Limits) → first_no (limits_questions l) ≡ 0 → sound_limits (accepted l) ≡ true
unfolding sound_limits accepted least_wait times_fit
accepted-sound l e =
    both _ _ (eq-eqb _ _ (all_pass (accepted l) (record { window = p.window; times = p.times; wait = range-passes (accepted l) range })))
    (rw (ne_eqb (accepted l).resendwait 0 (λ z. let h = not-0 in omega arith)))
  where
    p : Passes l
    p = passes l e

    range : between (least_wait l) 1000 (accepted l).resendwait ≡ true
    range = accepted-range l p

    not-0 : 1 ≤ (accepted l).resendwait
    not-0 = let low = between-low (least_wait l) 1000 (accepted l).resendwait range in let least = least-not-0 l (times l p.times) in omega arith

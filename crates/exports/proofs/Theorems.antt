-- What is proved of links in C and of limits beyond the contracts.
use Prim.Native.Nat.{ℕ, ◌≤◌, ◌<◌}
use mathlib.Core.Path.{◌≡◌, refl, sym, ◌∙◌, ap, ap₂}
use mathlib.Core.Bool.{Bool, true, false, ◌&&◌, ◌||◌}
use mathlib.Core.List.{List, [], ◌∷◌, map}
use native.Mathlib.Omega.{arith}
use lib.Dec.{eqb, leb}
use borrow.Author.Tests.{le-leb, lt-leb, leb-true, ne_eqb}
use Rattle.limits.specs.declared.Limits.{Limits}
use Rattle.limits.specs.Questions.{pick, first_no}
use Rattle.limits.specs.Limits.{between, times_fit, wait_fits, least_wait, window_fits, limits_questions}
use Rattle.limits.proofs.Laws.Choice.{pick_yes, pick_no, split, test, three, and_right, and-no-right}
use Rattle.events.specs.declared.Link.{Link}
use Rattle.std.specs.Prelude.{Result}
use Rattle.limits.specs.declared.answer.Refusal.{Refusal}
use Rattle.events.specs.declared.Counts.{Counts}
use Rattle.agreement.specs.Calls.{Line, following, Chain}
use Rattle.clinks.specs.Links.{CLink, link_at, stored}
use Rattle.clinks.specs.Asked.{capped, asked}
use Rattle.exports.specs.Calls.{Leaves, CCall, CChain}
use Rattle.clinks.proofs.Laws.Links.{stored_back}
use Rattle.exports.proofs.Laws.Calls.{left-link}

-- A link that is stored gives itself back.
pub stored-loads : (k : Link) → link_at (stored k) ≡ k
stored-loads = stored_back

-- What a call leaves is the link that it gave: the next call from C works on it.
pub left-loads : (k : Link) (answer : Result Counts Refusal) (before after : CLink) (counts : List ℕ) (r : ℕ) → Leaves k answer before after counts r
    → link_at after ≡ k
left-loads = left-link

-- A list of calls from C is a list of runs and single events, each on the link that came out of the one before it: demand 3
-- (`Agreement` in agreement/specs/Agreed) speaks of it.
pub chain : (supply : List ℕ) (x : Line) (s : CLink) (cs : List CCall) → link_at s ≡ x.link → CChain supply x s cs
    → Chain supply x (map (λ (c : CCall). c.made) cs)
chain supply x s [] e h = tt
chain supply x s (c ∷ cs) e h =
    (rw e at h.0, chain supply (following x c.made) c.left cs (left-loads c.made.link c.made.result s c.left c.counts c.number h.1) h.2)

capped-low : (x : ℕ) → x ≤ 65535 → capped x ≡ x
unfolding capped
capped-low x h = pick_yes _ _ _ _ (le-leb x 65535 h) refl

capped-high : (x : ℕ) → 65535 < x → capped x ≡ 65535
unfolding capped
capped-high x h = pick_no _ _ _ _ (lt-leb x 65535 h) refl

-- what is above every limit is refused, capped or not
high-no : (low high x : ℕ) → high < x → between low high x ≡ false
high-no low high x h = and-no-right (leb low x) _ (lt-leb x high h)

abbrev raw : ℕ → ℕ → ℕ → ℕ → ℕ → Limits
raw w d r p t = record { window = w; datalife = d; replylife = r; replywait = p; resendwait = t }

abbrev times : ℕ → ℕ → ℕ → Bool
times d r p = between 1 250 d && (between 1 250 r && between 1 250 p)

times_capped : (d r p : ℕ) → times (capped d) (capped r) (capped p) ≡ times d r p
times_capped d r p = ap₂ ◌&&◌ (one d) (ap₂ ◌&&◌ (one r) (one p))
  where
    one : (x : ℕ) → between 1 250 (capped x) ≡ between 1 250 x
    one x =
        split x 65535 (λ h. ap (between 1 250) (capped-low x h))
        (λ h. ap (between 1 250) (capped-high x h) ∙ sym (high-no 1 250 x (omega arith)))

-- the third question: the wait, of which `least` is the least
abbrev wait : ℕ → ℕ → Bool
wait least t = eqb t 0 || between least 1000 t

wait-capped : (least t : ℕ) → wait least (capped t) ≡ wait least t
wait-capped least t =
    split t 65535 (λ h. ap (wait least) (capped-low t h))
    (λ h. ap (wait least) (capped-high t h)
    ∙ high-no least 1000 65535 (omega arith)
    ∙ sym (high-no least 1000 t (omega arith))
    ∙ ap (◌|| between least 1000 t) (sym (ne_eqb t 0 (λ e. let q : t ≡ 0 = e in omega arith))))

small : (x : ℕ) → between 1 250 x ≡ true → capped x ≡ x
small x e = capped-low x (let h = leb-true x 250 (and_right (leb 1 x) (leb x 250) e) in omega arith)

-- the number that the three tests give
abbrev numbered : Bool → Bool → Bool → ℕ
numbered w t x = pick w (pick t (pick x 0 3) 2) 1

same_number : (w t t' x x' : Bool) → t ≡ t' → (t' ≡ true → x ≡ x') → numbered w t x ≡ numbered w t' x'
same_number w t t' x x' e f =
    test t' (λ y. ap₂ (numbered w) e (f y))
    (λ n. ap (λ (a : ℕ). pick w a 1) (pick_no t (pick x 0 3) 2 2 (e ∙ n) refl ∙ sym (pick_no t' (pick x' 0 3) 2 2 n refl)))

window-capped : (w : ℕ) → window_fits (capped w) ≡ window_fits w
unfolding window_fits
window-capped w =
    split w 65535 (λ h. ap (between 1 32) (capped-low w h))
    (λ h. ap (between 1 32) (capped-high w h) ∙ sym (high-no 1 32 w (omega arith)))

-- Limits of any numbers are answered as the rules answer them: the cap changes no answer.
pub limits-capped : (w d r p t : ℕ) → first_no (limits_questions (asked w d r p t)) ≡ first_no (limits_questions (raw w d r p t))
unfolding asked times_fit wait_fits least_wait
limits-capped w d r p t =
    ap (λ (b : Bool). numbered b (times (capped d) (capped r) (capped p)) (wait (least_wait (asked w d r p t)) (capped t))) (window-capped w)
    ∙ same_number (window_fits w) (times (capped d) (capped r) (capped p)) (times d r p) (wait (least_wait (asked w d r p t)) (capped t)) (wait (least_wait (raw w d r p t)) t)
    (times_capped d r p)
    (λ e. let f = three (between 1 250 d) (between 1 250 r) (between 1 250 p) e in
    (λ i. wait (least_wait (raw w (small d f.0 i) (small r f.1 i) (small p f.2 i) t)) (capped t)) ∙ wait-capped (least_wait (raw w d r p t)) t)

-- The rules give what the table of bench cases says, for every w from 1 to 32, by computation.
use Prim.Native.Nat.{ℕ, ◌+◌, ◌-◌, ◌≤◌}
use mathlib.Core.Path.{◌≡◌, refl, sym, ap, ◌∙◌}
use native.Mathlib.Omega.{arith}
use lib.ListN.{get_or, replicate, get_or-replicate}
use Rattle.limits.proofs.Laws.Lists.{get_or-tab}
use Rattle.limits.specs.Lists.{tab, all, leading, joined}
use Rattle.limits.specs.Limits.{limits_questions, least_wait, window_fits, times_fit, wait_fits, accepted}
use Rattle.limits.specs.Questions.{pick, first_no}
use Rattle.limits.specs.Cells.{legal_cell}
use Rattle.limits.specs.Ring.{distance, step}
use Rattle.limits.specs.Tables.{remove, age}
use Rattle.limits.specs.Events.{event}
use Rattle.tables.specs.Words.{messages}
use Rattle.air.specs.Forms.{messages_of}
use Rattle.mat.specs.View.{mat_state}
use Rattle.mat.specs.Rules as mat
use Rattle.pad.specs.Window.{ready}
use Rattle.pad.specs.View.{slot_at, pad_state}
use Rattle.pad.specs.Rules as pad
use Rattle.unbounded.specs.Ends.{at}
use Rattle.unbounded.specs.Rules.{after}
use Rattle.unbounded.specs.Lists as unbounded
use Rattle.events.specs.Rules.{stepped}
use Rattle.lists.specs.Runs as built
use Rattle.events.specs.View.{link_state}
use Rattle.cases.specs.Cases.{Holds, table, Every, limits, unbounded_ends, built_ends, events_f, events_h}

infixr 4 ◌then◌
-- the first case holds, then the others
◌then◌ : {A B : Type 0} → A → B → A × B
a then b = (a, b)

-- f w is x, since f is x at each of 1 to 32. One `refl` shows that, so no w needs a line of its own.
pub for-each : {w : ℕ} → 1 ≤ w → w ≤ 32 → {A : Type 0} (f : ℕ → A) {x : A} → tab 32 (λ i. f (i + 1)) ≡ replicate 32 x → f w ≡ x
for-each {w} some most f {x} e =
    ap f {x = w} {y = w - 1 + 1} (omega arith)
    ∙ sym (get_or-tab 32 (λ i. f (i + 1)) (w - 1) x (omega arith))
    ∙ ap (λ xs. get_or xs (w - 1) x) e
    ∙ get_or-replicate 32 (w - 1) x x (omega arith)

pub cases : (w : ℕ) → 1 ≤ w → w ≤ 32 → Every Holds (table w)
unfolding pick all tab leading joined legal_cell distance step remove age event least_wait window_fits times_fit wait_fits accepted at after unbounded.answers unbounded.after_all built.answers built.after_all built.next built.continued stepped link_state messages messages_of mat_state pad_state slot_at ready mat.sending mat.resending mat.marked mat.passing mat.ticked pad.arrival pad.replying pad.ticked
cases w some most =
    -- A
    (for-each some most (λ v. first_no (limits_questions (limits v 0))) refl, refl)
    -- B
    then (for-each some most (λ v. first_no (limits_questions (limits v 3))) refl, refl)
    then (for-each some most (λ v. first_no (limits_questions (limits v 4))) refl, refl)
    -- C
    then refl
    then refl
    then (refl, refl)
    -- D
    then (refl, refl, refl)
    then (refl, refl, refl)
    then (refl, refl, refl)
    then (refl, refl, refl)
    -- E
    then (refl, refl)
    -- F
    then (for-each some most (λ v. unbounded_ends v events_f) refl, for-each some most (λ v. built_ends v events_f) refl)
    -- G
    then (refl, refl)
    -- H
    then (for-each some most (λ v. unbounded_ends v events_h) refl, for-each some most (λ v. built_ends v events_h) refl)
    -- I
    then (refl, refl)
    then (refl, refl)
    -- J
    then (refl, refl)
    then refl
    then tt

-- How the mat's arrays show its window, question 4 of a mat, and what its calls promise.
-- Free, and not shown: the cells of rows not outstanding, and what stands beyond w. Marks of rows not outstanding are off by
-- question 4, and every call keeps that.
use Rattle.std.specs.Prelude.{ℕ, ◌≡◌, ◌+◌, ◌-◌, ◌*◌, ◌<◌, ◌≤◌, Bool, true, false, not, ◌&&◌, List, leb, ltb, get_or, replicate, Result}
use Rattle.limits.specs.declared.Limits.{Limits}
use Rattle.limits.specs.Lists.{tab, all}
use Rattle.limits.specs.Cells.{row_at, legal_row}
use Rattle.limits.specs.declared.answer.Refusal.{Refusal}
use Rattle.limits.specs.Questions.{Question, Answer, Changed}
use Rattle.limits.specs.Limits.{sound_limits}
use Rattle.limits.specs.Ring.{distance, place}
use Rattle.limits.specs.Tables.{Data}
use Rattle.mat.specs.declared.Mat.{Mat}
use Rattle.mat.specs.declared.lentmat.LentMat.{LentMat}
use Rattle.mat.specs.Window.{MatState}
use Rattle.mat.specs.Rules.{Sending, Acknowledging}

-- the mat of its two numbers and its three arrays
abbrev pub mat_of : ℕ → ℕ → List Bool → List ℕ → List ℕ → Mat
mat_of oldest next marks timers cells = record { oldest = oldest; next = next; marks = marks; timers = timers; cells = cells }

-- the mat that is lent
abbrev pub lent_mat : LentMat → Mat
lent_mat m = mat_of m.oldest m.next m.marks.now m.timers.now m.cells.now

-- What every call leaves: the arrays that are lent, so that whoever lent them finds what it wrote.
abbrev pub StaysLent : LentMat → LentMat → Type 0
StaysLent a b =
    (b.marks.ghost_name ≡ a.marks.ghost_name)
    × (b.timers.ghost_name ≡ a.timers.ghost_name) × (b.cells.ghost_name ≡ a.cells.ghost_name)

abbrev pub outstanding_of : ℕ → Mat → ℕ
outstanding_of w m = distance (2 * w) m.oldest m.next

-- the mark and the cells of number oldest + k
abbrev pub mark_at : ℕ → Mat → ℕ → Bool
mark_at w m k = get_or m.marks (place w (m.oldest + k)) false

abbrev pub cells_at : ℕ → Mat → ℕ → List ℕ
cells_at w m k = row_at m.cells (place w (m.oldest + k))

unfoldable pub mat_state : ℕ → Mat → MatState
mat_state w m =
    record {
      oldest = m.oldest;
      next = m.next;
      rows = tab (outstanding_of w m) (λ k. record { acknowledged = mark_at w m k; cells = cells_at w m k });
      timers = tab w (λ i. get_or m.timers (place w (m.next + i)) 0);
    }

abbrev pub fresh_mat : Mat
fresh_mat = record { oldest = 0; next = 0; marks = replicate 32 false; timers = replicate 32 0; cells = replicate 512 0 }

-- question 4 of a mat. Its numbers are below 2w and at most w rows are outstanding.
abbrev pub sound_numbers : ℕ → Mat → Bool
sound_numbers w m = ltb m.oldest (2 * w) && (ltb m.next (2 * w) && leb (outstanding_of w m) w)

-- Oldest is unmarked, and no row that is not outstanding is marked.
abbrev pub sound_marks : ℕ → Mat → Bool
sound_marks w m = not (mark_at w m 0) && all not (tab (w - outstanding_of w m) (λ i. mark_at w m (outstanding_of w m + i)))

-- All w timers are at most the resend wait, and the cells of outstanding rows are legal.
unfoldable pub sound_mat : Limits → Mat → Bool
sound_mat l m =
    sound_numbers l.window m
    && (sound_marks l.window m
    && (all (λ t. leb t l.resendwait) (tab l.window (λ i. get_or m.timers i 0))
    && all legal_row (tab (outstanding_of l.window m) (cells_at l.window m))))

-- question 4 of limits and a mat, passed
abbrev pub SoundAt : Limits → Mat → Type 0
SoundAt l m = (sound_limits l ≡ true) × (sound_mat l m ≡ true)

-- question 4 passed, of the limits and the mat's numbers: what an inner call asks that needs no more of the mat
abbrev pub NumbersAt : Limits → Mat → Type 0
NumbersAt l m = (sound_limits l ≡ true) × (m.oldest < 2 * l.window) × (m.next < 2 * l.window) × (outstanding_of l.window m ≤ l.window)

-- What the mat's calls promise: the answer, what an Ok holds, and the mat afterwards.
abbrev pub SendCall : Limits → List Question → Result Data Refusal → Sending → Mat → Mat → Type 0
SendCall l questions result done before after =
    Changed questions result done.message (mat_state l.window after) done.state (sound_mat l) before after

abbrev pub AcknowledgeCall : Limits → List Question → Result ℕ Refusal → Acknowledging → Mat → Mat → Type 0
AcknowledgeCall l questions result done before after =
    Changed questions result done.passed (mat_state l.window after) done.state (sound_mat l) before after

abbrev pub TickCall : Limits → List Question → Answer → MatState → Mat → Mat → Type 0
TickCall l questions result done before after =
    Changed questions result tt (mat_state l.window after) done (sound_mat l) before after

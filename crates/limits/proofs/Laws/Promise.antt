-- Laws on what a call promises: from the first no to the two records that contracts cite.
use Prim.Native.Nat.{ℕ, ◌≤◌, ◌<◌}
use mathlib.Core.Path.{◌≡◌, refl, sym, ◌∙◌, ap}
use mathlib.Core.Bool.{Bool, true, false}
use mathlib.Core.List.{List, ◌∷◌}
use lib.Dec.{eqb}
use borrow.Author.Tests.{le-leb, lt-leb}
use Rattle.limits.specs.declared.answer.Refusal.{Refusal}
use Rattle.limits.specs.declared.answer.Refusal.TheVariants.{BadWindow, BadTimes, BadWait, Unsound, OddEvents, PartialRow, ShortAnswers, UnknownKind, BadArgument, WindowFull, NoRowLeft, IllegalCell, DataTableFull, NotOutstanding, AlreadyAcknowledged, TimerRunning, NoMessage, ReplyTableFull, SpanNotOutstanding, NothingReady, RecordFull, UnknownFrame, BadFrameLength, BadFrameWindow, BadFrameNumber, BadFrameLife, BadFrameSpan, ShortBuffer, BadInputLength, BadRecordLength, NoSuchPage, ShortPageBuffer, BadFile, SavedTwice, NoSuchLeg}
use Rattle.std.specs.Prelude.{Result, Ok, Err}
use Rattle.std.specs.Result.{is_ok, IsErrAnd}
use Rattle.limits.specs.Answer.{refusal_number, number_of}
use Rattle.limits.specs.Questions.{Question, ask, first_no, Answered, Changed, time_questions}
use Rattle.limits.proofs.Laws.Choice.{pick_yes, pick_no}

-- no refusal has the number 0
pub refusal-not-0 : (r : Refusal) → eqb (refusal_number r) 0 ≡ false
refusal-not-0 BadWindow = refl
refusal-not-0 BadTimes = refl
refusal-not-0 BadWait = refl
refusal-not-0 Unsound = refl
refusal-not-0 OddEvents = refl
refusal-not-0 PartialRow = refl
refusal-not-0 ShortAnswers = refl
refusal-not-0 UnknownKind = refl
refusal-not-0 BadArgument = refl
refusal-not-0 WindowFull = refl
refusal-not-0 NoRowLeft = refl
refusal-not-0 IllegalCell = refl
refusal-not-0 DataTableFull = refl
refusal-not-0 NotOutstanding = refl
refusal-not-0 AlreadyAcknowledged = refl
refusal-not-0 TimerRunning = refl
refusal-not-0 NoMessage = refl
refusal-not-0 ReplyTableFull = refl
refusal-not-0 SpanNotOutstanding = refl
refusal-not-0 NothingReady = refl
refusal-not-0 RecordFull = refl
refusal-not-0 UnknownFrame = refl
refusal-not-0 BadFrameLength = refl
refusal-not-0 BadFrameWindow = refl
refusal-not-0 BadFrameNumber = refl
refusal-not-0 BadFrameLife = refl
refusal-not-0 BadFrameSpan = refl
refusal-not-0 ShortBuffer = refl
refusal-not-0 BadInputLength = refl
refusal-not-0 BadRecordLength = refl
refusal-not-0 NoSuchPage = refl
refusal-not-0 ShortPageBuffer = refl
refusal-not-0 BadFile = refl
refusal-not-0 SavedTwice = refl
refusal-not-0 NoSuchLeg = refl

-- an answer is Ok exactly where its number is 0
pub is_ok-number : {X : Type 0} (a : Result X Refusal) → eqb (number_of a) 0 ≡ is_ok a
is_ok-number (Ok x) = refl
is_ok-number (Err r) = refusal-not-0 r

-- question 4 in front of others, passed and answered no
module _ (qs : List Question) (s : Bool) where
  pub sound-first : s ≡ true → first_no (ask 4 s ∷ qs) ≡ first_no qs
  sound-first e = pick_yes s (first_no qs) 4 (first_no qs) e refl

  pub unsound-first : s ≡ false → 4 ≡ first_no (ask 4 s ∷ qs)
  unsound-first e = sym (pick_no s (first_no qs) 4 4 e refl)

-- the one question of a tick
pub time-passed : (d : ℕ) → 1 ≤ d → 0 ≡ first_no (time_questions d)
time-passed d h = sym (pick_yes _ _ _ _ (le-leb 1 d h) refl)

pub time-refused : (d : ℕ) → d < 1 → 9 ≡ first_no (time_questions d)
time-refused d h = sym (pick_no _ _ _ _ (lt-leb 1 d h) refl)

-- the same promise by other questions with the same first no
pub answered-as : {X : Type 0} (qs qs' : List Question) (r : Result X Refusal) (done : X) → first_no qs ≡ first_no qs'
    → Answered qs r done → Answered qs' r done
answered-as qs qs' r done e a = record { number = a.number ∙ e; value = a.value }

pub changed-as : {S V X : Type 0} (qs qs' : List Question) (r : Result X Refusal) (done : X) (shown moved : V) (sound : S → Bool) (before after : S)
    → first_no qs ≡ first_no qs' → Changed qs r done shown moved sound before after → Changed qs' r done shown moved sound before after
changed-as qs qs' r done shown moved sound before after e c =
    record { answered = answered-as qs qs' r done e c.answered; left = c.left; kept = c.kept; stays = c.stays }

-- an answer, and what it holds read as another by f
abbrev pub read_by : {X X' : Type 0} → (X → X') → Result X Refusal → Result X' Refusal
read_by f (Ok x) = Ok (f x)
read_by f (Err refusal) = Err refusal

-- a promise whose value, state and what is shown of it are each read as another: by f, g and h
pub changed-read : {S S' V V' X X' : Type 0} (f : X → X') (h : V → V') (g : S → S') (qs qs' : List Question) (r : Result X Refusal) (done : X) (done' : X')
    (shown moved : V) (moved' : V') (sound : S → Bool) (sound' : S' → Bool) (before after : S)
    → first_no qs ≡ first_no qs' → f done ≡ done' → h moved ≡ moved' → ((s : S) → sound' (g s) ≡ sound s)
    → Changed qs r done shown moved sound before after → Changed qs' (read_by f r) done' (h shown) moved' sound' (g before) (g after)
changed-read f h g qs qs' (Ok x) done done' shown moved moved' sound sound' before after e d m same c =
    record {
      answered = record { number = c.answered.number ∙ e; value = ap f c.answered.value ∙ d };
      left = ap h c.left ∙ m;
      kept = tt;
      stays = λ b. same after ∙ c.stays (sym (same before) ∙ b);
    }
changed-read f h g qs qs' (Err x) done done' shown moved moved' sound sound' before after e d m same c =
    record {
      answered = record { number = c.answered.number ∙ e; value = tt };
      left = tt;
      kept = ap g c.kept;
      stays = λ b. same after ∙ c.stays (sym (same before) ∙ b);
    }

-- a call that is refused, and leaves the state as it was
pub changed-refused : {S V X : Type 0} (qs : List Question) (refusal : Refusal) (done : X) (shown moved : V) (sound : S → Bool) (before after : S)
    → refusal_number refusal ≡ first_no qs → after ≡ before → Changed qs (Err refusal) done shown moved sound before after
changed-refused qs refusal done shown moved sound before after e h =
    record { answered = record { number = e; value = tt }; left = tt; kept = h; stays = λ b. rw h b }

-- a refusal that `?` hands on, where the state is as it was
pub changed-handed_on : {S V X : Type 0} (qs : List Question) (r : Result X Refusal) (refusal : Refusal) (done : X) (shown moved : V) (sound : S → Bool) (before after : S)
    → IsErrAnd r (λ e. e ≡ refusal) → refusal_number refusal ≡ first_no qs → after ≡ before → Changed qs r done shown moved sound before after
changed-handed_on qs (Ok x) refusal done shown moved sound before after i e h = absurd i
changed-handed_on qs (Err r) refusal done shown moved sound before after i e h =
    changed-refused qs r done shown moved sound before after (ap refusal_number i ∙ e) h

-- Question 4 is put first: answered no, the state is as it was; passed, the call promises what its sound twin does.
module _ {S V X : Type 0} (qs : List Question) (s : Bool) (done : X) (shown moved : V) (sound : S → Bool) (before after : S) where
  pub changed-unsound : s ≡ false → after ≡ before → Changed (ask 4 s ∷ qs) (Err Unsound) done shown moved sound before after
  changed-unsound e h = changed-refused (ask 4 s ∷ qs) Unsound done shown moved sound before after (unsound-first qs s e) h

  pub changed-sound : (r : Result X Refusal) → s ≡ true → Changed qs r done shown moved sound before after
      → Changed (ask 4 s ∷ qs) r done shown moved sound before after
  changed-sound r e c = changed-as qs (ask 4 s ∷ qs) r done shown moved sound before after (sym (sound-first qs s e)) c

-- Bench cases A to J: what the rules must give, as one table. The three times are 1 throughout.
use Rattle.std.specs.Prelude.{ℕ, ◌+◌, ◌-◌, ◌*◌, ◌%◌, ◌≡◌, Bool, true, false, ◌&&◌, List, [], ◌∷◌, ◌++◌, map, leb, ltb, replicate, set}
use Rattle.limits.specs.declared.Limits.{Limits}
use Rattle.limits.specs.Lists.{tab}
use Rattle.limits.specs.Limits.{limits_questions, accepted}
use Rattle.limits.specs.Questions.{first_no}
use Rattle.limits.specs.Tables.{Message, Reply, span, no_reply}
use Rattle.limits.specs.Events.{events}
use Rattle.mat.specs.Window.{outstanding}
use Rattle.pad.specs.Window.{Slot, empty, full, PadState}
use Rattle.pad.specs.Rules.{Arrival, arrival}
use Rattle.frames.specs.declared.Frame.{Frame}
use Rattle.frames.specs.declared.Frame.TheVariants as frame_of
use Rattle.frames.specs.Layout.{reading}
use Rattle.frames.specs.Rules.{read_questions}
use Rattle.unbounded.specs.Ends.{Ends, fresh}
use Rattle.unbounded.specs.Lists as unbounded
use Rattle.events.specs.State.{Moved, unmoved}
use Rattle.lists.specs.Runs as built
use Rattle.events.specs.View.{link_state}
use Rattle.link.specs.View.{fresh_link}

-- refused by a number, or answered with 0 and then this value
pub data Outcome : Type 0 where
  refused : ℕ → Outcome
  done : ℕ → Outcome

-- the true number of a row that arrives: one of the w rows from wanted on, or one of the w rows before them
pub data Row : Type 0 where
  new : ℕ → Row
  old : ℕ → Row

-- What both ends show after a list of events. `replies` are those in the air, and `held` the rows that the pad still holds,
-- by their true numbers.
pub record Seen : Type 0 where
  pub answers : List ℕ
  pub sent : ℕ
  pub acknowledged : ℕ
  pub recorded : ℕ
  pub outstanding : ℕ
  pub replies : List (Message Reply)
  pub held : List ℕ

-- What is given, and last what is expected of it.
-- opening: w and resend wait asked for, and the wait of the link opened
-- number: w, wanted, a number modulo 2w that arrives, and the row it stands for
-- list: w, the bytes of the events, and what is seen after them; the resend wait is 4
-- frame: the bytes read, and the span of the reply
pub data Case : Type 0 where
  opening : ℕ → ℕ → Outcome → Case
  number : ℕ → ℕ → ℕ → Row → Case
  list : ℕ → List ℕ → Seen → Case
  frame : List ℕ → Outcome → Case

abbrev pub limits : ℕ → ℕ → Limits
limits w wait = record { window = w; datalife = 1; replylife = 1; replywait = 1; resendwait = wait }

abbrev pub Opens : Limits → Outcome → Type 0
Opens asked (refused n) = first_no (limits_questions asked) ≡ n
Opens asked (done wait) = (first_no (limits_questions asked) ≡ 0) × ((accepted asked).resendwait ≡ wait)

-- a pad with these rows of the window
abbrev pub pad_with : ℕ → ℕ → List Slot → PadState
pad_with w wanted slots = record { wanted = wanted % (2 * w); slots = slots }

abbrev pub none_held : ℕ → List Slot
none_held w = replicate w empty

abbrev pub arrives : ℕ → ℕ → ℕ → Arrival
arrives w wanted n = arrival (limits w 4) (pad_with w wanted (none_held w)) (record { number = n; row = [] })

-- A new row is held in the slot of its distance from wanted. An old one is replied to by itself and changes nothing.
abbrev pub Means : ℕ → ℕ → ℕ → Row → Type 0
Means w wanted n (new m) =
    (arrives w wanted n ≡ record { state = pad_with w wanted (set (none_held w) (m - wanted) (full 1 [])); old = false; reply = no_reply.body })
    × (m % (2 * w) ≡ n)
    × ((leb wanted m && ltb m (wanted + w)) ≡ true)
Means w wanted n (old m) =
    (arrives w wanted n ≡ record { state = pad_with w wanted (none_held w); old = true; reply = record { first = n; last = n } })
    × (m % (2 * w) ≡ n)
    × ((leb wanted (m + w) && ltb m wanted) ≡ true)

-- five rows of sixteen 5s, and space for five
abbrev pub supply : List ℕ
supply = replicate 80 5

abbrev pub space : List ℕ
space = replicate 80 0

-- the numbers from m on that are marked
abbrev pub marked_from : ℕ → List Bool → List ℕ
marked_from m [] = []
marked_from m (true ∷ marks) = m ∷ marked_from (m + 1) marks
marked_from m (false ∷ marks) = marked_from (m + 1) marks

abbrev pub is_full : Slot → Bool
is_full empty = false
is_full (full timer row) = true

abbrev pub seen_unbounded : ℕ → List ℕ → Ends → Seen
seen_unbounded w answers s =
    record {
      answers = answers;
      sent = s.next;
      acknowledged = s.oldest;
      recorded = s.wanted;
      outstanding = s.next - s.oldest;
      replies = s.reply_table;
      held = marked_from s.wanted (tab w (λ i. s.held (s.wanted + i)));
    }

-- Its replies carry numbers modulo 2w. Those of the table are below 2w, where a number and its true number are the same.
abbrev pub seen_built : List ℕ → Moved → Seen
seen_built answers x =
    record {
      answers = answers;
      sent = x.counts.sent;
      acknowledged = x.counts.acknowledged;
      recorded = x.counts.recorded;
      outstanding = outstanding x.state.mat;
      replies = x.state.replies;
      held = marked_from x.counts.recorded (map is_full x.state.pad.slots);
    }

abbrev pub start : Limits → Moved
start l = unmoved (link_state (fresh_link l)) space

abbrev pub unbounded_ends : ℕ → List ℕ → Seen
unbounded_ends w bytes =
    seen_unbounded w (unbounded.answers (limits w 4) supply 80 fresh (events bytes)) (unbounded.after_all (limits w 4) supply 80 fresh (events bytes))

abbrev pub built_ends : ℕ → List ℕ → Seen
built_ends w bytes =
    seen_built (built.answers supply (start (limits w 4)) (events bytes)) (built.after_all supply (start (limits w 4)) (events bytes))

-- the frame is a reply frame, with this span
abbrev pub HasSpan : Frame → ℕ → Type 0
HasSpan (frame_of.Data f) n = ⊥
HasSpan (frame_of.Reply f) n = span f.window f.reply ≡ n

abbrev pub Reads : List ℕ → Outcome → Type 0
Reads bytes (refused n) = first_no (read_questions bytes) ≡ n
Reads bytes (done n) = (first_no (read_questions bytes) ≡ 0) × HasSpan (reading bytes) n

abbrev pub Holds : Case → Type 0
Holds (opening w wait o) = Opens (limits w wait) o
Holds (number w wanted n row) = Means w wanted n row
Holds (list w bytes seen) = (unbounded_ends w bytes ≡ seen) × (built_ends w bytes ≡ seen)
Holds (frame bytes o) = Reads bytes o

abbrev pub Every : (Case → Type 0) → List Case → Type 0
Every P [] = Unit {0}
Every P (x ∷ xs) = P x × Every P xs

abbrev pub reply_of : ℕ → ℕ → ℕ → Message Reply
reply_of first last life = record { body = record { first = first; last = last }; life = life }

abbrev pub events_e : List ℕ
events_e =
    1 ∷ 0 ∷ 1 ∷ 0 ∷ 3 ∷ 0 ∷ 4 ∷ 0 ∷ 3 ∷ 0 ∷ 4 ∷ 0 ∷ 5 ∷ 0 ∷ 5 ∷ 0
    ∷ 1 ∷ 0 ∷ 6 ∷ 0 ∷ 1 ∷ 0 ∷ 3 ∷ 0 ∷ 8 ∷ 4 ∷ 2 ∷ 0 ∷ 3 ∷ 0 ∷ 4 ∷ 0 ∷ []

abbrev pub events_f : List ℕ
events_f = 1 ∷ 0 ∷ 8 ∷ 3 ∷ 2 ∷ 0 ∷ 8 ∷ 1 ∷ 2 ∷ 0 ∷ []

abbrev pub events_h : List ℕ
events_h = 1 ∷ 0 ∷ 8 ∷ 1 ∷ 3 ∷ 0 ∷ []

abbrev pub events_i : List ℕ
events_i = 1 ∷ 0 ∷ 1 ∷ 0 ∷ 3 ∷ 0 ∷ 4 ∷ 0 ∷ 3 ∷ 0 ∷ 4 ∷ 0 ∷ 5 ∷ 1 ∷ []

-- A, B, F and H name no window: they stand with w, and the others with the number that they name.
abbrev pub table : ℕ → List Case
table w =
    -- A
    opening w 0 (done 1)
    -- B
    ∷ opening w 3 (done 3)
    ∷ opening w 4 (done 4)
    -- C
    ∷ opening 0 4 (refused 1)
    ∷ opening 33 4 (refused 1)
    ∷ opening 32 4 (done 4)
    -- D
    ∷ number 2 6 2 (new 6)
    ∷ number 2 6 3 (new 7)
    ∷ number 2 6 0 (old 4)
    ∷ number 2 6 1 (old 5)
    -- E: the last reply covers row 2, and row 3 is held
    ∷ list 2 events_e
    (record { answers = replicate 16 0; sent = 4; acknowledged = 2; recorded = 3; outstanding = 2; replies = reply_of 2 2 1 ∷ []; held = 3 ∷ [] })
    -- F
    ∷ list w events_f
    (record { answers = 0 ∷ 0 ∷ 16 ∷ 0 ∷ 0 ∷ []; sent = 1; acknowledged = 0; recorded = 0; outstanding = 1; replies = []; held = [] })
    -- G
    ∷ list 1 (1 ∷ 0 ∷ 1 ∷ 0 ∷ [])
    (record { answers = 0 ∷ 10 ∷ []; sent = 1; acknowledged = 0; recorded = 0; outstanding = 1; replies = []; held = [] })
    -- H
    ∷ list w events_h
    (record { answers = 0 ∷ 0 ∷ 17 ∷ []; sent = 1; acknowledged = 0; recorded = 0; outstanding = 1; replies = []; held = [] })
    -- I: up to 5 1, and on to 2 1 and 5 0
    ∷ list 2 events_i
    (record { answers = replicate 7 0; sent = 2; acknowledged = 0; recorded = 2; outstanding = 2; replies = reply_of 0 0 1 ∷ []; held = [] })
    ∷ list 2 (events_i ++ (2 ∷ 1 ∷ 5 ∷ 0 ∷ []))
    (record { answers = replicate 7 0 ++ (15 ∷ 0 ∷ []); sent = 2; acknowledged = 2; recorded = 2; outstanding = 0; replies = []; held = [] })
    -- J
    ∷ frame (2 ∷ 1 ∷ 2 ∷ 3 ∷ 0 ∷ []) (done 2)
    ∷ frame (2 ∷ 1 ∷ 2 ∷ 3 ∷ 1 ∷ []) (refused 27)
    ∷ []

-- What one event and a run promise of a link.
use Rattle.std.specs.Prelude.{ℕ, ◌/◌, ◌%◌, ◌≡◌, true, List, [], ◌∷◌, ◌++◌, eqb, leb, length, take, Result}
use Rattle.limits.specs.declared.answer.Refusal.{Refusal}
use Rattle.limits.specs.Lists.{all}
use Rattle.limits.specs.Questions.{Question, ask, whole_rows, Changed}
use Rattle.limits.specs.Events.{event}
use Rattle.events.specs.declared.Link.{Link}
use Rattle.events.specs.declared.Counts.{Counts}
use Rattle.events.specs.State.{LinkState}
use Rattle.events.specs.Rules.{questions, acted}
use Rattle.events.specs.Account.{counted}
use Rattle.events.specs.View.{link_state, sound_link, LinkCall}
use Rattle.lists.specs.View.{Run, refuses, running}

-- The call for one event: 4, 6, and the event's own questions.
abbrev pub Stepped : Link → ℕ → ℕ → List ℕ → List ℕ → List ℕ → Link → Result Counts Refusal → Type 0
Stepped k kind argument supply before after k' r =
    let moved = acted supply before (link_state k) (event kind argument) in
    LinkCall (ask 4 (sound_link k) ∷ (whole_rows supply ++ questions supply (length before) (link_state k) (event kind argument))) (moved.state, moved.buffer)
    (counted supply before (link_state k) (event kind argument)) k before k' after r

-- 5, 6 and 7, of the lengths of what is lent to a run: event bytes, cells of supply, answer bytes
abbrev pub lent_asks : ℕ → ℕ → ℕ → List Question
lent_asks bytes supply answer_buffer =
    ask 5 (eqb (bytes % 2) 0) ∷ ask 6 (eqb (supply % 16) 0) ∷ ask 7 (leb (bytes / 2) answer_buffer) ∷ []

abbrev pub lent_questions : List ℕ → List ℕ → List ℕ → List Question
lent_questions bytes supply answer_buffer = lent_asks (length bytes) (length supply) (length answer_buffer)

-- What a run promises that does what `done` says: 4, 5, 6 and 7. Refused, it leaves the link, the record and the answer buffer as
-- they were.
abbrev pub RunCall : Run → Link → List ℕ → List ℕ → List ℕ → List ℕ → Link → List ℕ → List ℕ → Result Counts Refusal → Type 0
RunCall done k bytes supply before answers_before k' after answers_after r =
    Changed {S = Link × List ℕ × List ℕ} {V = LinkState × List ℕ × List ℕ} (ask 4 (sound_link k) ∷ lent_questions bytes supply answers_before) r
    done.counts (link_state k', after, answers_after) (done.state, done.buffer, done.answers) (λ x. sound_link x.0)
    (k, before, answers_before) (k', after, answers_after)

-- Where every event was refused the link is as it was, its free parts too.
pub record Ran (k : Link) (bytes supply before after answers_before answers_after : List ℕ) (k' : Link) (r : Result Counts Refusal) : Type 0 where
  pub called : RunCall (running k bytes supply before answers_before) k bytes supply before answers_before k' after answers_after r
  pub still : all refuses (take (length bytes / 2) answers_after) ≡ true → k' ≡ k

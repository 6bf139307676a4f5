-- What an event asks of the built ends, and what it does. `supply` is the cells that are left to send, and `buffer` the
-- record behind the rows already written.
use Rattle.std.specs.Prelude.{ℕ, false, not, ◌||◌, List, [], ◌∷◌, ◌++◌, eqb, length, get_or}
use Rattle.limits.specs.Questions.{pick, Question, ask, first_no}
use Rattle.limits.specs.Tables.{Message, Data, Reply, has_room, put, remove, age, no_data, no_reply}
use Rattle.limits.specs.Events.{Event, unknown, misfit, send, resend, arrive_data, reply, arrive_reply, lose_data, lose_reply, tick}
use Rattle.mat.specs.Rules as mat
use Rattle.pad.specs.Window.{PadState}
use Rattle.pad.specs.Rules as pad
use Rattle.air.specs.Rules.{room_questions, place_questions}
use Rattle.events.specs.State.{LinkState, Moved, one_sent, acknowledged_by, recorded_by, unmoved}

abbrev pub data_at : LinkState → ℕ → Data
data_at s p = (get_or s.datas p no_data).body

abbrev pub reply_at : LinkState → ℕ → Reply
reply_at s p = (get_or s.replies p no_reply).body

-- what the pad makes of message p
abbrev pub arrival_at : LinkState → ℕ → pad.Arrival
arrival_at s p = pad.arrival s.limits s.pad (data_at s p)

abbrev pub questions : List ℕ → ℕ → LinkState → Event → List Question
questions supply space s unknown = ask 8 false ∷ []
questions supply space s misfit = ask 9 false ∷ []
questions supply space s send = mat.send_questions s.limits s.mat supply ++ room_questions 13 s.datas
questions supply space s (resend k) = mat.resend_questions s.limits s.mat k ++ room_questions 13 s.datas
questions supply space s (arrive_data p) =
    place_questions p s.datas ++ (ask 18 (not (arrival_at s p).old || has_room s.replies) ∷ [])
questions supply space s reply = pad.reply_questions s.pad space ++ room_questions 18 s.replies
questions supply space s (arrive_reply p) = place_questions p s.replies ++ mat.acknowledge_questions s.limits s.mat (reply_at s p)
questions supply space s (lose_data p) = place_questions p s.datas
questions supply space s (lose_reply p) = place_questions p s.replies
questions supply space s (tick d) = []

-- a message with a full life
abbrev pub data_out : LinkState → Data → Message Data
data_out s x = record { body = x; life = s.limits.datalife }

abbrev pub reply_out : LinkState → Reply → Message Reply
reply_out s x = record { body = x; life = s.limits.replylife }

-- the mat sent a row, and its message is in the air
abbrev pub sent_out : LinkState → mat.Sending → LinkState
sent_out s x = record { limits = s.limits; mat = x.state; pad = s.pad; datas = put (data_out s x.message) s.datas; replies = s.replies }

-- message p left the data table: an old row was replied to, a row of the window changed the pad
abbrev pub old_taken : LinkState → ℕ → Reply → LinkState
old_taken s p x = record { limits = s.limits; mat = s.mat; pad = s.pad; datas = remove p s.datas; replies = put (reply_out s x) s.replies }

abbrev pub new_taken : LinkState → ℕ → PadState → LinkState
new_taken s p x = record { limits = s.limits; mat = s.mat; pad = x; datas = remove p s.datas; replies = s.replies }

abbrev pub taken : LinkState → ℕ → pad.Arrival → LinkState
taken s p y = pick y.old (old_taken s p y.reply) (new_taken s p y.state)

-- what an event does that passed its questions
abbrev pub acted : List ℕ → List ℕ → LinkState → Event → Moved
acted supply buffer s unknown = unmoved s buffer
acted supply buffer s misfit = unmoved s buffer
acted supply buffer s send =
    record {
      state = sent_out s (mat.sending s.limits s.mat supply);
      counts = one_sent;
      buffer = buffer;
    }
acted supply buffer s (resend k) = unmoved (sent_out s (mat.resending s.limits s.mat k)) buffer
acted supply buffer s (arrive_data p) = unmoved (taken s p (arrival_at s p)) buffer
acted supply buffer s reply =
    let x = pad.replying s.limits s.pad buffer in
    record {
      state = record { limits = s.limits; mat = s.mat; pad = x.state; datas = s.datas; replies = put (reply_out s x.reply) s.replies };
      counts = recorded_by x.count;
      buffer = x.buffer;
    }
acted supply buffer s (arrive_reply p) =
    let x = mat.acknowledging s.limits s.mat (reply_at s p) in
    record {
      state = record { limits = s.limits; mat = x.state; pad = s.pad; datas = s.datas; replies = remove p s.replies };
      counts = acknowledged_by x.passed;
      buffer = buffer;
    }
acted supply buffer s (lose_data p) =
    unmoved (record { limits = s.limits; mat = s.mat; pad = s.pad; datas = remove p s.datas; replies = s.replies }) buffer
acted supply buffer s (lose_reply p) =
    unmoved (record { limits = s.limits; mat = s.mat; pad = s.pad; datas = s.datas; replies = remove p s.replies }) buffer
acted supply buffer s (tick d) =
    unmoved
    (record {
      limits = s.limits;
      mat = mat.ticked d s.mat;
      pad = pad.ticked d s.pad;
      datas = age d s.datas;
      replies = age d s.replies;
    })
    buffer

abbrev pub answer : List ℕ → List ℕ → LinkState → Event → ℕ
answer supply buffer s e = first_no (questions supply (length buffer) s e)

-- A refused event changes nothing.
unfoldable pub stepped : List ℕ → List ℕ → LinkState → Event → Moved
stepped supply buffer s e = pick (eqb (answer supply buffer s e) 0) (acted supply buffer s e) (unmoved s buffer)

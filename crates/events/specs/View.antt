-- How the link's structs show its state, question 4 of a link, and what an event of a sound link promises.
use Rattle.std.specs.Prelude.{ℕ, ◌+◌, ◌^◌, ◌<◌, Bool, ◌&&◌, List, length, Result}
use Rattle.limits.specs.declared.answer.Refusal.{Refusal}
use Rattle.limits.specs.Questions.{Question, Answer, Changed}
use Rattle.limits.specs.Limits.{sound_limits}
use Rattle.limits.specs.Events.{Event}
use Rattle.mat.specs.View.{mat_state, sound_mat}
use Rattle.pad.specs.View.{pad_state, sound_pad}
use Rattle.air.specs.Data.{data_messages, sound_data_table}
use Rattle.air.specs.Replies.{reply_messages, sound_reply_table}
use Rattle.events.specs.declared.Link.{Link}
use Rattle.events.specs.declared.Counts.{Counts}
use Rattle.events.specs.State.{LinkState}
use Rattle.events.specs.Counts.{Account, added}
use Rattle.events.specs.Rules.{questions, acted}
use Rattle.events.specs.Account.{counted}

unfoldable pub link_state : Link → LinkState
link_state k =
    record {
      limits = k.limits;
      mat = mat_state k.limits.window k.mat;
      pad = pad_state k.limits.window k.pad;
      datas = data_messages k.datas;
      replies = reply_messages k.replies;
    }

-- question 4
unfoldable pub sound_link : Link → Bool
sound_link k =
    sound_limits k.limits
    && (sound_mat k.limits k.mat
    && (sound_pad k.limits k.pad && (sound_data_table k.limits k.datas && sound_reply_table k.limits k.replies)))

-- What a call on a link promises that puts `questions`, leaves the state and the record's contents `left`, and has `value` to
-- tell. Refused, it leaves both as they were.
abbrev pub LinkCall : {A : Type 0} → List Question → LinkState × List ℕ → A → Link → List ℕ → Link → List ℕ → Result A Refusal → Type 0
LinkCall questions left value k before k' after r =
    Changed {S = Link × List ℕ} questions r value (link_state k', after) left (λ x. sound_link x.0) (k, before) (k', after)

-- What an event of a sound link promises that is counted, where `counts` are the counts before it and `counts'` those after
-- it; `before` and `after` are the record's contents at entry and at exit. Refused, it leaves the counts, too, as they were.
abbrev pub Counted : Link → List ℕ → List ℕ → List ℕ → Counts → Event → Link → Counts → Answer → Type 0
Counted k supply before after counts e k' counts' r =
    let moved = acted supply before (link_state k) e in
    Changed {S = Link × List ℕ × Counts} {V = LinkState × List ℕ × Counts} (questions supply (length before) (link_state k) e) r tt
    (link_state k', after, counts') (moved.state, moved.buffer, added counts (counted supply before (link_state k) e)) (λ x. sound_link x.0)
    (k, before, counts) (k', after, counts')

-- each count has room for what one event adds
abbrev pub AccountRoom : Account → Type 0
AccountRoom a = (a.put + 32 < 2 ^ 64) × (a.arrived + 32 < 2 ^ 64) × (a.lost + 32 < 2 ^ 64) × (a.dropped + 32 < 2 ^ 64)

abbrev pub HasRoom : Counts → Type 0
HasRoom n =
    (n.sent + 32 < 2 ^ 64) × (n.acknowledged + 32 < 2 ^ 64) × (n.recorded + 32 < 2 ^ 64) × AccountRoom n.datas × AccountRoom n.replies

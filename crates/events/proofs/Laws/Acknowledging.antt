-- A reply of the table arrives at the mat.
use Prim.Native.Nat.{ℕ}
use mathlib.Core.Path.{◌≡◌, refl, sym, ◌∙◌, ap}
use mathlib.Core.List.{List, ◌++◌}
use lib.ListN.{get_or}
use Rattle.std.specs.Prelude.{Result, Ok}
use Rattle.limits.specs.declared.answer.Refusal.{Refusal}
use Rattle.limits.specs.Answer.{number_of}
use Rattle.limits.specs.Lists.{all}
use Rattle.limits.specs.Questions.{first_no}
use Rattle.limits.specs.Tables.{Reply, remove, no_reply}
use Rattle.limits.specs.Events.{arrive_reply}
use Rattle.limits.proofs.Laws.Questions.{behind-passed}
use Rattle.mat.specs.declared.Mat.{Mat}
use Rattle.mat.specs.Rules.{Acknowledging, acknowledge_questions, acknowledging}
use Rattle.mat.specs.View.{mat_state, AcknowledgeCall}
use Rattle.pad.specs.View.{pad_state}
use Rattle.air.specs.Rules.{place_questions}
use Rattle.air.specs.Data.{data_messages}
use Rattle.air.specs.Replies.{ReplyTable, reply_messages, ReplyHolds, ReplyFound}
use Rattle.events.specs.declared.Link.{Link}
use Rattle.events.specs.Rules.{acted}
use Rattle.events.specs.View.{link_state}
use Rattle.events.proofs.Laws.Parts.{Parts, whole}
use Rattle.events.proofs.Laws.Ends.{Moves, done}

module _ (k : Link) (p : Parts k) (n : ℕ) (body : Reply) (c : ReplyFound k.replies n (Ok body)) where
  passes : first_no (place_questions n (reply_messages k.replies)) ≡ 0
  passes = sym c.number

  body_is : body ≡ (get_or (reply_messages k.replies) n no_reply).body
  body_is = c.value

  module _ (r : Result ℕ Refusal) (m : Mat)
      (ca : AcknowledgeCall k.limits (acknowledge_questions k.limits (mat_state k.limits.window k.mat) body) r
      (acknowledging k.limits (mat_state k.limits.window k.mat) body) k.mat m) where
    pub both-asked : number_of r
        ≡ first_no (place_questions n (reply_messages k.replies)
        ++ acknowledge_questions k.limits (mat_state k.limits.window k.mat) (get_or (reply_messages k.replies) n no_reply).body)
    unfolding all
    both-asked =
        ca.answered.number
        ∙ ap (λ x. first_no (acknowledge_questions k.limits (mat_state k.limits.window k.mat) x)) body_is
        ∙ sym (behind-passed (place_questions n (reply_messages k.replies))
        (acknowledge_questions k.limits (mat_state k.limits.window k.mat) (get_or (reply_messages k.replies) n no_reply).body) refl passes)

  module _ (passed : ℕ) (m : Mat)
      (ca : AcknowledgeCall k.limits (acknowledge_questions k.limits (mat_state k.limits.window k.mat) body) (Ok passed)
      (acknowledging k.limits (mat_state k.limits.window k.mat) body) k.mat m) where
    pub acknowledged : (left : ReplyTable) (supply b : List ℕ) → ReplyHolds k.limits left (remove n (reply_messages k.replies))
        → Moves k supply b b (arrive_reply n) (acted supply b (link_state k) (arrive_reply n)).counts.acknowledged (record { limits = k.limits; mat = m; pad = k.pad; datas = k.datas; replies = left }) (Ok passed)
    unfolding link_state
    acknowledged left supply b cl =
        done _ _ k _ b b passed (sym (both-asked (Ok passed) m ca)) (ca.answered.value ∙ ap (λ x. (made x).passed) body_is)
        (λ i. record {
          limits = k.limits;
          mat = (ca.left ∙ ap (λ x. (made x).state) body_is) i;
          pad = pad_state k.limits.window k.pad;
          datas = data_messages k.datas;
          replies = cl.1 i;
        })
        refl
        (whole _ (record { limits = p.limits; mat = ca.stays p.mat; pad = p.pad; datas = p.datas; replies = cl.0 }))
      where
        made : Reply → Acknowledging
        made = acknowledging k.limits (mat_state k.limits.window k.mat)

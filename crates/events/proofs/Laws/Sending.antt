-- The mat's sendings, put in the air.
use Prim.Native.Nat.{ℕ}
use mathlib.Core.Path.{◌≡◌, refl, sym, ◌∙◌, ap}
use mathlib.Core.Bool.{true}
use mathlib.Core.List.{List, ◌++◌}
use lib.Dec.{ltb}
use lib.ListN.{length}
use Rattle.std.specs.Prelude.{Ok}
use Rattle.limits.specs.Questions.{Question}
use Rattle.limits.specs.Tables.{Data, capacity, put}
use Rattle.limits.proofs.Laws.Questions.{numbered, more-passes}
use Rattle.mat.specs.declared.Mat.{Mat}
use Rattle.mat.specs.Rules.{Sending}
use Rattle.mat.specs.View.{SendCall}
use Rattle.pad.specs.View.{pad_state}
use Rattle.air.specs.Rules.{room_questions}
use Rattle.air.specs.Data.{DataTable, data_messages, DataHolds}
use Rattle.air.specs.Replies.{reply_messages}
use Rattle.events.specs.declared.Link.{Link}
use Rattle.events.specs.Rules.{sent_out}
use Rattle.events.specs.View.{link_state, LinkCall}
use Rattle.events.proofs.Laws.Parts.{Parts, whole}
use Rattle.events.proofs.Laws.Ends.{done}

module _ (k : Link) (p : Parts k) (qs : List Question) (sending : Sending) (x : Data) (m : Mat) (c : SendCall k.limits qs (Ok x) sending k.mat m) where
  -- the table takes the message
  pub sends : (into : DataTable) (b : List ℕ) → numbered qs ≡ true → ltb (length (data_messages k.datas)) capacity ≡ true
      → DataHolds k.limits into (put (record { body = x; life = k.limits.datalife }) (data_messages k.datas))
      → LinkCall (qs ++ room_questions 13 (data_messages k.datas)) (sent_out (link_state k) sending, b)
      (tt {0}) k b (record { limits = k.limits; mat = m; pad = k.pad; datas = into; replies = k.replies }) b (Ok tt)
  unfolding link_state
  sends into b n t d =
      done _ _ k _ b b tt (sym (more-passes qs 0 c.answered.number 13 (ltb (length (data_messages k.datas)) capacity) n refl t)) refl
      (λ i. record {
        limits = k.limits;
        mat = c.left i;
        pad = pad_state k.limits.window k.pad;
        datas = (d.1 ∙ ap (λ (y : Data). put (record { body = y; life = k.limits.datalife }) (data_messages k.datas)) c.answered.value) i;
        replies = reply_messages k.replies;
      })
      refl
      (whole _ (record { limits = p.limits; mat = c.stays p.mat; pad = p.pad; datas = d.0; replies = p.replies }))

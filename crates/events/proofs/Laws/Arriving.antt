-- A data message of the table arrives at the pad.
use Prim.Native.Nat.{ℕ}
use mathlib.Core.Path.{◌≡◌, refl, sym, ◌∙◌, ap, ap₂}
use mathlib.Core.Bool.{Bool, true, false, not, ◌||◌}
use mathlib.Core.List.{List, [], ◌∷◌, ◌++◌}
use lib.Dec.{ltb}
use lib.ListN.{length, get_or}
use Rattle.limits.specs.Lists.{all}
use Rattle.std.specs.Prelude.{Ok}
use Rattle.limits.specs.Questions.{Question, ask, first_no}
use Rattle.limits.specs.Tables.{Data, capacity, remove, no_data}
use Rattle.limits.specs.Events.{arrive_data}
use Rattle.limits.proofs.Laws.Choice.{pick_yes, pick_no}
use Rattle.limits.proofs.Laws.Questions.{behind-passed}
use Rattle.pad.specs.Rules.{Arrival, arrival}
use Rattle.pad.specs.declared.Pad.{Pad}
use Rattle.mat.specs.View.{mat_state}
use Rattle.pad.specs.View.{pad_state, sound_pad}
use Rattle.air.specs.Rules.{place_questions, room_questions}
use Rattle.air.specs.Data.{DataTable, data_messages, DataHolds, DataFound}
use Rattle.air.specs.Replies.{reply_messages}
use Rattle.events.specs.declared.Link.{Link}
use Rattle.events.specs.Rules.{old_taken, new_taken}
use Rattle.events.specs.View.{link_state}
use Rattle.events.specs.Lent.{OldTaken}
use Rattle.events.proofs.Laws.Parts.{Parts, whole}
use Rattle.events.proofs.Laws.Ends.{Moves, done}

-- question 18 is put of an old row alone
old-asked : (o b : Bool) → o ≡ true → (not o || b) ≡ b
old-asked o b e = rw e

new-passes : (o b : Bool) → o ≡ false → (not o || b) ≡ true
new-passes o b e = rw e

module _ (k : Link) (p : Parts k) (n : ℕ) (body : Data) (c : DataFound k.datas n (Ok body)) where
  -- the message of the table, and what the pad makes of it
  abbrev in_table : Data
  in_table = (get_or (data_messages k.datas) n no_data).body

  abbrev made : Arrival
  made = arrival k.limits (pad_state k.limits.window k.pad) in_table

  passes : first_no (place_questions n (data_messages k.datas)) ≡ 0
  passes = sym c.number

  body_is : body ≡ in_table
  body_is = c.value

  -- what the pad makes of the message that was read
  module _ (a : Arrival) (is : arrival k.limits (pad_state k.limits.window k.pad) body ≡ a) where
    arrived-is : a ≡ made
    arrived-is = sym is ∙ ap (arrival k.limits (pad_state k.limits.window k.pad)) body_is

    old-as : made.old ≡ a.old
    old-as = sym (ap (λ (x : Arrival). x.old) arrived-is)

    abbrev asked : List Question
    asked = place_questions n (data_messages k.datas) ++ (ask 18 (not made.old || ltb (length (reply_messages k.replies)) capacity) ∷ [])

    asked-behind : first_no asked ≡ first_no (ask 18 (not made.old || ltb (length (reply_messages k.replies)) capacity) ∷ [])
    unfolding all
    asked-behind = behind-passed (place_questions n (data_messages k.datas)) (ask 18 (not made.old || ltb (length (reply_messages k.replies)) capacity) ∷ []) refl passes

    -- an old row
    module _ (o : a.old ≡ true) where
      reply-is : a.reply ≡ made.reply
      reply-is = ap (λ (x : Arrival). x.reply) arrived-is

      pub old-asks : first_no (room_questions 18 (reply_messages k.replies)) ≡ first_no asked
      old-asks = ap (λ x. first_no (ask 18 x ∷ [])) (sym (old-asked made.old (ltb (length (reply_messages k.replies)) capacity) (old-as ∙ o))) ∙ sym asked-behind

      pub old-arrives : (k' : Link) (supply b : List ℕ) → OldTaken k b n a.reply k' (Ok tt) → Moves k supply b b (arrive_data n) made.old k' (Ok true)
      unfolding link_state
      old-arrives k' supply b t =
          record {
            answered = record { number = t.answered.number ∙ old-asks; value = sym (old-as ∙ o) };
            left = t.left ∙ ap (λ x. (x, b)) (ap (old_taken (link_state k) n) reply-is ∙ sym (pick_yes made.old _ _ _ (old-as ∙ o) refl));
            kept = tt;
            stays = t.stays;
          }

    -- a row of the window, whose message left the table
    pub new-arrives : (pad : Pad) → sound_pad k.limits pad ≡ true → a.state ≡ pad_state k.limits.window pad → (left : DataTable)
        → DataHolds k.limits left (remove n (data_messages k.datas)) → a.old ≡ false → (supply b : List ℕ)
        → Moves k supply b b (arrive_data n) made.old (record { limits = k.limits; mat = k.mat; pad = pad; datas = left; replies = k.replies }) (Ok false)
    unfolding link_state
    new-arrives pad q is' left h o supply b =
        done asked _ k _ b b false
        (asked-behind ∙ pick_yes _ _ _ _ (new-passes made.old (ltb (length (reply_messages k.replies)) capacity) (old-as ∙ o)) refl) (sym (old-as ∙ o))
        (ap₂ (λ ms s. record { limits = k.limits; mat = mat_state k.limits.window k.mat; pad = s; datas = ms; replies = reply_messages k.replies }) h.1 (sym is')
        ∙ ap (λ (x : Arrival). new_taken (link_state k) n x.state) arrived-is
        ∙ sym (pick_no made.old _ _ _ (old-as ∙ o) refl))
        refl
        (whole _ (record { limits = p.limits; mat = p.mat; pad = q; datas = h.0; replies = p.replies }))

-- The run at wanted is recorded, and its reply put in the air.
use Prim.Native.Nat.{ℕ, ◌*◌, ◌<◌, ◌≤◌}
use mathlib.Core.Path.{◌≡◌, refl, sym, ◌∙◌, ap}
use mathlib.Core.Bool.{true, false}
use mathlib.Core.List.{List, ◌∷◌, ◌++◌}
use native.Mathlib.Omega.{arith}
use lib.Dec.{eqb, leb, ltb}
use lib.ListN.{length}
use borrow.Author.Tests.{ltb-true, lt-ltb, le-leb, lt-leb}
use Rattle.air.specs.Replies.{ReplyTable}
use Rattle.limits.specs.declared.Limits.{Limits}
use Rattle.std.specs.Prelude.{Ok}
use Rattle.limits.specs.Limits.{sound_limits}
use Rattle.limits.specs.Lists.{all}
use Rattle.limits.specs.Questions.{Question, ask, first_no}
use Rattle.limits.specs.Tables.{Reply, capacity, put}
use Rattle.limits.specs.Events.{reply}
use Rattle.limits.proofs.Laws.Choice.{pick_yes, pick_no}
use Rattle.limits.proofs.Laws.Good.{good}
use Rattle.limits.proofs.Laws.Questions.{each, more_stays}
use Rattle.mat.specs.View.{mat_state}
use Rattle.pad.specs.declared.Pad.{Pad}
use Rattle.pad.specs.Window.{PadState}
use Rattle.pad.specs.Rules.{Replying, run, run_questions, reply_questions, replying}
use Rattle.pad.specs.View.{pad_state, sound_pad}
use Rattle.pad.proofs.Laws.Messages.{run-most}
use Rattle.air.specs.Rules.{room_questions}
use Rattle.air.specs.Data.{data_messages}
use Rattle.air.specs.Replies as air
use Rattle.events.specs.declared.Link.{Link}
use Rattle.events.specs.Rules.{acted}
use Rattle.events.specs.View.{link_state}
use Rattle.events.proofs.Laws.Parts.{Parts, whole}
use Rattle.events.proofs.Laws.Ends.{Moves, done}

-- 20, 21 and 18 of a pad, a record's space and a table
module _ {A : Type 0} (s : PadState) (space : ℕ) (ms : List A) where
  abbrev pub reply_asks : List Question
  reply_asks = reply_questions s space ++ room_questions 18 ms

  pub nothing-ready : (found : ℕ) → found ≡ first_no (run_questions s) → eqb found 0 ≡ false → found ≡ first_no reply_asks
  nothing-ready found e z = more_stays (run_questions s) found e (ask 21 (leb (16 * run s) space) ∷ room_questions 18 ms) z

  module _ (low : 0 < run s) (n : ℕ) (is : n ≡ run s) where
    pub record-full : space < 16 * n → 21 ≡ first_no reply_asks
    record-full h = sym (pick_yes _ _ _ _ (lt-ltb 0 (run s) low) (pick_no _ _ _ _ (lt-leb (16 * run s) space (omega arith)) refl))

    module _ (h : 16 * n ≤ space) where
      pub table-full : ltb (length ms) capacity ≡ false → 18 ≡ first_no reply_asks
      table-full e = sym (pick_yes _ _ _ _ (lt-ltb 0 (run s) low) (pick_yes _ _ _ _ (le-leb (16 * run s) space (omega arith)) (pick_no _ _ _ _ e refl)))

      pub all_pass : ltb (length ms) capacity ≡ true → first_no reply_asks ≡ 0
      all_pass e = pick_yes _ _ _ _ (lt-ltb 0 (run s) low) (pick_yes _ _ _ _ (le-leb (16 * run s) space (omega arith)) (pick_yes _ _ _ _ e refl))

-- what the run's length tells
pub some-ready : (s : PadState) → 0 ≡ first_no (run_questions s) → 0 < run s
unfolding all
some-ready s e = ltb-true 0 (run s) (each (run_questions s) refl (sym e)).0

-- a run fits the window
pub count_fits : (l : Limits) (g : sound_limits l ≡ true) (p : Pad) → sound_pad l p ≡ true → (n : ℕ) → n ≡ run (pad_state l.window p) → (n ≤ l.window) × (n ≤ 32)
count_fits l g p s n e = let o = good l g in let m = run-most l g p s in (omega arith, omega arith)

module _ (k : Link) (p : Parts k) (before after : List ℕ)
    (z : first_no (reply_asks (pad_state k.limits.window k.pad) (length before) (air.reply_messages k.replies)) ≡ 0)
    (passed : Pad) (count : ℕ) (x : Reply) (sound : sound_pad k.limits passed ≡ true)
    (is : record { state = pad_state k.limits.window passed; count = count; reply = x; buffer = after }
    ≡ replying k.limits (pad_state k.limits.window k.pad) before) where
  pub replies : (into : ReplyTable) (supply : List ℕ)
      → air.ReplyHolds k.limits into (put (record { body = x; life = k.limits.replylife }) (air.reply_messages k.replies))
      → Moves k supply before after reply (acted supply before (link_state k) reply).counts.recorded (record { limits = k.limits; mat = k.mat; pad = passed; datas = k.datas; replies = into }) (Ok count)
  unfolding link_state
  replies into supply d =
      done (reply_asks (pad_state k.limits.window k.pad) (length before) (air.reply_messages k.replies)) _ k _ before after count z (ap (λ (y : Replying). y.count) is)
      (λ i. record {
        limits = k.limits;
        mat = mat_state k.limits.window k.mat;
        pad = (is i).state;
        datas = data_messages k.datas;
        replies =
            (d.1
            ∙ ap (λ (y : Replying). put (record { body = y.reply; life = k.limits.replylife }) (air.reply_messages k.replies)) is) i;
      })
      (ap (λ (y : Replying). y.buffer) is)
      (whole _ (record { limits = p.limits; mat = p.mat; pad = sound; datas = p.datas; replies = d.0 }))

-- What the parts of a pad's call give, put together as what it promises.
use Prim.Native.Nat.{ℕ, ◌*◌, ◌≤◌, ◌<◌}
use mathlib.Core.Path.{◌≡◌, refl, sym, ◌∙◌, ap, subst}
use mathlib.Core.Bool.{true, false}
use mathlib.Core.List.{List, [], ◌∷◌, ◌++◌}
use native.Mathlib.Omega.{arith}
use lib.Dec.{ltb, leb}
use lib.ListN.{length}
use borrow.Author.Tests.{ltb-true, le-leb, lt-leb}
use Rattle.std.specs.Prelude.{Result, Ok, Err}
use Rattle.limits.specs.declared.Limits.{Limits}
use Rattle.limits.specs.declared.answer.Refusal.{Refusal}
use Rattle.limits.specs.declared.answer.Refusal.TheVariants.{ShortBuffer}
use Rattle.limits.specs.Answer.{refusal_number}
use Rattle.limits.specs.Lists.{all}
use Rattle.limits.specs.Questions.{pick, Question, ask, first_no, Changed}
use Rattle.limits.specs.Ring.{distance}
use Rattle.limits.specs.Tables.{Data, Reply, no_reply}
use Rattle.limits.proofs.Laws.Choice.{pick_yes, pick_no, both, two}
use Rattle.limits.proofs.Laws.Promise.{changed-sound, changed-refused, refusal-not-0, time-passed}
use Rattle.limits.proofs.Laws.Questions.{each, more_stays, more-passes, more-fails, behind-passed}
use Rattle.pad.specs.declared.Pad.{Pad}
use Rattle.pad.specs.Window.{PadState}
use Rattle.pad.specs.Rules.{Arrival, Replying, holding, arrival, run, run_questions, replying, ticked}
use Rattle.pad.specs.Rules as pads
use Rattle.pad.specs.View.{pad_state, sound_pad, Shows}
use Rattle.pad.proofs.Laws.Calls.{arrival-new, arrival-old}
use Rattle.frames.specs.Layout.{frame_into, is_data}
use Rattle.frames.specs.Rules.{space_questions}
use Rattle.devices.specs.declared.PadDevice.{PadDevice}
use Rattle.devices.specs.Frames.{reply_frame, data_questions, data_in}
use Rattle.devices.specs.Pads.{pad_device, sound_device, shown, ReceiveCall, ReplyCall, TickCall}
use Rattle.devices.proofs.Laws.Frames.{received-numbered}

-- an arrival that did `done`
abbrev Arrived : Limits → Arrival → Pad → List ℕ → List ℕ → Pad → List ℕ → Result ℕ Refusal → Type 0
Arrived l done p bytes before p' after r =
    Changed {S = PadDevice × List ℕ} {V = (Limits × PadState) × List ℕ}
    (ask 4 (sound_device (pad_device l p)) ∷ (data_questions l bytes ++ pick done.old (space_questions 5 before) [])) r
    (pick done.old 5 0) (shown (pad_device l p'), after)
    ((l, done.state), pick done.old (frame_into (reply_frame l done.reply) before) before)
    (λ y. sound_device y.0) (pad_device l p, before) (pad_device l p', after)

module _ (l : Limits) (p : Pad) (s : sound_device (pad_device l p) ≡ true) where
  module _ (bytes before : List ℕ) where
    pub data-refused : (refusal : Refusal) → refusal_number refusal ≡ first_no (data_questions l bytes)
        → ReceiveCall (pad_device l p) bytes before (pad_device l p) before (Err refusal)
    data-refused refusal e =
        changed-sound _ _ _ _ _ _ _ _ _ s
        (changed-refused _ refusal _ _ _ _ _ _ (more_stays (data_questions l bytes) _ e _ (refusal-not-0 refusal)) refl)

    module _ (x : Data) (e : 0 ≡ first_no (data_questions l bytes)) (is : x ≡ data_in bytes) where
      then-asked : (rest : List Question) → first_no rest ≡ first_no (data_questions l bytes ++ rest)
      then-asked rest = sym (behind-passed (data_questions l bytes) rest (received-numbered l bytes (is_data bytes)) (sym e))

      -- the same promise by what the arrival did
      arrived : (done : Arrival) (p' : Pad) (after : List ℕ) (r : Result ℕ Refusal) → arrival l (pad_state l.window p) x ≡ done
          → Arrived l done p bytes before p' after r → ReceiveCall (pad_device l p) bytes before (pad_device l p') after r
      arrived done p' after r q c =
          subst (λ d. Arrived l d p bytes before p' after r) (sym q ∙ ap (arrival l (pad_state l.window p)) is) c

      pub row-held : (p' : Pad) → ltb (distance (2 * l.window) p.wanted x.number) l.window ≡ true → Shows l p' (holding l (pad_state l.window p) x)
          → ReceiveCall (pad_device l p) bytes before (pad_device l p') before (Ok 0)
      unfolding pick
      row-held p' h k =
          arrived (record { state = pad_state l.window p'; old = false; reply = no_reply.body }) p' before (Ok 0) (arrival-new l p x _ h k.1)
          (changed-sound _ _ _ _ _ _ _ _ _ s
          (record {
            answered = record { number = then-asked []; value = refl };
            left = refl;
            kept = tt;
            stays = λ b. both _ _ (two _ _ b).0 k.0;
          }))

      module _ (h : ltb (distance (2 * l.window) p.wanted x.number) l.window ≡ false) where
        pub old-short : length before < 5 → ReceiveCall (pad_device l p) bytes before (pad_device l p) before (Err ShortBuffer)
        unfolding pick
        old-short k =
            arrived _ p before (Err ShortBuffer) (arrival-old l p x h)
            (changed-sound _ _ _ _ _ _ _ _ _ s
            (changed-refused _ ShortBuffer _ _ _ _ _ _ (sym (pick_no (leb 5 (length before)) 0 28 28 (lt-leb 5 (length before) k) refl) ∙ then-asked (space_questions 5 before)) refl))

        pub old-answered : (after : List ℕ) (size : ℕ) → 5 ≤ length before
            → (after ≡ frame_into (reply_frame l (record { first = x.number; last = x.number })) before) × (size ≡ 5)
            → ReceiveCall (pad_device l p) bytes before (pad_device l p) after (Ok size)
        unfolding pick
        old-answered after size k w =
            arrived _ p after (Ok size) (arrival-old l p x h)
            (changed-sound _ _ _ _ _ _ _ _ _ s
            (record {
              answered = record { number = sym (pick_yes (leb 5 (length before)) 0 28 0 (le-leb 5 (length before) k) refl) ∙ then-asked (space_questions 5 before); value = w.1 };
              left = ap (λ y. (shown (pad_device l p), y)) w.0;
              kept = tt;
              stays = λ b. b;
            }))

  -- the run's rows and their reply
  module _ (rows before : List ℕ) where
    abbrev asked : List Question
    asked = pads.reply_questions (pad_state l.window p) (length rows)

    pub reply-refused : (refusal : Refusal) → refusal_number refusal ≡ first_no asked
        → ReplyCall (pad_device l p) rows before (pad_device l p) rows before (Err refusal)
    reply-refused refusal e =
        changed-sound _ _ _ _ _ _ _ _ _ s
        (changed-refused _ refusal _ _ _ _ _ _ (more_stays asked _ e (space_questions 5 before) (refusal-not-0 refusal)) refl)

    pub none-ready : (refusal : Refusal) → refusal_number refusal ≡ first_no (run_questions (pad_state l.window p)) → refusal_number refusal ≡ first_no asked
    none-ready refusal e = more_stays (run_questions (pad_state l.window p)) _ e (ask 21 (leb (16 * run (pad_state l.window p)) (length rows)) ∷ []) (refusal-not-0 refusal)

    module _ (count : ℕ) (e : 0 ≡ first_no (run_questions (pad_state l.window p))) (is : count ≡ run (pad_state l.window p)) where
      pub some-ready : 0 < count
      unfolding all
      some-ready = let h = ltb-true 0 (run (pad_state l.window p)) (each (run_questions (pad_state l.window p)) refl (sym e)).0 in omega arith

      pub record-full : length rows < 16 * count → 21 ≡ first_no asked
      unfolding all
      record-full h = more-fails (run_questions (pad_state l.window p)) 0 e 21 _ refl refl (lt-leb _ _ (omega arith))

      pub has-space : 16 * count ≤ length rows → 0 ≡ first_no asked
      unfolding all
      has-space h = more-passes (run_questions (pad_state l.window p)) 0 e 21 _ refl refl (le-leb _ _ (omega arith))

    module _ (e : 0 ≡ first_no asked) where
      pub reply-short : length before < 5 → ReplyCall (pad_device l p) rows before (pad_device l p) rows before (Err ShortBuffer)
      unfolding all
      reply-short h =
          changed-sound _ _ _ _ _ _ _ _ _ s
          (changed-refused _ ShortBuffer _ _ _ _ _ _ (more-fails asked 0 e 28 _ refl refl (lt-leb 5 (length before) h)) refl)

      pub reply-done : (p' : Pad) (count : ℕ) (x : Reply) (rows' after : List ℕ) (size : ℕ) → 5 ≤ length before
          → (sound_pad l p' ≡ true) × (record { state = pad_state l.window p'; count = count; reply = x; buffer = rows' } ≡ replying l (pad_state l.window p) rows)
          → (after ≡ frame_into (reply_frame l x) before) × (size ≡ 5)
          → ReplyCall (pad_device l p) rows before (pad_device l p') rows' after (Ok (record { rows = count; written = size }))
      unfolding all
      reply-done p' count x rows' after size h v w =
          changed-sound _ _ _ _ _ _ _ _ _ s
          (record {
            answered = record { number = more-passes asked 0 e 28 _ refl refl (le-leb 5 (length before) h); value = λ i. record { rows = (v.1 i).count; written = w.1 i } };
            left = λ i. ((l, (v.1 i).state), (v.1 i).buffer, (w.0 ∙ ap (λ (y : Replying). frame_into (reply_frame l y.reply) before) v.1) i);
            kept = tt;
            stays = λ b. both _ _ (two _ _ b).0 v.0;
          })

  -- time has passed
  pub tick-done : (p' : Pad) (d : ℕ) → 1 ≤ d → Shows l p' (ticked d (pad_state l.window p)) → TickCall (pad_device l p) d (pad_device l p') (Ok tt)
  tick-done p' d h e =
      changed-sound _ _ _ _ _ _ _ _ _ s
      (record {
        answered = record { number = time-passed d h; value = refl };
        left = ap (λ y. (l, y)) e.1;
        kept = tt;
        stays = λ b. both _ _ (two _ _ b).0 e.0;
      })

-- A list of what happens, step by step.
use Prim.Native.Nat.{ℕ}
use mathlib.Core.Path.{subst, ◌≡◌, refl, sym, ◌∙◌, ap}
use Rattle.limits.specs.Lists.{all, joined}
use Rattle.limits.proofs.Laws.Good.{good}
use Rattle.agreement.proofs.Laws.Codes.{none-full}
use Rattle.agreement.proofs.Laws.Track.{Track, track-all, answer-same}
use Rattle.world.specs.Chains.{Chain, end_of, all_events, all_numbers, Met, number, events_of, numbers_of}
use Rattle.world.proofs.Laws.Steps.{then, Steps, answer_at, no-event}
use Rattle.world.proofs.Laws.MatSteps.{sent-follows, resent-follows, reply-follows}
use Rattle.world.proofs.Laws.PadSteps.{replied-follows}
use Rattle.world.proofs.Laws.Arrivals.{handed-follows}
use Rattle.world.specs.TwoDevices.{NoiseIsRefused, as_link, alike}
use Rattle.devices.specs.Frames.{data_questions, reply_questions}
use Rattle.world.proofs.Laws.AirSteps.{data-lost-follows, reply-lost-follows, noise-to-mat, noise-to-pad, mat-noise, pad-noise, ticked-follows}
use mathlib.Core.Bool.{true, not}
use mathlib.Core.List.{List, [], ◌∷◌}
use lib.Dec.{eqb}
use lib.ListN.{length}
use Rattle.limits.specs.declared.Limits.{Limits}
use Rattle.limits.specs.Limits.{sound_limits}
use Rattle.limits.specs.Questions.{first_no}
use Rattle.limits.specs.Events.{Event}
use Rattle.limits.proofs.Laws.Choice.{both, and_left}
use Rattle.mat.specs.declared.Mat.{Mat}
use Rattle.pad.specs.declared.Pad.{Pad}
use Rattle.events.specs.State.{Moved, Rows}
use Rattle.unbounded.specs.Ends.{Ends}
use Rattle.agreement.specs.Agreed.{never_full}
use Rattle.world.specs.World.{InAir, World, Made, sent, resent, data_handed, replied, reply_handed, data_lost, reply_lost, ticked, noise_to_mat, noise_to_pad, following}
use Rattle.world.proofs.Laws.Stands.{world, Stands, Follows}
use Rattle.limits.specs.Answer.{number_of}
use Rattle.devices.specs.Mats as mats
use Rattle.devices.specs.Pads as pads
use Rattle.unbounded.specs.Lists as unbounded

track-by : (l : Limits) (supply first : List ℕ) (y z : Moved) (s : Ends) → y ≡ z → Track l supply first z s → Track l supply first y s
track-by l supply first y z s e t = rw e t

-- 13, 18 and 19 are not the answer to an event
never : (l : Limits) (g : sound_limits l ≡ true) (supply first : List ℕ) (y : Moved) (s : Ends) → Track l supply first y s → (e : Event)
    → never_full (answer_at supply y e) ≡ true
unfolding all unbounded.answers
never l g supply first y s t e =
    ap never_full (answer-same l supply first y s t (good l g) e) ∙ and_left _ true (none-full l supply (length first) s (e ∷ []))

module _ (l : Limits) (g : sound_limits l ≡ true) (supply first : List ℕ) where
  here : (m : Mat) (p : Pad) (ds rs : List InAir) (n : Rows) (b : List ℕ) (s : Ends) (c : Made) → Stands l (world l m p ds rs n b)
      → Track l supply first (as_link l (world l m p ds rs n b)) s → Met supply (world l m p ds rs n b) c → Follows l supply (world l m p ds rs n b) c
  here m p ds rs n b s (sent lent before after x r) st t c = sent-follows l g supply first m p ds rs n b st s t (never l g supply first _ s t) lent before after x r c
  here m p ds rs n b s (resent k before after x r) st t c = resent-follows l g supply first m p ds rs n b st s t (never l g supply first _ s t) k before after x r c
  here m p ds rs n b s (data_handed k before after x r) st t c = handed-follows l g supply first m p ds rs n b st (never l g supply first _ s t) k c.0 before after x r c.1
  here m p ds rs n b s (replied rows rows' before after x r) st t c = replied-follows l g supply first m p ds rs n b st (never l g supply first _ s t) rows rows' before after x r c
  here m p ds rs n b s (reply_handed k x r) st t c = reply-follows l g supply first m p ds rs n b st s t (never l g supply first _ s t) k x r c
  here m p ds rs n b s (data_lost k) st t c = data-lost-follows l supply m p ds rs n b st k c
  here m p ds rs n b s (reply_lost k) st t c = reply-lost-follows l supply m p ds rs n b st k c
  here m p ds rs n b s (ticked d x r y q) st t c = ticked-follows l supply m p ds rs n b st d x r y q c
  here m p ds rs n b s (noise_to_mat bytes x r) st t c = noise-to-mat l supply m p ds rs n b st bytes x r c
  here m p ds rs n b s (noise_to_pad bytes before after x r) st t c = noise-to-pad l supply m p ds rs n b st bytes before after x r c

-- a world whose devices have the limits l
as-world : (l : Limits) (x : World) → Stands l x → x ≡ world l x.mat.mat x.pad.pad x.datas x.replies x.counts x.buffer
as-world l x st = λ i. record {
  mat = record { limits = st.mat-limits i; mat = x.mat.mat };
  pad = record { limits = st.pad-limits i; pad = x.pad.pad };
  datas = x.datas;
  replies = x.replies;
  counts = x.counts;
  buffer = x.buffer;
}

-- where what happened has led
pub record Came (l : Limits) (supply : List ℕ) (x : World) (cs : List Made) : Type 0 where
  pub stands : Stands l (end_of x cs)
  pub steps : Steps supply (as_link l x) (as_link l (end_of x cs)) (all_events cs) (all_numbers cs)
  pub ticks : all alike cs ≡ true
  pub never-4 : all (λ (c : Made). not (eqb (number c) 4)) cs ≡ true

module _ (l : Limits) (g : sound_limits l ≡ true) (supply first : List ℕ) where
  follows : (x : World) (s : Ends) (c : Made) → Stands l x → Track l supply first (as_link l x) s → Met supply x c → Follows l supply x c
  follows x s c st t h =
      subst (λ z. Stands l z → Track l supply first (as_link l z) s → Met supply z c → Follows l supply z c) (sym (as-world l x st))
      (here l g supply first x.mat.mat x.pad.pad x.datas x.replies x.counts x.buffer s c) st t h

  pub came : (x : World) (s : Ends) (cs : List Made) → Stands l x → Track l supply first (as_link l x) s → Chain supply x cs → Came l supply x cs
  unfolding all joined
  came x s [] st t h = record { stands = st; steps = no-event supply (as_link l x); ticks = refl; never-4 = refl }
  came x s (c ∷ cs) st t h =
      let f = follows x s c st t h.0 in
      let rest =
      came (following x c) (unbounded.after_all l supply (length first) s (events_of c)) cs f.stands
      (track-by l supply first _ _ _ f.steps.moved (track-all l (good l g) supply first (as_link l x) s (events_of c) t)) h.1 in
      record {
        stands = rest.stands;
        steps = then supply _ _ _ (events_of c) (all_events cs) (numbers_of c) (all_numbers cs) f.steps rest.steps;
        ticks = both _ _ f.alike rest.ticks;
        never-4 = both _ _ f.not-4 rest.never-4;
      }

-- what comes next, if it is noise
pub noise : (l : Limits) (x : World) → Stands l x → NoiseIsRefused l x
noise l x st =
    record {
      at_mat = λ bytes mat r.
          subst (λ k. (first_no (reply_questions k bytes) ≡ 0 → ⊥) → mats.ReceiveCall x.mat bytes mat r
          → (number_of r ≡ first_no (reply_questions k bytes)) × (mat ≡ x.mat)) st.mat-limits
          (mat-noise x.mat mat bytes r st.mat-sound);
      at_pad = λ bytes before after pad r.
          subst (λ k. (first_no (data_questions k bytes) ≡ 0 → ⊥) → pads.ReceiveCall x.pad bytes before pad after r
          → (number_of r ≡ first_no (data_questions k bytes)) × (pad ≡ x.pad) × (after ≡ before))
          st.pad-limits (pad-noise x.pad pad bytes before after r st.pad-sound);
    }

-- Two devices with nothing but frames between them are the link.
use Prim.Native.Nat.{ℕ, ◌*◌}
use mathlib.Core.Path.{subst, ◌≡◌, refl, sym, ◌∙◌, ap, ap₂}
use Rattle.limits.specs.Lists.{all}
use Rattle.agreement.specs.Agreed.{never_full}
use Rattle.agreement.proofs.Laws.Codes.{none-full}
use Rattle.agreement.proofs.Laws.Track.{Track, track-all, same-answers}
use Rattle.agreement.proofs.Laws.Fresh.{track-fresh}
use Rattle.unbounded.specs.Ends.{fresh}
use Rattle.events.specs.View.{link_state}
use Rattle.link.specs.View.{fresh_link}
use Rattle.mat.specs.View.{fresh_mat, mat_state}
use Rattle.pad.specs.View.{fresh_pad, pad_state}
use Rattle.air.proofs.Laws.Fresh.{no-data, no-replies}
use Rattle.world.specs.World.{Made}
use Rattle.devices.specs.Pads as pad
use Rattle.world.specs.Chains.{Chain, end_of, all_events, all_numbers}
use Rattle.world.specs.TwoDevices.{Agreed, TwoDevices, as_link}
use Rattle.world.proofs.Laws.Chains.{Came, came, noise}
use mathlib.Core.Bool.{true}
use mathlib.Core.List.{List, [], ◌++◌}
use native.Mathlib.Omega.{arith}
use lib.ListN.{length, take, drop}
use Rattle.limits.specs.declared.Limits.{Limits}
use Rattle.limits.specs.Limits.{sound_limits, accepted}
use Rattle.limits.proofs.Laws.Choice.{both}
use Rattle.limits.proofs.Laws.Good.{good, accepted-sound}
use Rattle.events.specs.State.{no_rows, unmoved}
use Rattle.world.proofs.Laws.Stands.{world, Stands}
use Rattle.unbounded.specs.Lists as unbounded
use Rattle.lists.specs.Runs as link
use Rattle.mat.proofs.Laws.Fresh as mats
use Rattle.pad.proofs.Laws.Fresh as pads

module _ (l : Limits) (g : sound_limits l ≡ true) where
  -- two fresh devices
  fresh-stands : (first : List ℕ) → Stands l (world l fresh_mat fresh_pad [] [] no_rows first)
  unfolding all
  fresh-stands first =
      record {
        mat-limits = refl;
        pad-limits = refl;
        mat-sound = both _ _ g (mats.fresh-sound l g);
        pad-sound = both _ _ g (pads.fresh-sound l g);
        datas = refl;
        replies = refl;
      }

  -- they show the fresh link
  fresh-shown : (first : List ℕ) → as_link l (world l fresh_mat fresh_pad [] [] no_rows first) ≡ unmoved (link_state (fresh_link l)) first
  unfolding link_state
  fresh-shown first = λ i. record {
    state = record { limits = l; mat = mat_state l.window fresh_mat; pad = pad_state l.window fresh_pad; datas = sym no-data i; replies = sym no-replies i };
    counts = no_rows;
    buffer = first;
  }

  module _ (supply first : List ℕ) where
    fresh-track : Track l supply first (unmoved (link_state (fresh_link l)) first) fresh
    fresh-track = track-fresh l g supply first (fresh_link l) refl

    agreed : (cs : List Made) → Chain supply (world l fresh_mat fresh_pad [] [] no_rows first) cs
        → Agreed l supply first (world l fresh_mat fresh_pad [] [] no_rows first) cs
    agreed cs h =
        record {
          link =
              record {
                answers = c.steps.told ∙ ap (λ y. link.answers supply y (all_events cs)) (fresh-shown first);
                same = moved;
                limits = (c.stands.mat-limits, c.stands.pad-limits);
                data_frames = c.stands.datas;
                reply_frames = c.stands.replies;
                ticks = c.ticks;
              };
          noise = noise l (end_of (world l fresh_mat fresh_pad [] [] no_rows first) cs) c.stands;
          answers = told;
          unbounded =
              record {
                ends = t.shows.state;
                sent = t.shows.sent;
                acknowledged = t.shows.acknowledged;
                recorded = t.shows.recorded;
                record_is =
                    t.shows.buffer
                    ∙ ap₂ (λ xs k. xs ++ drop (16 * k) first) (t.carried.recorded ∙ ap (λ k. take (16 * k) supply) (sym t.shows.recorded)) (sym t.shows.recorded);
                acknowledged_recorded = let a = t.shows.acknowledged in let b = t.shows.recorded in let i = t.inv.base.low in omega arith;
                recorded_sent = let a = t.shows.sent in let b = t.shows.recorded in let i = t.inv.base.mid in omega arith;
                sent_window = let a = t.shows.acknowledged in let b = t.shows.sent in let i = t.inv.base.high in omega arith;
                supplied = let b = t.shows.sent in let i = t.carried.supplied in omega arith;
                record_fits = let b = t.shows.recorded in let i = t.carried.fits in omega arith;
              };
          never_refused = ap (all never_full) told ∙ none-full l supply (length first) fresh (all_events cs);
          never_unsound = c.never-4;
        }
      where
        c : Came l supply (world l fresh_mat fresh_pad [] [] no_rows first) cs
        c = came l g supply first (world l fresh_mat fresh_pad [] [] no_rows first) fresh cs (fresh-stands first)
            (subst (λ y. Track l supply first y fresh) (sym (fresh-shown first)) fresh-track) h

        moved : as_link l (end_of (world l fresh_mat fresh_pad [] [] no_rows first) cs) ≡ link.after_all supply (unmoved (link_state (fresh_link l)) first) (all_events cs)
        moved = c.steps.moved ∙ ap (λ y. link.after_all supply y (all_events cs)) (fresh-shown first)

        told : all_numbers cs ≡ unbounded.answers l supply (length first) fresh (all_events cs)
        told =
            c.steps.told ∙ ap (λ y. link.answers supply y (all_events cs)) (fresh-shown first)
            ∙ same-answers l (good l g) supply first (unmoved (link_state (fresh_link l)) first) fresh (all_events cs) fresh-track

        t : Track l supply first (as_link l (end_of (world l fresh_mat fresh_pad [] [] no_rows first) cs)) (unbounded.after_all l supply (length first) fresh (all_events cs))
        t = subst (λ y. Track l supply first y (unbounded.after_all l supply (length first) fresh (all_events cs))) (sym moved)
            (track-all l (good l g) supply first (unmoved (link_state (fresh_link l)) first) fresh (all_events cs) fresh-track)

pub two-devices : TwoDevices
two-devices asked other m p om op same supply first cs =
    subst (λ x. Chain supply x cs → Agreed (accepted asked) supply first x cs)
    (λ i. record {
      mat = sym om.value i;
      pad = sym (op.value ∙ ap (λ l. pad.pad_device l fresh_pad) same) i;
      datas = [];
      replies = [];
      counts = no_rows;
      buffer = first;
    })
    (agreed (accepted asked) (accepted-sound asked (sym om.number)) supply first cs)

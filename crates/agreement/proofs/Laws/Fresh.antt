-- A link as it is opened is sound and shows the fresh unbounded ends.
use Prim.Native.Nat.{ℕ, ◌+◌, ◌*◌, ◌%◌}
use mathlib.Core.Path.{◌≡◌, refl, sym, ◌∙◌, ap}
use mathlib.Core.Bool.{Bool, true, false}
use mathlib.Core.List.{List, []}
use native.Mathlib.Omega.{arith}
use native.Mathlib.Nat.{mod-eq_of_lt}
use lib.Dec.{leb}
use lib.ListN.{length}
use Rattle.limits.specs.declared.Limits.{Limits}
use Rattle.limits.specs.Lists.{tab}
use Rattle.limits.specs.Questions.{pick}
use Rattle.std.specs.Prelude.{Ok}
use Rattle.limits.specs.Limits.{accepted, sound_limits}
use Rattle.limits.proofs.Laws.Choice.{both}
use Rattle.limits.proofs.Laws.Lists.{tab-ext}
use Rattle.limits.proofs.Laws.Good.{good, accepted-sound}
use Rattle.mat.specs.View.{mat_state, fresh_mat}
use Rattle.mat.proofs.Laws.Fresh as mat
use Rattle.pad.specs.View.{pad_state, fresh_pad}
use Rattle.pad.specs.Window.{empty}
use Rattle.pad.proofs.Laws.Fresh as pad
use Rattle.air.proofs.Laws.Fresh.{no-data, no-replies, empty-data-sound, empty-replies-sound}
use Rattle.unbounded.specs.Ends.{fresh}
use Rattle.unbounded.proofs.Laws.Invariant.{fresh-inv}
use Rattle.unbounded.proofs.Laws.Carried.{fresh-carried}
use Rattle.events.specs.declared.Link.{Link}
use Rattle.events.specs.View.{link_state, sound_link}
use Rattle.link.specs.View.{fresh_link, Opened}
use Rattle.agreement.specs.Reading.{reading, mat_of, pad_of, timer_of}
use Rattle.agreement.specs.Calls.{start}
use Rattle.agreement.proofs.Laws.Chains.{shown_line}
use Rattle.agreement.proofs.Laws.Track.{Track}

pick_same : {A : Type 0} (b : Bool) (x : A) → pick b x x ≡ x
unfolding pick
pick_same true x = refl
pick_same false x = refl

module _ (l : Limits) (h : sound_limits l ≡ true) where
  zero-modulo : 0 % (2 * l.window) ≡ 0
  zero-modulo = let g = good l h in mod-eq_of_lt (omega arith)

  fresh-mat : mat_state l.window fresh_mat ≡ mat_of l.window fresh
  unfolding tab
  fresh-mat =
      let g = good l h in
      mat.fresh-state l.window g.window-low g.window-high
      ∙ (λ i. record {
        oldest = sym zero-modulo i;
        next = sym zero-modulo i;
        rows = [];
        timers = tab-ext l.window (λ k. 0) (timer_of l.window fresh) (λ k _. sym (pick_same (leb l.window (0 + k)) 0)) i;
      })

  fresh-pad : pad_state l.window fresh_pad ≡ pad_of l.window fresh
  unfolding pick
  fresh-pad =
      let g = good l h in
      pad.fresh-state l.window g.window-low g.window-high
      ∙ ap (λ n. record { wanted = n; slots = tab l.window (λ i. empty) }) (sym zero-modulo)

  pub fresh-reading : link_state (fresh_link l) ≡ reading l fresh
  unfolding link_state reading
  fresh-reading = λ i. record { limits = l; mat = fresh-mat i; pad = fresh-pad i; datas = no-data i; replies = no-replies i }

  pub fresh-sound : sound_link (fresh_link l) ≡ true
  unfolding sound_link
  fresh-sound =
      both _ _ h
      (both _ _ (mat.fresh-sound l h)
      (both _ _ (pad.fresh-sound l h) (both _ _ (empty-data-sound l) (empty-replies-sound l))))

  pub track-fresh : (supply first : List ℕ) (k : Link) → k ≡ fresh_link l → Track l supply first (shown_line (start k first)) fresh
  track-fresh supply first k e =
      record {
        inv = fresh-inv l (good l h);
        carried = fresh-carried supply (length first);
        shows = record { state = ap link_state e ∙ fresh-reading; sent = refl; acknowledged = refl; recorded = refl; buffer = refl };
      }

-- an opening that gives a link
pub opened : (asked : Limits) (k : Link) → Opened asked (Ok k) → (k ≡ fresh_link (accepted asked)) × (sound_limits (accepted asked) ≡ true)
opened asked k o = (o.value, accepted-sound asked (sym o.number))

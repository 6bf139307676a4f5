-- A list of calls on the built ends is the list of all their events on the unbounded ones.
use Prim.Native.Nat.{ℕ}
use mathlib.Core.Path.{◌≡◌, refl, sym, ◌∙◌, ap, ap₂}
use mathlib.Core.Bool.{true}
use mathlib.Core.List.{List, [], ◌∷◌, ◌++◌}
use lib.ListN.{length}
use Rattle.limits.specs.declared.Limits.{Limits}
use Rattle.limits.specs.Answer.{number_of}
use Rattle.limits.specs.Lists.{all, joined}
use Rattle.limits.specs.Events.{Event}
use Rattle.limits.proofs.Laws.Choice.{both}
use Rattle.limits.proofs.Laws.Good.{Good}
use Rattle.unbounded.specs.Ends.{Ends}
use Rattle.unbounded.specs.Rules.{answer, after}
use Rattle.unbounded.specs.Lists.{answers, after_all}
use Rattle.mat.specs.Window.{MatState}
use Rattle.mat.specs.View.{mat_state}
use Rattle.pad.specs.Window.{PadState}
use Rattle.pad.specs.View.{pad_state}
use Rattle.events.specs.State.{LinkState, Moved}
use Rattle.events.specs.Counts.{Account, more_messages}
use Rattle.events.specs.Account.{data_account, reply_account}
use Rattle.events.proofs.Laws.Sums.{same-account, account-assoc}
use Rattle.lists.specs.Account.{account}
use Rattle.lists.specs.Runs as runs
use Rattle.events.specs.View.{link_state, sound_link}
use Rattle.agreement.specs.Reading.{reading}
use Rattle.agreement.specs.Calls.{Made, Line, following, Chain, end_of, events_of, all_events, all_numbers}
use Rattle.agreement.specs.Agreed.{Same}
use Rattle.agreement.proofs.Laws.Codes.{not4}
use Rattle.agreement.proofs.Laws.Shift.{account-append}
use Rattle.agreement.proofs.Laws.Chains.{shown_line, Follows, follows}
use Rattle.agreement.proofs.Laws.Track.{Track, sent-fits, recorded-fits, track-all, same-answers}

after-append : (l : Limits) (supply : List ℕ) (space : ℕ) (s : Ends) (es fs : List Event)
    → after_all l supply space s (es ++ fs) ≡ after_all l supply space (after_all l supply space s es) fs
unfolding after_all
after-append l supply space s [] fs = refl
after-append l supply space s (e ∷ es) fs = after-append l supply space (after l supply space s e) es fs

answers-append : (l : Limits) (supply : List ℕ) (space : ℕ) (s : Ends) (es fs : List Event)
    → answers l supply space s (es ++ fs) ≡ answers l supply space s es ++ answers l supply space (after_all l supply space s es) fs
unfolding answers after_all
answers-append l supply space s [] fs = refl
answers-append l supply space s (e ∷ es) fs = ap (answer l supply space s e ∷◌) (answers-append l supply space (after l supply space s e) es fs)

-- where the calls `cs` came to from the line x, and the unbounded ends from s
pub record Came (l : Limits) (supply first : List ℕ) (x : Line) (s : Ends) (cs : List Made) : Type 0 where
  pub numbers : all_numbers supply cs ≡ answers l supply (length first) s (all_events supply cs)
  pub track : Track l supply first (shown_line (end_of x cs)) (after_all l supply (length first) s (all_events supply cs))
  pub never-4 : all (λ (c : Made). not4 (number_of c.result)) cs ≡ true
  pub datas : (end_of x cs).counts.datas ≡ more_messages x.counts.datas (account data_account supply (shown_line x) (all_events supply cs))
  pub replies : (end_of x cs).counts.replies ≡ more_messages x.counts.replies (account reply_account supply (shown_line x) (all_events supply cs))

track-by : (l : Limits) (supply first : List ℕ) (y z : Moved) (s u : Ends) → y ≡ z → s ≡ u → Track l supply first z u → Track l supply first y s
track-by l supply first y z s u e h t = rw (e, h) t

-- the account of a call, and of the calls behind it
counts-on : (of_event : LinkState → Event → Account) (supply : List ℕ) (y z : Moved) (es fs : List Event) (a b c : Account)
    → b ≡ account of_event supply y es → z ≡ runs.after_all supply y es → c ≡ more_messages (more_messages a b) (account of_event supply z fs)
    → c ≡ more_messages a (account of_event supply y (es ++ fs))
counts-on of_event supply y z es fs a b c p q h =
    h
    ∙ account-assoc a b (account of_event supply z fs)
    ∙ ap (more_messages a) (ap₂ (λ u v. more_messages u (account of_event supply v fs)) p q ∙ sym (account-append of_event supply y es fs))

module _ (l : Limits) (g : Good l) (supply first : List ℕ) where
  came-on : (x : Line) (s : Ends) (c : Made) (cs : List Made) → Track l supply first (shown_line x) s → Follows supply x c c.call
      → Came l supply first (following x c) (after_all l supply (length first) s (events_of supply c.call)) cs
      → Came l supply first x s (c ∷ cs)
  unfolding joined all
  came-on x s c cs t f rest =
      record {
        numbers =
            ap₂ ◌++◌ (f.numbers ∙ same-answers l g supply first (shown_line x) s (events_of supply c.call) t) rest.numbers
            ∙ sym (answers-append l supply (length first) s (events_of supply c.call) (all_events supply cs));
        track =
            track-by l supply first _ _ _ _ refl (after-append l supply (length first) s (events_of supply c.call) (all_events supply cs)) rest.track;
        never-4 = both _ _ f.not-4 rest.never-4;
        datas = counts-on data_account supply _ _ (events_of supply c.call) (all_events supply cs) _ _ _ f.datas f.moved rest.datas;
        replies = counts-on reply_account supply _ _ (events_of supply c.call) (all_events supply cs) _ _ _ f.replies f.moved rest.replies;
      }

  pub came : (x : Line) (s : Ends) (cs : List Made) → sound_link x.link ≡ true → Track l supply first (shown_line x) s → Chain supply x cs
      → Came l supply first x s cs
  unfolding joined all answers after_all account
  came x s [] k t m =
      record { numbers = refl; track = t; never-4 = refl; datas = same-account x.counts.datas; replies = same-account x.counts.replies }
  came x s (c ∷ cs) k t m =
      let f = follows supply x c k (sent-fits l supply first (shown_line x) s t) (recorded-fits l supply first (shown_line x) s t) c.call m.0 in
      came-on x s c cs t f
      (came (following x c) (after_all l supply (length first) s (events_of supply c.call)) cs f.sound
      (track-by l supply first _ _ _ _ f.moved refl (track-all l g supply first (shown_line x) s (events_of supply c.call) t)) m.1)

pub same : (l : Limits) (supply first : List ℕ) (x : Line) (s : Ends) → Track l supply first (shown_line x) s → Same l supply first x s
unfolding link_state mat_state pad_state reading
same l supply first x s t =
    record {
      sent = t.shows.sent;
      acknowledged = t.shows.acknowledged;
      recorded = t.shows.recorded;
      limits = limits-is;
      oldest = ap (λ (m : MatState). m.oldest) mat-is;
      next = ap (λ (m : MatState). m.next) mat-is;
      wanted = ap (λ (p : PadState). p.wanted) pad-is;
      data_table = ap (λ (k : LinkState). k.datas) t.shows.state;
      reply_table = ap (λ (k : LinkState). k.replies) t.shows.state;
      outstanding = ap (λ (m : MatState). m.rows) mat-is;
      resend_timers = ap (λ (m : MatState). m.timers) mat-is;
      held_rows = ap (λ (p : PadState). p.slots) pad-is;
      record_is = t.shows.buffer;
      rows_in_order = t.carried.recorded;
      acknowledged_recorded = t.inv.base.low;
      recorded_sent = t.inv.base.mid;
      sent_window = t.inv.base.high;
      supplied = t.carried.supplied;
      record_fits = t.carried.fits;
    }
  where
    limits-is : x.link.limits ≡ l
    limits-is = ap (λ (k : LinkState). k.limits) t.shows.state

    mat-is : mat_state l.window x.link.mat ≡ (reading l s).mat
    mat-is = ap (λ (k : Limits). mat_state k.window x.link.mat) (sym limits-is) ∙ ap (λ (k : LinkState). k.mat) t.shows.state

    pad-is : pad_state l.window x.link.pad ≡ (reading l s).pad
    pad-is = ap (λ (k : Limits). pad_state k.window x.link.pad) (sym limits-is) ∙ ap (λ (k : LinkState). k.pad) t.shows.state

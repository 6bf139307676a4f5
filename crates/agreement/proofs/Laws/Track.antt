-- The built ends show what the unbounded ends show, after one event and after a list of them.
use Prim.Native.Nat.{ℕ, ◌+◌, ◌*◌, ◌≤◌}
use mathlib.Core.Path.{◌≡◌, refl, ◌∙◌, ap, ap₂}
use mathlib.Core.Bool.{Bool, true, false}
use mathlib.Core.List.{List, [], ◌∷◌, ◌++◌}
use native.Mathlib.Omega.{arith}
use lib.Dec.{eqb}
use borrow.Author.Tests.{eqb-true}
use lib.ListN.{length, take, drop, length-append, length-drop}
use lib.Seq.{length-take-le, take_at, drop_at, drop-drop}
use Rattle.limits.specs.declared.Limits.{Limits}
use Rattle.limits.specs.Questions.{pick, first_no}
use Rattle.limits.specs.Events.{Event}
use Rattle.limits.proofs.Laws.Good.{Good}
use Rattle.events.specs.State.{Moved, unmoved}
use Rattle.events.specs.Rules as link
use Rattle.lists.specs.Runs as runs
use Rattle.unbounded.specs.Ends.{Ends}
use Rattle.unbounded.specs.Rules as unbounded
use Rattle.unbounded.specs.Lists as lists
use Rattle.unbounded.proofs.Laws.Invariant.{Inv}
use Rattle.unbounded.proofs.Laws.Keep.{keep-act, keep-after}
use Rattle.unbounded.proofs.Laws.Reads.{reads, tables}
use Rattle.unbounded.proofs.Laws.Carried.{Carried, carried-after}
use Rattle.agreement.specs.Reading.{reading}
use Rattle.agreement.proofs.Laws.Events.{built, Room, Asks, Acts}
use Rattle.agreement.proofs.Laws.Single as single

-- state, counts and record; `first` is the record as it was at first
pub record Shows (l : Limits) (first : List ℕ) (y : Moved) (s : Ends) : Type 0 where
  pub state : y.state ≡ reading l s
  pub sent : y.counts.sent ≡ s.next
  pub acknowledged : y.counts.acknowledged ≡ s.oldest
  pub recorded : y.counts.recorded ≡ s.wanted
  pub buffer : y.buffer ≡ s.recorded ++ drop (16 * s.wanted) first

pub record Track (l : Limits) (supply first : List ℕ) (y : Moved) (s : Ends) : Type 0 where
  pub inv : Inv l s
  pub carried : Carried supply (length first) s
  pub shows : Shows l first y s

shows-by : (l : Limits) (first : List ℕ) (y z : Moved) (s : Ends) → y ≡ z → Shows l first z s → Shows l first y s
shows-by l first y z s e h = rw e h

-- the tables hold what an event puts
pub room : (l : Limits) (g : Good l) (supply : List ℕ) (space : ℕ) (s : Ends) (e : Event) → Inv l s → Room l supply space s e
room l g supply space s e i q =
    let h = tables l (unbounded.act l supply s e) g (keep-act l g supply space s e i q) in
    (omega arith, omega arith)

module _ (l : Limits) (supply first : List ℕ) (y : Moved) (s : Ends) (t : Track l supply first y s) where
  written : length s.recorded ≡ 16 * s.wanted
  written =
      ap length t.carried.recorded
      ∙ length-take-le (16 * s.wanted) supply (let a = t.inv.base.mid in let b = t.carried.supplied in omega arith)

  front : take (16 * y.counts.recorded) y.buffer ≡ s.recorded
  front =
      ap₂ (λ n xs. take (16 * n) xs) t.shows.recorded t.shows.buffer
      ∙ take_at s.recorded (drop (16 * s.wanted) first) (16 * s.wanted) written

  lent : runs.buffer_left y ≡ drop (16 * s.wanted) first
  lent =
      ap₂ (λ n xs. drop (16 * n) xs) t.shows.recorded t.shows.buffer
      ∙ drop_at s.recorded (drop (16 * s.wanted) first) (16 * s.wanted) written

  unsent : runs.supply_left supply y ≡ drop (16 * s.next) supply
  unsent = ap (λ n. drop (16 * n) supply) t.shows.sent

  pub sent-fits : 16 * y.counts.sent ≤ length supply
  sent-fits = let a = t.shows.sent in let b = t.carried.supplied in omega arith

  pub recorded-fits : 16 * y.counts.recorded ≤ length y.buffer
  recorded-fits =
      let a = t.shows.recorded in
      let b = ap length t.shows.buffer ∙ length-append s.recorded (drop (16 * s.wanted) first) in
      let w = written in omega arith

  module _ (g : Good l) (e : Event) where
    asks : Asks l supply (length first) (drop (16 * s.wanted) first) s e
    asks =
        single.asks l g.window-low supply (length first) (drop (16 * s.wanted) first) s (reads l s g t.inv) t.carried.fits
        (length-drop (16 * s.wanted) first) e (room l g supply (length first) s e t.inv)

    pub answer-same : link.answer (runs.supply_left supply y) (runs.buffer_left y) y.state e ≡ unbounded.answer l supply (length first) s e
    answer-same = (λ i. link.answer (unsent i) (lent i) (t.shows.state i) e) ∙ asks

    stepped_same : link.stepped (runs.supply_left supply y) (runs.buffer_left y) y.state e
        ≡ pick (eqb (unbounded.answer l supply (length first) s e) 0) (built l supply (drop (16 * s.wanted) first) s e)
        (unmoved (reading l s) (drop (16 * s.wanted) first))
    unfolding link.stepped
    stepped_same =
        (λ i. link.stepped (unsent i) (lent i) (t.shows.state i) e)
        ∙ ap (λ n. pick (eqb n 0) (built l supply (drop (16 * s.wanted) first) s e) (unmoved (reading l s) (drop (16 * s.wanted) first))) asks

    shows-acted : first_no (unbounded.questions l supply (length first) s e) ≡ 0
        → Shows l first (runs.continued y (built l supply (drop (16 * s.wanted) first) s e)) (unbounded.act l supply s e)
    unfolding runs.continued
    shows-acted q =
        record {
          state = a.state;
          sent = ap (◌+ moved.counts.sent) t.shows.sent ∙ a.sent;
          acknowledged = ap (◌+ moved.counts.acknowledged) t.shows.acknowledged ∙ a.acknowledged;
          recorded = ap (◌+ moved.counts.recorded) t.shows.recorded ∙ a.recorded;
          buffer =
              ap (◌++ moved.buffer) front
              ∙ a.buffer
              ∙ ap ((unbounded.act l supply s e).recorded ++◌)
              (drop-drop (16 * moved.counts.recorded) (16 * s.wanted) first
              ∙ ap (λ k. drop k first) {x = 16 * s.wanted + 16 * moved.counts.recorded} {y = 16 * (unbounded.act l supply s e).wanted}
              (let r = a.recorded in omega arith));
        }
      where
        moved : Moved
        moved = built l supply (drop (16 * s.wanted) first) s e

        a : Acts l supply (drop (16 * s.wanted) first) s e
        a = single.acts l g.window-low supply (length first) (drop (16 * s.wanted) first) s (reads l s g t.inv) e q

    shows-refused : Shows l first (runs.continued y (unmoved (reading l s) (drop (16 * s.wanted) first))) s
    unfolding runs.continued
    shows-refused =
        record {
          state = refl;
          sent = let a = t.shows.sent in omega arith;
          acknowledged = let a = t.shows.acknowledged in omega arith;
          recorded = let a = t.shows.recorded in omega arith;
          buffer = ap (◌++ drop (16 * s.wanted) first) front;
        }

    shows-next : Shows l first (runs.next supply y e) (unbounded.after l supply (length first) s e)
    unfolding runs.next unbounded.after pick
    shows-next =
        shows-by l first (runs.next supply y e)
        (runs.continued y
        (pick (eqb (unbounded.answer l supply (length first) s e) 0) (built l supply (drop (16 * s.wanted) first) s e)
        (unmoved (reading l s) (drop (16 * s.wanted) first))))
        (unbounded.after l supply (length first) s e) (ap (runs.continued y) stepped_same)
        (by_answer (eqb (unbounded.answer l supply (length first) s e) 0) refl)
      where
        by_answer : (b : Bool) → eqb (unbounded.answer l supply (length first) s e) 0 ≡ b
            → Shows l first
            (runs.continued y
            (pick b (built l supply (drop (16 * s.wanted) first) s e) (unmoved (reading l s) (drop (16 * s.wanted) first))))
            (pick b (unbounded.act l supply s e) s)
        by_answer true q = shows-acted (eqb-true _ _ q)
        by_answer false q = shows-refused

    pub track-next : Track l supply first (runs.next supply y e) (unbounded.after l supply (length first) s e)
    track-next =
        record {
          inv = keep-after l g supply (length first) s e t.inv;
          carried = carried-after l g supply (length first) s e t.inv t.carried;
          shows = shows-next;
        }

module _ (l : Limits) (g : Good l) (supply first : List ℕ) where
  pub track-all : (y : Moved) (s : Ends) (es : List Event) → Track l supply first y s
      → Track l supply first (runs.after_all supply y es) (lists.after_all l supply (length first) s es)
  unfolding runs.after_all lists.after_all
  track-all y s [] t = t
  track-all y s (e ∷ es) t =
      track-all (runs.next supply y e) (unbounded.after l supply (length first) s e) es (track-next l supply first y s t g e)

  pub same-answers : (y : Moved) (s : Ends) (es : List Event) → Track l supply first y s
      → runs.answers supply y es ≡ lists.answers l supply (length first) s es
  unfolding runs.answers lists.answers
  same-answers y s [] t = refl
  same-answers y s (e ∷ es) t =
      ap₂ ◌∷◌ (answer-same l supply first y s t g e)
      (same-answers (runs.next supply y e) (unbounded.after l supply (length first) s e) es (track-next l supply first y s t g e))

-- Laws on the place of a body, as functions for C give it.
use Prim.Native.Nat.{ℕ}
use mathlib.Core.Path.{◌≡◌, refl, sym, ◌∙◌, ap, ap₂}
use mathlib.Core.List.{List}
use lib.Dec.{eqb}
use borrow.Author.Tests.{eq-eqb}
use Rattle.std.specs.Prelude.{Result, Ok, Err}
use Rattle.limits.specs.declared.answer.Refusal.{Refusal}
use Rattle.limits.specs.Answer.{number_of}
use Rattle.limits.specs.Questions.{Question, Answered}
use Rattle.limits.proofs.Laws.Choice.{pick_yes, pick_no}
use Rattle.limits.proofs.Laws.Promise.{refusal-not-0}
use Rattle.horsefile.specs.declared.Entry.{Entry}
use Rattle.horsefile.specs.Layout.{body_bytes}
use Rattle.horsefile.specs.Calls.{place, body_place, PlaceNumber}

module _ (qs : List Question) (found : Entry) (start size : ℕ) where
  pub place-found : (r : Result Entry Refusal) → Answered qs r found → (e : Entry) → r ≡ Ok e → start ≡ e.start → size ≡ body_bytes e.saved
      → PlaceNumber qs (body_place found) start size (number_of r)
  place-found r a e is s b =
      rw is (go (rw is at a))
    where
      go : Answered qs (Ok e) found → PlaceNumber qs (body_place found) start size (number_of {X = Entry} (Ok e))
      go a =
          record {
            number = a.number;
            stands = ap₂ place s b ∙ ap body_place a.value ∙ sym (pick_yes _ _ _ _ (eq-eqb _ _ (sym a.number)) refl);
          }

  pub place-refused : (r : Result Entry Refusal) → Answered qs r found → (f : Refusal) → r ≡ Err f → start ≡ 0 → size ≡ 0
      → PlaceNumber qs (body_place found) start size (number_of r)
  place-refused r a f is s b =
      rw is (go (rw is at a))
    where
      go : Answered qs (Err f) found → PlaceNumber qs (body_place found) start size (number_of {X = Entry} (Err f))
      go a =
          record {
            number = a.number;
            stands = ap₂ place s b ∙ sym (pick_no _ _ _ _ (ap (λ n. eqb n 0) (sym a.number) ∙ refusal-not-0 f) refl);
          }

-- Laws on what a lookup answers.
use Prim.Native.Nat.{ℕ, ◌+◌, ◌≤◌}
use mathlib.Core.Path.{◌≡◌, refl, sym, ◌∙◌, ap}
use mathlib.Core.List.{List, [], ◌∷◌}
use lib.ListN.{length, take, drop}
use Rattle.limits.specs.Questions.{ask, first_no}
use Rattle.limits.proofs.Laws.Questions.{more-passes, more-fails, front-passed, behind-passed, passed_first}
use Rattle.limits.proofs.Laws.Choice.{split, clash}
use native.Mathlib.Omega.{arith}
use Rattle.horsefile.specs.declared.Entry.{Entry}
use Rattle.horsefile.specs.Layout.{count, contents, entries_in, body, body_bytes}
use Rattle.horsefile.specs.Rules.{file_fits, saved_once, entered, saved_of, current, file_questions, lookup_questions}
use Rattle.horsefile.proofs.Laws.Asked.{both-passed, asked-numbered, Fits, fits}
use Rattle.horsefile.proofs.Laws.Current.{best-inside, best-missing, best-there}

module _ (file : List ℕ) where
  pub file-passed : first_no (file_questions file) ≡ 0 → Fits file
  file-passed e = fits file (both-passed (file_fits file) (saved_once (saved_of (contents file))) e).0

  module _ (horse leg : ℕ) where
    -- an entry that was found among the n that the file has
    pub current-in : (n : ℕ) → n ≡ count file → (entry : Entry) → entry ≡ current horse leg (entries_in file n)
        → entry ≡ current horse leg (contents file)
    current-in n e entry q = q ∙ ap (λ k. current horse leg (entries_in file k)) e

    module _ (passed : 0 ≡ first_no (file_questions file)) (entry : Entry) (is : entry ≡ current horse leg (contents file)) where
      pub no-leg : entry.saved.save ≡ 0 → 35 ≡ first_no (lookup_questions file horse leg)
      no-leg z =
          more-fails (file_questions file) 0 passed 35 (entered horse leg (saved_of (contents file))) (asked-numbered (file_fits file) (saved_once (saved_of (contents file)))) refl
          (best-missing file horse leg (file-passed (sym passed)) (ap (λ (e : Entry). e.saved.save) (sym is) ∙ z))

      pub a_leg : 1 ≤ entry.saved.save → 0 ≡ first_no (lookup_questions file horse leg)
      a_leg h =
          more-passes (file_questions file) 0 passed 35 (entered horse leg (saved_of (contents file))) (asked-numbered (file_fits file) (saved_once (saved_of (contents file)))) refl
          (best-there file horse leg (file-passed (sym passed)) (rw (sym is) h))

    pub found-body : (entry : Entry) (n : ℕ) → entry ≡ current horse leg (contents file) → n ≡ body_bytes entry.saved
        → take n (drop entry.start file) ≡ body file (current horse leg (contents file))
    found-body entry n is e = ap (λ k. take k (drop entry.start file)) e ∙ ap (body file) is

    pub found-inside : first_no (lookup_questions file horse leg) ≡ 0 → (entry : Entry) → entry ≡ current horse leg (contents file)
        → entry.start + body_bytes entry.saved ≤ length file
    found-inside e entry is =
        rw is (best-inside file horse leg (file-passed (front-passed (file_questions file) (ask 35 (entered horse leg (saved_of (contents file))) ∷ []) e)))

    pub found-save : first_no (lookup_questions file horse leg) ≡ 0 → 1 ≤ (current horse leg (contents file)).saved.save
    found-save e =
        let there = entered horse leg (saved_of (contents file)) in
        let front = front-passed (file_questions file) (ask 35 there ∷ []) e in
        let last = (passed_first 35 there [] refl (sym (behind-passed (file_questions file) (ask 35 there ∷ []) (asked-numbered (file_fits file) (saved_once (saved_of (contents file)))) front) ∙ e)).0 in
        split 1 (current horse leg (contents file)).saved.save
        (λ h. h)
        (λ h. absurd (clash there last (best-missing file horse leg (file-passed front) (omega arith))))

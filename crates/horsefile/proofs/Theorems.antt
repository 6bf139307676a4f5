-- What was written is looked up, reading and writing undo each other, and a higher save supersedes, for all input.
use Prim.Native.Nat.{ℕ, ◌+◌, ◌*◌, ◌/◌, ◌≤◌, ◌<◌}
use mathlib.Core.Path.{◌≡◌, refl, sym, ◌∙◌, ap, ap₂, subst}
use mathlib.Core.Bool.{true}
use mathlib.Core.List.{List, [], ◌∷◌, ◌++◌, map, map-append}
use native.Mathlib.Omega.{arith}
use lib.Dec.{leb}
use lib.ListN.{length, take, drop}
use lib.Seq.{take_at}
use borrow.Author.Tests.{le-leb, leb-true, eq-eqb}
use denote.Bor.{Bor}
use Rattle.std.specs.Prelude.{Result, Ok, Err}
use Rattle.limits.specs.declared.answer.Refusal.{Refusal}
use Rattle.limits.specs.Lists.{all, how_many, joined}
use Rattle.limits.specs.Limits.{between}
use Rattle.limits.specs.Questions.{pick, ask, first_no}
use Rattle.limits.proofs.Laws.Choice.{pick_yes, both, and_right}
use Rattle.limits.proofs.Laws.Lists.{length-tab, get_or-tab}
use Rattle.limits.proofs.Laws.Parts.{how_many-there, how_many-other, all-there}
use Rattle.limits.proofs.Laws.Questions.{behind-passed}
use Rattle.buffers.specs.Buffers.{writing, WriteCall}
use Rattle.buffers.specs.Bytes.{Bytes, cell_bytes}
use Rattle.buffers.proofs.Laws.Bytes.{cells-written}
use Rattle.horsefile.specs.declared.Saved.{Saved}
use Rattle.horsefile.specs.declared.Entry.{Entry}
use Rattle.horsefile.specs.Layout.{count, contents, body_bytes, entry_at, saved_at, saved_bytes, saved_in, cells_in, file_of, file_into, size_of}
use Rattle.horsefile.specs.Rules.{legal_entry, saved_of, file_fits, saved_once, of_leg, no_entry, current, entered, file_questions, lookup_questions, write_fits, write_questions}
use Rattle.horsefile.specs.Calls.{Handed}
use Rattle.horsefile.specs.Meanings.{HighestSave, Kept, kept, kept_in, all_saved, under_highest, Finds, Found, Accepted, WrittenAgain, ReadAgain, Pressed, Supersedes}
use Rattle.horsefile.proofs.Laws.Asked.{Writes, write-passed, both-passed, good, asked-numbered}
use Rattle.horsefile.proofs.Laws.Lookup.{file-passed, found-save}
use Rattle.horsefile.proofs.Laws.Current.{highest-has, best-inside}
use Rattle.horsefile.proofs.Laws.Highest.{none-higher}
use Rattle.horsefile.proofs.Laws.Placed.{small_saved, saved-small, rows-most}
use Rattle.horsefile.proofs.Laws.Small.{file-small}
use Rattle.horsefile.proofs.Laws.Round.{saved-read, file-size, cells-again, fits-again, six-written, six-again, file-again, writes-again}
use Rattle.horsefile.proofs.Laws.Found.{saved-kept, latest-in}
use Rattle.horsefile.proofs.Laws.Pressed.{highest-new, highest-other}

-- The current entry has the highest save: it stands in the contents, and none of its horse and leg is above it.
pub highest-save : (file : List ℕ) (horse leg : ℕ) → first_no (lookup_questions file horse leg) ≡ 0
    → HighestSave file horse leg (current horse leg (contents file))
highest-save file horse leg e =
    highest-has (λ (o : Entry). o.saved) horse leg (λ o. 1 ≤ o.saved.save → o ≡ best → HighestSave file horse leg best) no_entry (contents file) no_entry
    (λ i h o q same. let l = length-tab (count file) (λ k. entry_at file (1 + 10 * k)) in
    let b : i < count file = omega arith in
    let t = get_or-tab (count file) (λ k. entry_at file (1 + 10 * k)) i no_entry b in
    record {
      place = i;
      below = b;
      stands = sym t ∙ same;
      mine = rw same at o;
      none_higher = none-higher (λ (o : Entry). o.saved) horse leg (contents file) no_entry;
    })
    (λ q same. absurd (omega arith))
    (found-save file horse leg e) refl
  where
    best : Entry
    best = current horse leg (contents file)

-- Of every file that lookups take, a lookup of any horse and leg finds the rows under its highest save.
pub finds : (file : List ℕ) → Bytes file → Accepted file → (horse leg : ℕ) → Finds file (kept_in file) horse leg
finds file small accepted horse leg =
    let f = file-passed file accepted in
    let b = best-inside file horse leg f in
    let e = current horse leg (contents file) in
    record {
      answers =
          behind-passed (file_questions file) (ask 35 (entered horse leg (saved_of (contents file))) ∷ []) (asked-numbered (file_fits file) (saved_once (saved_of (contents file)))) accepted
          ∙ ap (λ s. pick (entered horse leg s) 0 35) (sym (saved-kept (saved_of (contents file)) (cells_in file)));
      rows =
          ap (λ n. take n (drop e.start file)) {x = body_bytes e.saved} {y = 2 * (16 * e.saved.rows)} (omega arith)
          ∙ sym (cells-written file e.start (16 * e.saved.rows) small (omega arith))
          ∙ ap (λ (k : Kept). cell_bytes k.cells) (sym (latest-in file f horse leg));
    }

-- Whatever lookups take, the writer takes, and writes the same bytes.
pub written-again : (file : List ℕ) → Bytes file → Accepted file → WrittenAgain file
written-again file small accepted =
    let f = file-passed file accepted in
    let r = six-again file small f in
    record {
      accepted = sym (good _ _ (writes-again file small f) (ap saved_once r ∙ (both-passed (file_fits file) (saved_once (saved_of (contents file))) accepted).1));
      gives = ap (λ k. file_of k (cells_in file)) r ∙ file-again file small f;
    }

-- What the writer took.
module _ (entries cells : List ℕ) (room : ℕ) (small : Bytes entries) (took : first_no (write_questions entries cells room) ≡ 0) where
  handed : Writes entries cells room
  handed = write-passed entries cells room took

  saved_small : all small_saved (saved_in entries) ≡ true
  saved_small = saved-small entries small _ _

  few : length (saved_in entries) ≤ 64
  few = let f = handed.few in let l = length-tab (length entries / 6) (λ i. saved_at entries (0 + 6 * i)) in omega arith

  abbrev file : List ℕ
  file = file_of (saved_in entries) cells

  -- No file is longer.
  pub most-bytes : size_of (saved_in entries) ≤ 134216321
  most-bytes = let f = few in let r = rows-most (saved_in entries) saved_small in omega arith

  -- It is read from the file that was written.
  pub read-again : ReadAgain entries cells file
  read-again =
      let r = saved-read (saved_in entries) cells in
      record {
        accepted =
            sym (good _ _ (fits-again (saved_in entries) cells handed.counted few handed.entries_legal handed.cells_legal)
            (ap saved_once r ∙ (both-passed (write_fits entries cells room) (saved_once (saved_in entries)) took).1));
        same_entries = ap (λ (k : List Saved). joined (map saved_bytes k)) r ∙ six-written entries small handed.whole;
        same_cells = cells-again (saved_in entries) cells handed.counted;
        size = file-size (saved_in entries) cells handed.counted;
      }

  -- A lookup in it finds the rows that were entered under the highest save of any horse and leg, or answers 35 where these were not entered.
  pub written-found : (horse leg : ℕ) → Finds file (kept (saved_in entries) cells) horse leg
  written-found horse leg =
      subst (λ all_kept. Finds file all_kept horse leg) (ap₂ kept (saved-read (saved_in entries) cells) read-again.same_cells)
      (finds file (file-small (saved_in entries) cells saved_small few handed.cells_legal) read-again.accepted horse leg)

-- The same of calls: a write that answered with n, and then a lookup in the first n bytes of the buffer that it left.
pub calls-found : (entries cells before after : List ℕ) (n horse leg : ℕ) (lent : Bor (List ℕ)) (looked_up : Result (Bor (List ℕ)) Refusal) → Bytes entries
    → WriteCall (write_questions entries cells (length before)) (writing (size_of (saved_in entries)) (file_into (saved_in entries) cells before)) (Ok n) before after
    → lent.now ≡ take n after → Handed (lookup_questions lent.now horse leg) lent (current horse leg (contents lent.now)) looked_up
    → Found looked_up (kept (saved_in entries) cells) horse leg
calls-found entries cells before after n horse leg lent looked_up small w e h =
    go looked_up h
  where
    took : first_no (write_questions entries cells (length before)) ≡ 0
    took = sym w.answered.number

    written : List ℕ
    written = file_of (saved_in entries) cells

    part : take n after ≡ written
    part =
        ap₂ take w.answered.value w.left
        ∙ take_at written (drop (size_of (saved_in entries)) before) (size_of (saved_in entries)) (read-again entries cells (length before) small took).size

    finds-lent : Finds lent.now (kept (saved_in entries) cells) horse leg
    finds-lent = rw (e ∙ part) (written-found entries cells (length before) small took horse leg)

    go : (r : Result (Bor (List ℕ)) Refusal) → Handed (lookup_questions lent.now horse leg) lent (current horse leg (contents lent.now)) r
        → Found r (kept (saved_in entries) cells) horse leg
    go (Ok b) h = record { answers = h.number ∙ finds-lent.answers; rows = h.value ∙ finds-lent.rows }
    go (Err refusal) h = record { answers = h.number ∙ finds-lent.answers; rows = tt }

module _ (before after : List ℕ) (small : Bytes before) (small_after : Bytes after) (took : Accepted before) (takes : Accepted after) (k : Kept) (p : Pressed before after k) where
  -- one more among the entries
  saved-after : all_saved (kept_in after) ≡ all_saved p.front ++ (k.saved ∷ all_saved p.behind)
  saved-after = ap all_saved p.is ∙ map-append (λ (o : Kept). o.saved) p.front (k ∷ p.behind)

  saved-before : all_saved (kept_in before) ≡ all_saved p.front ++ all_saved p.behind
  saved-before = ap all_saved p.was ∙ map-append (λ (o : Kept). o.saved) p.front p.behind

  save-not-0 : 1 ≤ k.saved.save
  save-not-0 =
      let f = file-passed after takes in
      leb-true 1 k.saved.save (and_right (between 1 6 k.saved.leg) (leb 1 k.saved.save)
      (all-there legal_entry (all_saved p.front) (all_saved p.behind) k.saved
      (ap (all legal_entry) (sym saved-after ∙ saved-kept (saved_of (contents after)) (cells_in after)) ∙ f.entries_legal)))

  -- Pressing Save again supersedes.
  pub pressed : Supersedes before after k
  pressed =
      record {
        answers =
            (finds after small_after takes k.saved.horse k.saved.leg).answers
            ∙ pick_yes (entered k.saved.horse k.saved.leg (all_saved (kept_in after))) 0 35 0
            (ap (entered k.saved.horse k.saved.leg) saved-after
            ∙ le-leb 1 _ (how_many-there (of_leg k.saved.horse k.saved.leg) (all_saved p.front) (all_saved p.behind) k.saved
            (both _ _ (eq-eqb k.saved.horse k.saved.horse refl) (eq-eqb k.saved.leg k.saved.leg refl))))
            refl;
        rows =
            (finds after small_after takes k.saved.horse k.saved.leg).rows
            ∙ ap (λ (o : Kept). cell_bytes o.cells) (ap (under_highest k.saved.horse k.saved.leg) p.is ∙ highest-new k p.front p.behind save-not-0 p.higher);
        others =
            λ horse leg e.
            let a = finds after small_after takes horse leg in
            let b = finds before small took horse leg in (
              a.answers
                  ∙ ap (λ n. pick (leb 1 n) 0 35)
                  (ap (how_many (of_leg horse leg)) saved-after
                  ∙ how_many-other (of_leg horse leg) (all_saved p.front) (all_saved p.behind) k.saved e
                  ∙ ap (how_many (of_leg horse leg)) (sym saved-before))
                  ∙ sym b.answers,
              a.rows
                  ∙ ap (λ (o : Kept). cell_bytes o.cells)
                  (ap (under_highest horse leg) p.is
                  ∙ highest-other (λ (o : Kept). o.saved) horse leg p.front p.behind k _ e
                  ∙ ap (under_highest horse leg) (sym p.was))
                  ∙ sym b.rows,
            );
      }

-- What the theorems on a horse's file speak of: rows as they were saved, and what a lookup finds of them.
use Rattle.std.specs.Prelude.{ℕ, ◌≡◌, ◌+◌, ◌*◌, ◌<◌, Bool, true, false, ◌||◌, not, List, [], ◌∷◌, ◌++◌, map, length, take, drop, leb, ltb, Result, IfOk}
use denote.Bor.{Bor}
use Rattle.limits.specs.declared.answer.Refusal.{Refusal}
use Rattle.limits.specs.Answer.{number_of}
use Rattle.limits.specs.Questions.{pick, first_no}
use Rattle.limits.specs.Lists.{all, joined}
use Rattle.buffers.specs.Bytes.{cell_bytes}
use Rattle.horsefile.specs.declared.Saved.{Saved}
use Rattle.horsefile.specs.declared.Entry.{Entry}
use Rattle.horsefile.specs.Layout.{saved_bytes, entry_at, count, contents, body, cells_in, saved_in, file_of, size_of}
use Rattle.horsefile.specs.Rules.{of_leg, highest, nothing, entered, current, saved_of, file_questions, lookup_questions, write_questions}

-- An entry that stands in the contents, of the horse and leg, and none of these has a higher save.
pub record HighestSave (file : List ℕ) (horse leg : ℕ) (e : Entry) : Type 0 where
  pub place : ℕ
  pub below : place < count file
  pub stands : entry_at file (1 + 10 * place) ≡ e
  pub mine : of_leg horse leg e.saved ≡ true
  pub none_higher : all (λ (o : Entry). not (of_leg horse leg o.saved) || leb o.saved.save e.saved.save) (contents file) ≡ true

-- what was saved, and the cells of its rows
pub record Kept : Type 0 where
  pub saved : Saved
  pub cells : List ℕ

-- Entries take the cells of as many rows as they count, one after the other.
unfoldable pub kept : List Saved → List ℕ → List Kept
kept [] cells = []
kept (s ∷ rest) cells = record { saved = s; cells = take (16 * s.rows) cells } ∷ kept rest (drop (16 * s.rows) cells)

abbrev pub kept_in : List ℕ → List Kept
kept_in file = kept (saved_of (contents file)) (cells_in file)

abbrev pub all_saved : List Kept → List Saved
all_saved all_kept = map (λ (k : Kept). k.saved) all_kept

-- what was kept under the highest save of the horse and leg
abbrev pub nothing_kept : Kept
nothing_kept = record { saved = nothing; cells = [] }

abbrev pub under_highest : ℕ → ℕ → List Kept → Kept
under_highest horse leg all_kept = highest (λ (k : Kept). k.saved) horse leg nothing_kept all_kept

-- A lookup gives exactly these rows, or 35 where horse and leg were not entered.
pub record Finds (file : List ℕ) (all_kept : List Kept) (horse leg : ℕ) : Type 0 where
  pub answers : first_no (lookup_questions file horse leg) ≡ pick (entered horse leg (all_saved all_kept)) 0 35
  pub rows : body file (current horse leg (contents file)) ≡ cell_bytes (under_highest horse leg all_kept).cells

-- The same of a call: it answers so, and the part that it hands back holds them.
pub record Found (result : Result (Bor (List ℕ)) Refusal) (all_kept : List Kept) (horse leg : ℕ) : Type 0 where
  pub answers : number_of result ≡ pick (entered horse leg (all_saved all_kept)) 0 35
  pub rows : IfOk result (λ r. r.now ≡ cell_bytes (under_highest horse leg all_kept).cells)

-- a file that lookups take, whether or not they find a leg there
abbrev pub Accepted : List ℕ → Type 0
Accepted file = first_no (file_questions file) ≡ 0

-- A file as a writer is handed it: the six bytes of each entry (and the cells of all bodies).
abbrev pub entries_of : List ℕ → List ℕ
entries_of file = joined (map saved_bytes (saved_of (contents file)))

-- The writer takes these, for a buffer of just as many bytes, and writes the file.
pub record WrittenAgain (file : List ℕ) : Type 0 where
  pub accepted : first_no (write_questions (entries_of file) (cells_in file) (length file)) ≡ 0
  pub gives : file_of (saved_in (entries_of file)) (cells_in file) ≡ file

-- What the writer took is read from the file that it wrote.
pub record ReadAgain (entries cells file : List ℕ) : Type 0 where
  pub accepted : Accepted file
  pub same_entries : entries_of file ≡ entries
  pub same_cells : cells_in file ≡ cells
  pub size : length file ≡ size_of (saved_in entries)

-- of another horse or leg, or under a lower save
abbrev pub lower : Saved → Kept → Bool
lower s k = not (of_leg s.horse s.leg k.saved) || ltb k.saved.save s.save

-- Save was pressed: the file has one body more, anywhere among the others, under a higher save of its horse and leg.
pub record Pressed (before after : List ℕ) (k : Kept) : Type 0 where
  pub front : List Kept
  pub behind : List Kept
  pub was : kept_in before ≡ front ++ behind
  pub is : kept_in after ≡ front ++ (k ∷ behind)
  pub higher : all (lower k.saved) (front ++ behind) ≡ true

-- It supersedes. What is looked up of other horses and legs stays.
pub record Supersedes (before after : List ℕ) (k : Kept) : Type 0 where
  pub answers : first_no (lookup_questions after k.saved.horse k.saved.leg) ≡ 0
  pub rows : body after (current k.saved.horse k.saved.leg (contents after)) ≡ cell_bytes k.cells
  pub others : (horse leg : ℕ) → of_leg horse leg k.saved ≡ false
      → (first_no (lookup_questions after horse leg) ≡ first_no (lookup_questions before horse leg))
      × (body after (current horse leg (contents after)) ≡ body before (current horse leg (contents before)))

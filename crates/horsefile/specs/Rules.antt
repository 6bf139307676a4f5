-- The questions put to a horse's file, 33 to 35, and which entry is current.
use Rattle.std.specs.Prelude.{ℕ, ◌+◌, ◌*◌, ◌%◌, ◌/◌, Bool, true, ◌&&◌, not, List, [], ◌∷◌, ◌++◌, map, eqb, leb, ltb, length}
use Rattle.limits.specs.Questions.{pick, Question, ask}
use Rattle.limits.specs.Lists.{all, how_many}
use Rattle.limits.specs.Cells.{legal_cell}
use Rattle.limits.specs.Limits.{between}
use Rattle.horsefile.specs.declared.Saved.{Saved}
use Rattle.horsefile.specs.declared.Entry.{Entry}
use Rattle.horsefile.specs.Layout.{count, contents, bodies_at, body_bytes, cells_in, saved_in, rows_of, size_of}

-- A leg is 1 to 6, and a save is not 0: a byte holds no more than 255.
abbrev pub legal_entry : Saved → Bool
legal_entry s = between 1 6 s.leg && leb 1 s.save

abbrev pub saved_of : List Entry → List Saved
saved_of entries = map (λ (e : Entry). e.saved) entries

-- The first body starts at `at`, each other one where the one before it ends, and the last one ends at `end`.
unfoldable pub without_gaps : ℕ → List Entry → ℕ → Bool
without_gaps at [] end = eqb at end
without_gaps at (e ∷ rest) end = eqb e.start at && without_gaps (at + body_bytes e.saved) rest end

-- question 33 of a file: up to 64 entries; bytes for the contents; legs and saves; the bodies, and the cells of each of them
abbrev pub file_fits : List ℕ → Bool
file_fits file =
    leb (count file) 64
    && (leb (bodies_at (count file)) (length file)
    && (all legal_entry (saved_of (contents file))
    && (without_gaps (bodies_at (count file)) (contents file) (length file) && all legal_cell (cells_in file))))

-- question 34: no horse, leg and save stand there twice
abbrev pub same_save : Saved → Saved → Bool
same_save s t = eqb s.horse t.horse && (eqb s.leg t.leg && eqb s.save t.save)

unfoldable pub saved_once : List Saved → Bool
saved_once [] = true
saved_once (s ∷ rest) = all (λ t. not (same_save s t)) rest && saved_once rest

-- what was saved of a horse's leg
abbrev pub of_leg : ℕ → ℕ → Saved → Bool
of_leg horse leg s = eqb s.horse horse && eqb s.leg leg

abbrev pub supersedes : ℕ → ℕ → Saved → Saved → Bool
supersedes horse leg s best = of_leg horse leg s && ltb best.save s.save

-- Of `best` and those of the horse and leg, the one with the highest save; `saved` is what an x tells of its horse, leg and save.
unfoldable pub highest : {X : Type 0} → (X → Saved) → ℕ → ℕ → X → List X → X
highest saved horse leg best [] = best
highest saved horse leg best (x ∷ rest) =
    highest saved horse leg (pick (supersedes horse leg (saved x) (saved best)) x best) rest

-- What the walk begins with: no legal entry has save 0.
abbrev pub nothing : Saved
nothing = record { horse = 0; leg = 0; save = 0; rows = 0 }

abbrev pub no_entry : Entry
no_entry = record { saved = nothing; start = 0 }

abbrev pub current : ℕ → ℕ → List Entry → Entry
current horse leg entries = highest (λ (e : Entry). e.saved) horse leg no_entry entries

-- question 35: the horse has the leg
abbrev pub entered : ℕ → ℕ → List Saved → Bool
entered horse leg saved = leb 1 (how_many (of_leg horse leg) saved)

-- Asked of a file, and then of a lookup in it.
abbrev pub file_questions : List ℕ → List Question
file_questions file = ask 33 (file_fits file) ∷ ask 34 (saved_once (saved_of (contents file))) ∷ []

abbrev pub lookup_questions : List ℕ → ℕ → ℕ → List Question
lookup_questions file horse leg = file_questions file ++ (ask 35 (entered horse leg (saved_of (contents file))) ∷ [])

-- question 33 of a writer: whole entries, up to 64, that are legal; just the cells that they count, and legal ones; a buffer of `room`
-- bytes that holds the file
abbrev pub write_fits : List ℕ → List ℕ → ℕ → Bool
write_fits entries cells room =
    eqb (length entries % 6) 0
    && (leb (length entries / 6) 64
    && (all legal_entry (saved_in entries)
    && (eqb (length cells) (16 * rows_of (saved_in entries)) && (all legal_cell cells && leb (size_of (saved_in entries)) room))))

abbrev pub write_questions : List ℕ → List ℕ → ℕ → List Question
write_questions entries cells room = ask 33 (write_fits entries cells room) ∷ ask 34 (saved_once (saved_in entries)) ∷ []

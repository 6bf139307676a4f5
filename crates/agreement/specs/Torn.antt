-- What a fitter relies on to find torn cells in a record.
use Rattle.std.specs.Prelude.{ℕ, ◌*◌, ◌≤◌, ◌<◌, ◌≡◌, Bool, List, eqb, length, get_or, Ok}
use Rattle.limits.specs.declared.Limits.{Limits}
use Rattle.limits.specs.Cells.{torn}
use Rattle.events.specs.declared.Link.{Link}
use Rattle.link.specs.View.{Opened}
use Rattle.agreement.specs.Calls.{Made, start, Chain, end_of}

-- cell i of a supply or a record, counted from 0
abbrev pub cell : List ℕ → ℕ → ℕ
cell cells i = get_or cells i 0

abbrev pub torn_at : List ℕ → ℕ → Bool
torn_at cells i = eqb (cell cells i) torn

-- Each recorded cell is the supply's at the same place, so torn cells are recorded exactly where the mat read them.
pub record Stays (supply after : List ℕ) (recorded : ℕ) : Type 0 where
  pub supplied : 16 * recorded ≤ length supply
  pub fits : 16 * recorded ≤ length after
  pub cells : (i : ℕ) → i < 16 * recorded → cell after i ≡ cell supply i
  pub torn_cells : (i : ℕ) → i < 16 * recorded → torn_at after i ≡ torn_at supply i

-- It holds after every list of calls on an opened link.
abbrev pub TornCellsStay : Type 0
TornCellsStay =
    (asked : Limits) (k : Link) → Opened asked (Ok k)
    → (supply first : List ℕ) (cs : List Made) → Chain supply (start k first) cs
    → Stays supply (end_of (start k first) cs).buffer (end_of (start k first) cs).counts.recorded

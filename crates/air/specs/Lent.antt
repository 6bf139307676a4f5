-- A table whose words are lent.
use Rattle.std.specs.Prelude.{ℕ, ◌≡◌}
use Rattle.air.specs.declared.table.Table.{Table}
use Rattle.air.specs.declared.lent.LentTable.{LentTable}
use Rattle.air.specs.Tables.{table_of}

-- the table that is lent
abbrev pub lent_table : {B : Type 0} {n : ℕ} → LentTable B n → Table B n
lent_table t = table_of t.count t.words.now

-- A call leaves the words lent that were lent to it, so that whoever lent them finds what it wrote.
abbrev pub StaysLent : {B : Type 0} {n : ℕ} → LentTable B n → LentTable B n → Type 0
StaysLent a b = b.words.ghost_name ≡ a.words.ghost_name

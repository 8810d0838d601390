-- For one finder, the calls that are issued only where it has found: one column of a table.
use Rattle.std.specs.Prelude.{ℕ, Bool, false, ◌&&◌, ◌||◌, ◌==◌, IsTrue, List, [], Option, slice_get}
use Rattle.std.specs.Option.{unwrap_or}
use Rattle.callorder.specs.Programs.{MpiProgram}
use Rattle.semantics.specs.Machine.{Configuration}
use Rattle.races.specs.Tells.{Table, tells_issue, IsJustified}

-- a configuration with these partners
abbrev pub with_partners : List (Option ℕ) → Configuration
with_partners partners = record { next = []; buffered = []; partner = partners }

-- the entry at the call, and false behind the end
abbrev pub entry_at : List Bool → ℕ → Bool
entry_at known c = unwrap_or (slice_get known c) false

-- the table of this one column
abbrev pub column_table : ℕ → List Bool → Table
column_table finder known c f = (f == finder) && entry_at known c

-- the entries of two tables
abbrev pub union : Table → Table → Table
union knows other c f = knows c f || other c f

-- the entries of a table for one finder
abbrev pub column : ℕ → Table → Table
column finder knows c f = (f == finder) && knows c f

-- A table that knows of a finder what another one does tells of this finder what that one tells.
abbrev pub TellsLessByLess : Type 0
TellsLessByLess =
    (p : MpiProgram) (e : Configuration) (less more : Table) (f : ℕ) → ((c : ℕ) → IsTrue (less c f) → IsTrue (more c f))
    → (c : ℕ) → IsTrue (tells_issue p e less c f) → IsTrue (tells_issue p e more c f)

-- The entries of two justified tables are justified together.
abbrev pub UnionsAreJustified : Type 0
UnionsAreJustified = (p : MpiProgram) (e : Configuration) (knows other : Table) → IsJustified p e knows → IsJustified p e other → IsJustified p e (union knows other)

-- Each column of a justified table is justified alone.
abbrev pub ColumnsAreJustified : Type 0
ColumnsAreJustified = (p : MpiProgram) (e : Configuration) (knows : Table) (finder : ℕ) → IsJustified p e knows → IsJustified p e (column finder knows)

-- the table that has for each finder this column
abbrev pub table_of : (ℕ → List Bool) → Table
table_of columns c f = entry_at (columns f) c

-- Columns that are justified alone, one for each finder, make a justified table.
abbrev pub TablesOfColumnsAreJustified : Type 0
TablesOfColumnsAreJustified =
    (p : MpiProgram) (e : Configuration) (columns : ℕ → List Bool) → ((finder : ℕ) → IsJustified p e (column_table finder (columns finder)))
    → IsJustified p e (table_of columns)

-- What is known of one finder, exactly, and what tables know beyond others.
use Rattle.std.specs.Prelude.{◌≡◌, ℕ, Bool, true, false, IsTrue, List, Option, Some, slice_get}
use Rattle.callorder.specs.Programs.{MpiProgram}
use Rattle.semantics.specs.Machine.{Configuration}
use Rattle.races.specs.Tells.{Table, IsJustified}
use Rattle.knowledge.specs.Knowledge.{column_table, with_partners}
use Rattle.clocks.specs.declared.race.Race.{Race}
use Rattle.clocks.specs.declared.rows.Count.{Count}
use Rattle.clocks.specs.parts.Clocks.{Numbering, AreTold}

-- the column of the finder that was asked for last, by these partners, and the races that are noted
-- as ordered
pub record Asked : Type 0 where
  pub partners : List (Option ℕ)
  pub finder : Option ℕ
  pub known : List Bool
  pub races : List Race
  pub ordered : List Bool

-- the column is justified alone, and no justified table knows more of the finder
pub record IsColumn (p : MpiProgram) (e : Configuration) (finder : ℕ) (known : List Bool) : Type 0 where
  pub justified : IsJustified p e (column_table finder known)
  pub greatest : (knows : Table) → IsJustified p e knows → (c : ℕ) → IsTrue (knows c finder) → IsTrue (column_table finder known c finder)

-- a justified table tells that the finder has found where the call is issued
pub record IsOrdered (p : MpiProgram) (e : Configuration) (c finder : ℕ) : Type 0 where
  pub knows : Table
  pub justified : IsJustified p e knows
  pub tells : IsTrue (knows c finder)

-- so of the race at the place
pub record IsOrderedAt (p : MpiProgram) (e : Configuration) (races : List Race) (place : ℕ) : Type 0 where
  pub race : Race
  pub there : slice_get races place ≡ Some race
  pub ordered : IsOrdered p e race.send race.finder

-- so of each race that is noted as ordered
abbrev pub AreOrderedBy : MpiProgram → Configuration → List Race → List Bool → Type 0
AreOrderedBy p e races ordered = (place : ℕ) → slice_get ordered place ≡ Some true → IsOrderedAt p e races place

-- where a finder was asked for, this is its column, and the notes are right
pub record IsAsked (p : MpiProgram) (asked : Asked) : Type 0 where
  pub column : (finder : ℕ) → asked.finder ≡ Some finder → IsColumn p (with_partners asked.partners) finder asked.known
  pub noted : AreOrderedBy p (with_partners asked.partners) asked.races asked.ordered

-- no justified table does
abbrev pub IsUnorderedBy : MpiProgram → Configuration → ℕ → ℕ → Type 0
IsUnorderedBy p e c finder = (knows : Table) → IsJustified p e knows → knows c finder ≡ false

-- the second table knows what the first one does
abbrev pub KnowsNoMore : Table → Table → Type 0
KnowsNoMore knows more = (c f : ℕ) → IsTrue (knows c f) → IsTrue (more c f)

-- a justified table knows what this one does, and shows what is to be shown
pub record Extends (p : MpiProgram) (e : Configuration) (knows : Table) (Shows : Table → Type 0) : Type 0 where
  pub more : Table
  pub within : KnowsNoMore knows more
  pub justified : IsJustified p e more
  pub shows : Shows more

-- so from each justified table that tells all that the counts do
abbrev pub ShowsFrom : MpiProgram → Configuration → Numbering → List Count → (Table → Type 0) → Type 0
ShowsFrom p e numbering told Shows = (knows : Table) → IsJustified p e knows → AreTold numbering knows told → Extends p e knows Shows

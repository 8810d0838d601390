-- What is told of a rank's end, by its last call.
use Rattle.std.specs.Prelude.{◌≡◌, ◌↔◌, ℕ, ◌+◌, ◌<◌, ◌⊎◌, Bool, false, ◌||◌, if◌then◌else◌, List, Option, Some, None, is_some, slice_get, get_or}
use Rattle.callorder.specs.declared.calls.Call.{Call}
use Rattle.callorder.specs.declared.calls.Pattern.{Pattern}
use Rattle.callorder.specs.Calls.{pattern_of}
use Rattle.callorder.specs.Programs.{MpiProgram, call_at, is_of_rank}
use Rattle.semantics.specs.Machine.{Configuration}
use Rattle.races.specs.Tells.{Table, tells_return_call}
use Rattle.knowledge.specs.Knowledge.{column_table, with_partners}
use Rattle.sealing.specs.declared.loose.Loose.{Loose}
use Rattle.sealing.specs.declared.finders.Finder.{Finder}
use Rattle.sealing.specs.declared.ends.Findings.{Findings}
use Rattle.sealing.specs.Sealing.{HasSurePartners, IsLoose}
use Rattle.sealing.specs.parts.Sides.{HasAllSure}

-- the call is the last one of the rank
pub record IsLastCall (p : MpiProgram) (rank last : ℕ) : Type 0 where
  pub call : Call
  pub there : call_at p last ≡ Some call
  pub own : call.rank ≡ rank
  pub none : is_of_rank (call_at p (last + 1)) rank ≡ false

-- the last call of each rank that has one
pub record AreLasts (p : MpiProgram) (lasts : List (Option ℕ)) : Type 0 where
  pub last : (rank last : ℕ) → rank < p.ranks → get_or lasts rank None ≡ Some last → IsLastCall p rank last
  pub each : (rank last : ℕ) → rank < p.ranks → IsLastCall p rank last → get_or lasts rank None ≡ Some last

-- where the rank whose last call this is is finished, the finder has found
abbrev pub tells_end : MpiProgram → Configuration → Table → ℕ → Option ℕ → Bool
tells_end p e knows f None = false
tells_end p e knows f (Some last) = knows last f || tells_return_call p e knows last (call_at p last) f

-- where the rank is finished, the finder has found, as its column tells
abbrev pub tells_finish : MpiProgram → Findings → List Bool → ℕ → ℕ → Bool
tells_finish p findings known f rank = tells_end p (with_partners findings.partners.items) (column_table f known) f (get_or findings.lasts.items rank None)

abbrev pub finder_with : ℕ → ℕ → Option Pattern → Option Finder
finder_with place rank None = None
finder_with place rank (Some pattern) =
    if is_some pattern.source then None else Some (record { place = place; rank = rank; communicator = pattern.communicator; tag = pattern.tag })

abbrev pub finder_there : ℕ → Option Call → Option Finder
finder_there place None = None
finder_there place (Some call) = finder_with place call.rank (pattern_of call.kind)

-- the finder of any source at a place
abbrev pub finder_at : MpiProgram → ℕ → Option Finder
finder_at p place = finder_there place (call_at p place)

-- what the rank could send to the finder
abbrev pub sent_to : ℕ → Finder → Loose
sent_to rank finder = record { source = rank; destination = finder.rank; communicator = finder.communicator; tag = finder.tag }

-- the list has the entry
abbrev pub ListsEntry : List Loose → Loose → Type 0
ListsEntry list entry = (place : ℕ) × (slice_get list place ≡ Some entry)

-- what one of the first n ranks could send to the finder, whose end doesn't tell that it has found
pub record IsUntoldBelow (p : MpiProgram) (findings : Findings) (known : List Bool) (finder : Finder) (n : ℕ) (entry : Loose) : Type 0 where
  pub rank : ℕ
  pub below : rank < n
  pub untold : tells_finish p findings known finder.place rank ≡ false
  pub is : entry ≡ sent_to rank finder

-- the new list has what the old one has, and this
abbrev pub GainsEntries : List Loose → List Loose → (Loose → Type 0) → Type 0
GainsEntries old new More = (entry : Loose) → ListsEntry new entry ↔ (ListsEntry old entry ⊎ More entry)

-- what is found once for all finders: partners and last calls
pub record AreFindings (p : MpiProgram) (findings : Findings) : Type 0 where
  pub sure : HasSurePartners p (with_partners findings.partners.items)
  pub all : HasAllSure p (with_partners findings.partners.items)
  pub lasts : AreLasts p findings.lasts.items

-- the entry is loose by one of the first n calls
pub record IsLooseBelow (p : MpiProgram) (n : ℕ) (entry : Loose) : Type 0 where
  pub loose : IsLoose p entry
  pub below : loose.f < n

-- the list has each entry that is loose by one of the first n calls, and no other one
abbrev pub AreLooseBelow : MpiProgram → ℕ → List Loose → Type 0
AreLooseBelow p n list = (entry : Loose) → ListsEntry list entry ↔ IsLooseBelow p n entry

-- the new list has what is loose by the call n, too
abbrev pub AddsLoose : MpiProgram → ℕ → List Loose → List Loose → Type 0
AddsLoose p n old new = AreLooseBelow p n old → AreLooseBelow p (n + 1) new

-- What inner functions promise one another, beside `specs/Clocks.antt`.
use Rattle.std.specs.Prelude.{◌≡◌, ℕ, zero, suc, ◌+◌, ◌<◌, ◌≤◌, ◌⊎◌, Bool, true, false, IsTrue, List, Option, Some, slice_get, slice_index, ◌&&◌, ◌||◌, None}
use Rattle.std.specs.Global.{Vec}
use Rattle.callorder.specs.declared.calls.Call.{Call}
use Rattle.callorder.specs.Programs.{MpiProgram, call_at, are_fit, are_of_one_rank}
use Rattle.semantics.specs.Machine.{Configuration, is_issued, partner_of}
use Rattle.std.specs.Option.{unwrap_or}
use Rattle.races.specs.Blocks.{Blocks}
use Rattle.clocks.specs.declared.race.Race.{Race}
use Rattle.clocks.specs.declared.rows.Count.{Count}
use Rattle.races.specs.Tells.{Table, tells_issue, knows_at, tells_find, tells_fetch, never_buffers}
use Rattle.clocks.specs.Clocks.{IsNoRace, IsRival}
use Rattle.calltext.specs.declared.call.Mode.{Mode}
use Rattle.calltext.specs.declared.call.Mode.TheVariants.{Standard, Synchronous, Buffered}
use Rattle.clocks.specs.declared.reads.DoneOperation.{DoneOperation}
use Rattle.clocks.specs.declared.reads.Read.{Read}
pub use Rattle.clocks.specs.Clocks.{IsSingle, IsSurePartner}

-- what is known after so many rounds of the rule, from nothing
abbrev pub level : MpiProgram → Configuration → ℕ → Table
level p e zero c f = false
level p e (suc n) c f = tells_issue p e (level p e n) c f

-- and after so many from a table
abbrev pub rounds : MpiProgram → Configuration → Table → ℕ → Table
rounds p e knows zero c f = knows c f
rounds p e knows (suc n) c f = tells_issue p e (rounds p e knows n) c f

-- Finders in a list: a finder's number is its place. For each column its first number.
pub record Numbering : Type 0 where
  pub starts : List ℕ
  pub listed : List ℕ

-- each finder whose number is at least the column's first, and below the count, is known
abbrev pub IsCount : Numbering → (ℕ → Bool) → ℕ → ℕ → Type 0
IsCount numbering known column count =
    (number finder : ℕ) → slice_index numbering.starts column ≤ number → number < count → slice_get numbering.listed number ≡ Some finder → IsTrue (known finder)

-- so of the counts of all columns
abbrev pub IsRow : Numbering → (ℕ → Bool) → List ℕ → Type 0
IsRow numbering known row = (column : ℕ) → IsCount numbering known column (slice_index row column)

-- each call's row tells nothing but what the table does
abbrev pub AreRows : Numbering → Table → List (Vec ℕ) → Type 0
AreRows numbering knows rows = (c : ℕ) (row : Vec ℕ) → slice_get rows c ≡ Some row → IsRow numbering (knows c) row.items

-- of each call one column's count, which tells nothing but what the table does
abbrev pub AreTold : Numbering → Table → List Count → Type 0
AreTold numbering knows told = (c : ℕ) (count : Count) → slice_get told c ≡ Some count → IsCount numbering (knows c) count.column count.count

-- the table tells of the race at the place that its finder has found where its send is issued
pub record IsToldAt (knows : Table) (asked : List Race) (place : ℕ) : Type 0 where
  pub race : Race
  pub there : slice_get asked place ≡ Some race
  pub tells : IsTrue (knows race.send race.finder)

-- so of each race that is noted as ordered
abbrev pub AreOrdered : Table → List Race → List Bool → Type 0
AreOrdered knows asked ordered = (place : ℕ) → slice_get ordered place ≡ Some true → IsToldAt knows asked place

-- rows, counts and notes of some level
pub record AreSound (p : MpiProgram) (e : Configuration) (numbering : Numbering) (asked : List Race) (rows : List (Vec ℕ)) (counts : List Count) (ordered : List Bool) : Type 0 where
  pub rounds : ℕ
  pub are : AreRows numbering (level p e rounds) rows
  pub told : AreTold numbering (level p e rounds) counts
  pub orders : AreOrdered (level p e rounds) asked ordered

-- counts of some level
pub record AreToldSoundly (p : MpiProgram) (e : Configuration) (numbering : Numbering) (counts : List Count) : Type 0 where
  pub rounds : ℕ
  pub told : AreTold numbering (level p e rounds) counts

-- each count is one of the two
abbrev pub IsJoin : List ℕ → List ℕ → List ℕ → Type 0
IsJoin old other new = (column : ℕ) → (slice_index new column ≡ slice_index old column) ⊎ (slice_index new column ≡ slice_index other column)

-- a count goes up to behind the finder's number, from this number on or from the column's first
pub record IsOneMore (numbering : Numbering) (finder column old new : ℕ) : Type 0 where
  pub number : ℕ
  pub there : slice_get numbering.listed number ≡ Some finder
  pub counted : new ≡ number + 1
  pub from : (number ≤ old) ⊎ (number ≤ slice_index numbering.starts column)

abbrev pub IsRaised : Numbering → ℕ → List ℕ → List ℕ → Type 0
IsRaised numbering finder old new =
    (column : ℕ) → (slice_index new column ≡ slice_index old column) ⊎ IsOneMore numbering finder column (slice_index old column) (slice_index new column)

-- the new row knows no more than the old one and what is told, where the rows tell no more than a
-- table
abbrev pub AddsToRow : Numbering → List (Vec ℕ) → (Table → ℕ → Bool) → List ℕ → List ℕ → Type 0
AddsToRow numbering rows tells old new =
    (knows : Table) (known : ℕ → Bool) → AreRows numbering knows rows → IsRow numbering known old → ((f : ℕ) → IsTrue (tells knows f) → IsTrue (known f)) → IsRow numbering known new

-- the block's name of each call is told by a list, and is its own place behind the list's end
abbrev pub block_of : List ℕ → Blocks
block_of names c = unwrap_or (slice_get names c) c

-- an earlier send of the rank fits the finder too, and isn't matched with a call up to it
pub record HasEarlier (p : MpiProgram) (block : Blocks) (e : Configuration) (other finder : ℕ) : Type 0 where
  pub earlier : ℕ
  pub before : earlier < other
  pub one : IsTrue (are_of_one_rank p earlier other)
  pub fit : IsTrue (are_fit p earlier finder)
  pub later : (taker : ℕ) → partner_of e earlier ≡ Some taker → (taker ≤ finder) ⊎ (block taker ≡ block finder) → ⊥

-- where the send is issued, it races for no finder but those for which an earlier one of its rank
-- would
abbrev pub IsChecked : MpiProgram → Blocks → Configuration → Table → ℕ → Type 0
IsChecked p block e knows other =
    IsTrue (is_issued p e other) → (finder own : ℕ) → partner_of e finder ≡ Some own → IsTrue (are_fit p own finder) → IsNoRace p block e knows finder own other ⊎ HasEarlier p block e other finder

-- there is a call at the place, and it is of that rank
pub record IsOfRank (p : MpiProgram) (c rank : ℕ) : Type 0 where
  pub call : Call
  pub there : call_at p c ≡ Some call
  pub own : call.rank ≡ rank

-- the send is matched with no later call than the finder, or within its block
pub record IsTaken (block : Blocks) (e : Configuration) (send finder : ℕ) : Type 0 where
  pub taker : ℕ
  pub found : partner_of e send ≡ Some taker
  pub which : (taker ≤ finder) ⊎ (block taker ≡ block finder)

-- whatever the first rule tells, by any table, the second one does
abbrev pub Leads : (Table → ℕ → Bool) → (Table → ℕ → Bool) → Type 0
Leads first second = (knows : Table) (f : ℕ) → IsTrue (first knows f) → IsTrue (second knows f)

-- what the end of a send's operation tells
abbrev pub tells_sent : MpiProgram → Configuration → Table → ℕ → Mode → ℕ → Bool
tells_sent p e knows c Standard f = never_buffers p.policy && tells_fetch p e knows c f
tells_sent p e knows c Synchronous f = tells_fetch p e knows c f
tells_sent p e knows c Buffered f = false

abbrev pub tells_find_at : Configuration → Table → Option ℕ → ℕ → Bool
tells_find_at e knows None f = false
tells_find_at e knows (Some t) f = tells_find e knows t f

-- what it tells that a finder has found, and that the receive on its handle is issued
abbrev pub tells_found : Configuration → Table → DoneOperation → ℕ → Bool
tells_found e knows found f = tells_find_at e knows found.finder f || knows_at knows found.receive f

-- what it tells besides that the call before is issued
abbrev pub tells_read : Configuration → Table → Read → ℕ → Bool
tells_read e knows read f = knows_at knows read.before f || tells_found e knows read.found f

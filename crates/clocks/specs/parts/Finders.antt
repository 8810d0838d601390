-- The finders for which a send may race, in groups by what they ask for, and up to where in a group
-- a count tells that they have found.
use Rattle.std.specs.Prelude.{◌≡◌, ℕ, zero, suc, ◌+◌, ◌*◌, ◌%◌, ◌^◌, ◌<◌, ◌≤◌, ◌⊎◌, [], ◌∷◌, ◌++◌, false, IsTrue, List, length, Option, Some, None, slice_get, slice_index}
use Rattle.std.specs.Global.{Vec}
use Rattle.callorder.specs.declared.calls.Call.{Call}
use Rattle.callorder.specs.declared.calls.Message.{Message}
use Rattle.callorder.specs.declared.calls.Pattern.{Pattern}
use Rattle.callorder.specs.Calls.{message_of, pattern_of}
use Rattle.callorder.specs.Programs.{MpiProgram, call_at, are_fit, are_of_one_rank}
use Rattle.semantics.specs.Machine.{Configuration, partner_of}
use Rattle.races.specs.Blocks.{Blocks, HasFellow}
use Rattle.races.specs.Tells.{Table}
use Rattle.clocks.specs.declared.finders.Cover.{Cover}
use Rattle.clocks.specs.declared.rows.Count.{Count}
use Rattle.clocks.specs.parts.Clocks.{Numbering}
use Rattle.clocks.specs.Clocks.{IsNoRace}

-- no send races for the call, whatever it found
abbrev pub CannotRace : MpiProgram → Blocks → ℕ → Type 0
CannotRace p block f =
    (own other : ℕ) → IsTrue (are_fit p own f) → IsTrue (are_fit p other f) → (are_of_one_rank p own other ≡ false) ⊎ HasFellow p block f → ⊥

abbrev pub mix : ℕ → ℕ → ℕ
mix one other = ((one * 11400714819323198485) % 2 ^ 64 + other) % 2 ^ 64

-- a number for a tag that is named, and another one for any
abbrev pub told : Option ℕ → ℕ
told None = 0
told (Some tag) = tag + 1

-- the group, of so many, of what a rank is sent by this communicator with this tag, or any
abbrev pub group_of : ℕ → ℕ → ℕ → Option ℕ → ℕ
group_of zero rank communicator tag = 0
group_of (suc groups) rank communicator tag = mix (mix rank communicator) (told tag) % suc groups

abbrev pub group_of_pattern : ℕ → ℕ → Option Pattern → ℕ
group_of_pattern groups rank None = 0
group_of_pattern groups rank (Some pattern) = group_of groups rank pattern.communicator pattern.tag

abbrev pub group_of_call : ℕ → Option Call → ℕ
group_of_call groups None = 0
group_of_call groups (Some call) = group_of_pattern groups call.rank (pattern_of call.kind)

-- the calls of a list, and none where there is no list
abbrev pub calls_of : Option (Vec ℕ) → List ℕ
calls_of None = []
calls_of (Some calls) = calls.items

abbrev pub group_at : List (Vec ℕ) → ℕ → List ℕ
group_at groups group = calls_of (slice_get groups group)

-- the covers of a list, and none where there is no list
abbrev pub covers_in : Option (Vec Cover) → List Cover
covers_in None = []
covers_in (Some covers) = covers.items

abbrev pub covers_at : List (Vec Cover) → ℕ → List Cover
covers_at covers group = covers_in (slice_get covers group)

-- each call of the list stands before those behind it
abbrev pub IsRising : List ℕ → Type 0
IsRising calls = (i j x y : ℕ) → i < j → slice_get calls i ≡ Some x → slice_get calls j ≡ Some y → x < y

-- the finder stands in the group of what it asks for
pub record IsPlaced (p : MpiProgram) (groups : List (Vec ℕ)) (finder : ℕ) : Type 0 where
  pub place : ℕ
  pub there : slice_get (group_at groups (group_of_call (length groups) (call_at p finder))) place ≡ Some finder

-- of the calls before a bound, each for which a send may race is placed
pub record AreGroupedUpTo (p : MpiProgram) (block : Blocks) (bound : ℕ) (groups : List (Vec ℕ)) : Type 0 where
  pub some : 0 < length groups
  pub each : (f : ℕ) → f < bound → CannotRace p block f ⊎ IsPlaced p groups f
  pub below : (group i f : ℕ) → slice_get (group_at groups group) i ≡ Some f → f < bound
  pub rising : (group : ℕ) → IsRising (group_at groups group)

-- there is a group, and each is empty
pub record AreEmptyGroups (groups : List (Vec ℕ)) : Type 0 where
  pub some : 0 < length groups
  pub empty : (group : ℕ) → group_at groups group ≡ []

-- the call stands behind the others of the group, if there is such a group, and all else is as before
pub record IsPutIn (old : List (Vec ℕ)) (group call : ℕ) (new : List (Vec ℕ)) : Type 0 where
  pub size : length new ≡ length old
  pub there : group < length old → group_at new group ≡ group_at old group ++ call ∷ []
  pub others : (g : ℕ) → (g ≡ group → ⊥) → group_at new g ≡ group_at old g

-- each for which a send may race is placed, and each group rises
pub record IsListing (p : MpiProgram) (block : Blocks) (groups : List (Vec ℕ)) : Type 0 where
  pub each : (f : ℕ) → CannotRace p block f ⊎ IsPlaced p groups f
  pub rising : (group : ℕ) → IsRising (group_at groups group)

-- the place parts those of the list before the call from the others
pub record IsParting (calls : List ℕ) (call place : ℕ) : Type 0 where
  pub before : (i f : ℕ) → i < place → slice_get calls i ≡ Some f → f < call
  pub behind : (i f : ℕ) → place ≤ i → slice_get calls i ≡ Some f → call ≤ f

-- the finder has one of the column's numbers, up to the last one
pub record IsNumbered (numbering : Numbering) (column last finder : ℕ) : Type 0 where
  pub number : ℕ
  pub from : slice_index numbering.starts column ≤ number
  pub upto : number ≤ last
  pub there : slice_get numbering.listed number ≡ Some finder

-- so has each of the list up to the place, where the cover tells so
abbrev pub IsCover : Numbering → List ℕ → ℕ → Cover → Type 0
IsCover numbering calls place cover =
    IsTrue cover.is_one → (i finder : ℕ) → i ≤ place → slice_get calls i ≡ Some finder → IsNumbered numbering cover.column cover.last finder

-- the second cover covers what the first one does
pub record IsWider (one wide : Cover) : Type 0 where
  pub is_one : IsTrue one.is_one
  pub column : wide.column ≡ one.column
  pub last : one.last ≤ wide.last

abbrev pub AreCoversOf : Numbering → List ℕ → List Cover → Type 0
AreCoversOf numbering calls covers = (place : ℕ) (cover : Cover) → slice_get covers place ≡ Some cover → IsCover numbering calls place cover

-- the cover at the place covers nothing but what the count counts
pub record IsCountedAt (covers : List Cover) (place : ℕ) (count : Count) : Type 0 where
  pub cover : Cover
  pub there : slice_get covers place ≡ Some cover
  pub is_one : IsTrue cover.is_one
  pub column : cover.column ≡ count.column
  pub last : cover.last < count.count

-- so of each group
abbrev pub AreCovers : Numbering → List (Vec ℕ) → List (Vec Cover) → Type 0
AreCovers numbering groups covers =
    (group : ℕ) (own : Vec Cover) → slice_get covers group ≡ Some own → AreCoversOf numbering (group_at groups group) own.items

-- the send doesn't race for the finder at the place of the list
abbrev pub IsLookedAt : MpiProgram → Blocks → Configuration → List ℕ → ℕ → ℕ → Table → Type 0
IsLookedAt p block e listed place other knows = (f own : ℕ) → slice_get listed place ≡ Some f → partner_of e f ≡ Some own → IsNoRace p block e knows f own other

-- nor for those of the list from one call up to another
abbrev pub AreNoRaces : MpiProgram → Blocks → Configuration → List ℕ → ℕ → ℕ → ℕ → Table → Type 0
AreNoRaces p block e listed first end other knows =
    (i f own : ℕ) → slice_get listed i ≡ Some f → first ≤ f → f < end → partner_of e f ≡ Some own → IsNoRace p block e knows f own other

-- the call is a send of this message
pub record Sends (p : MpiProgram) (c : ℕ) (message : Message) : Type 0 where
  pub call : Call
  pub there : call_at p c ≡ Some call
  pub sent : message_of call.kind ≡ Some message

-- the call is a finder that names no tag
pub record IsOfAnyTag (p : MpiProgram) (c : ℕ) : Type 0 where
  pub call : Call
  pub there : call_at p c ≡ Some call
  pub pattern : Pattern
  pub asks : pattern_of call.kind ≡ Some pattern
  pub any : pattern.tag ≡ None

-- both are messages, with the same destination and communicator
pub record GoOneWay (one other : Option Message) : Type 0 where
  pub first : Message
  pub second : Message
  pub is_first : one ≡ Some first
  pub is_second : other ≡ Some second
  pub destination : first.destination ≡ second.destination
  pub communicator : first.communicator ≡ second.communicator

-- both are sends, with the same destination and communicator
pub record HaveOneWay (one other : Option Call) : Type 0 where
  pub first : Call
  pub second : Call
  pub is_first : one ≡ Some first
  pub is_second : other ≡ Some second
  pub way : GoOneWay (message_of first.kind) (message_of second.kind)

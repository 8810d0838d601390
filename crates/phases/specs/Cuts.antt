-- A program that is cut in two: at each rank the first calls are those of one program, and the
-- others those of another.
use Rattle.std.specs.Prelude.{◌≡◌, ℕ, ◌+◌, ◌<◌, ◌≤◌, ◌⊎◌, true, false, List, [], ◌∷◌, Some}
use Rattle.callorder.specs.declared.calls.Call.{Call}
use Rattle.callorder.specs.Programs.{MpiProgram, call_at, is_of_rank}
use Rattle.semantics.specs.declared.state.Step.{Step}
use Rattle.semantics.specs.declared.state.Step.TheVariants.{Issue, Match, See}
use Rattle.semantics.specs.Machine.{first_call, opening, IsRun}
use Rattle.phases.specs.CallPlaces.{IsPart, IsFrom}

-- The two parts, and where the calls of each rank stand in the whole: those of the first part from
-- the rank's first call to its bound, and those of the second part from there on.
pub record Cut : Type 0 where
  pub first : MpiProgram
  pub second : MpiProgram
  pub moved_first : ℕ → ℕ
  pub moved_second : ℕ → ℕ
  pub bound : ℕ → ℕ

-- The program is the first part and then, at each rank, the second: each call is of one of them,
-- and at each rank the second part's calls follow those of the first.
pub record IsCutInTwo (p : MpiProgram) (x : Cut) : Type 0 where
  pub first : IsPart p x.first x.moved_first
  pub second : IsPart p x.second x.moved_second
  pub each : (c : ℕ) (call : Call) → call_at p c ≡ Some call → IsFrom x.first x.moved_first c ⊎ IsFrom x.second x.moved_second c
  pub before : (c : ℕ) (call : Call) → call_at x.first c ≡ Some call → c + x.moved_first call.rank < x.bound call.rank
  pub behind : (c : ℕ) (call : Call) → call_at x.second c ≡ Some call → x.bound call.rank ≤ c + x.moved_second call.rank
  -- the last call of a rank in the first part stands right before the bound
  pub last : (c : ℕ) (call : Call) → call_at x.first c ≡ Some call → is_of_rank (call_at x.first (c + 1)) call.rank ≡ false → (c + x.moved_first call.rank) + 1 ≡ x.bound call.rank
  -- a rank's first call is the first of its calls in the first part; where it has none there, the
  -- bound is its first place
  pub begins : (rank : ℕ) → rank < p.ranks → is_of_rank (call_at x.first (first_call x.first rank)) rank ≡ true → first_call p rank ≡ first_call x.first rank + x.moved_first rank
  pub empty : (rank : ℕ) → rank < p.ranks → is_of_rank (call_at x.first (first_call x.first rank)) rank ≡ false → first_call p rank ≡ x.bound rank
  pub none : (rank c : ℕ) → rank < p.ranks → is_of_rank (call_at x.first (first_call x.first rank)) rank ≡ false → is_of_rank (call_at x.first c) rank ≡ false
  pub goes_on : (rank : ℕ) → rank < p.ranks → x.bound rank ≡ first_call x.second rank + x.moved_second rank

-- both calls are of the first part, or both of the second
abbrev pub AreOfOnePart : Cut → ℕ → ℕ → Type 0
AreOfOnePart x c d =
    (IsFrom x.first x.moved_first c × IsFrom x.first x.moved_first d)
    ⊎ (IsFrom x.second x.moved_second c × IsFrom x.second x.moved_second d)

-- the step lets no finder of one part find a send of the other
abbrev pub StaysInPart : Cut → Step → Type 0
StaysInPart x (Issue rank buffered) = Unit {0}
StaysInPart x (Match s t) = AreOfOnePart x s t
StaysInPart x (See s f) = AreOfOnePart x s f

abbrev pub StayInParts : Cut → List Step → Type 0
StayInParts x [] = Unit {0}
StayInParts x (step ∷ steps) = StaysInPart x step × StayInParts x steps

-- in no run of the whole a finder of one part finds a send of the other
abbrev pub IsClean : MpiProgram → Cut → Type 0
IsClean p x = (steps : List Step) → IsRun p (opening p) steps → StayInParts x steps

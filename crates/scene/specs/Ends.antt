-- What is told of the end of a run, and what a rank needs of another one there.
use Rattle.std.specs.Prelude.{◌≡◌, ◌≢◌, ℕ, List, [], ◌∷◌, length, Some, slice_get, ◌⊎◌, Bool, not, ◌&&◌, IsTrue, ◌||◌, nat_lt}
use Rattle.std.specs.List.{AllPairs}
use Rattle.std.specs.Global.{Vec}
use Rattle.callorder.specs.Programs.{MpiProgram, call_at, is_of_rank}
use Rattle.semantics.specs.Machine.{Configuration, is_issued}
use Rattle.waits.specs.declared.standings.Standing.{Standing}
use Rattle.waits.specs.Cycles.{IsCycle}
use Rattle.waits.specs.Waiting.{Stands, fits_with, need_of_operation}
use Rattle.waits.specs.declared.needs.Need.TheVariants.{Match, Fetch}

-- where each of the first ranks of a program, so many, stands
pub record AreStandings (p : MpiProgram) (m : Configuration) (count : ℕ) (standings : List Standing) : Type 0 where
  pub many : length standings ≡ count
  pub each : (rank : ℕ) (standing : Standing) → slice_get standings rank ≡ Some standing → Stands p m rank standing

-- the ranks are a cycle, and none of them stands there twice; or none, and there is no cycle
abbrev pub IsCycleOrNone : List (Vec ℕ) → List ℕ → Type 0
IsCycleOrNone edges [] = (ranks : List ℕ) → IsCycle edges ranks → ⊥
IsCycleOrNone edges (rank ∷ others) = IsCycle edges (rank ∷ others) × AllPairs (λ one other. one ≢ other) (rank ∷ others)

-- the call is one of this rank that the operation looks for, and is not issued
abbrev pub is_missing : MpiProgram → Configuration → ℕ → ℕ → ℕ → Bool
is_missing p m o rank call = is_of_rank (call_at p call) rank && fits_with p o call && not (is_issued p m call)

-- The operation needs this call of the rank: it needs a match, and the call could bring it; or it
-- was found by a matched probe, and this is the receive on the probe's handle.
abbrev pub IsNeeded : MpiProgram → Configuration → ℕ → ℕ → ℕ → Type 0
IsNeeded p m o rank call =
    ((need_of_operation p m o ≡ Some Match) × IsTrue (is_missing p m o rank call)) ⊎ (need_of_operation p m o ≡ Some (Fetch call))

-- the program has more than 64 ranks, or more than 1,024 calls
abbrev pub is_large : MpiProgram → Bool
is_large p = nat_lt 64 p.ranks || nat_lt 1024 (length p.calls)

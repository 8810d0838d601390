-- What is left of a program behind the first calls of each rank.
use Rattle.std.specs.Prelude.{◌≡◌, ℕ, ◌+◌, ◌-◌, ◌<◌, ◌≤◌, ◌==◌, nat_lt, if◌then◌else◌, List, [], ◌∷◌, map, length, get_or}
use Rattle.std.specs.List.{count_by}
use Rattle.callorder.specs.declared.calls.Call.{Call}
use Rattle.callorder.specs.declared.calls.Kind.{Kind}
use Rattle.callorder.specs.Calls.{map_link}
use Rattle.callorder.specs.Programs.{MpiProgram}
use Rattle.semantics.specs.Machine.{first_call}
use Rattle.phases.specs.CallPlaces.{IsPart, IsWellFormed}

-- ---- in front, and behind

-- The second program's calls of each rank are the rank's first calls in the first program.
abbrev pub IsFront : MpiProgram → MpiProgram → Type 0
IsFront q d = IsPart q d (λ rank. first_call q rank - first_call d rank)

-- what a call does where all calls of its rank stand so many places further in front
abbrev pub lowered_kind : ℕ → Kind ℕ → Kind ℕ
lowered_kind by kind = map_link (λ (o : ℕ). o - by) kind

abbrev pub lowered_call : ℕ → Call → Call
lowered_call by call = record { rank = call.rank; kind = lowered_kind by call.kind }

-- Of two lists in rank order, the second without the first calls of each rank, as many as the first
-- list has of that rank.
abbrev pub drop_front : List Call → List Call → List Call
drop_front [] ys = ys
drop_front (x ∷ xs) [] = []
drop_front (x ∷ xs) (y ∷ ys) = if nat_lt y.rank x.rank then y ∷ drop_front (x ∷ xs) ys else drop_front xs ys

-- The first program without the calls of the second, which are in front: a call stands as many
-- places further in front as the second has calls of its own and of lower ranks.
abbrev pub behind : MpiProgram → MpiProgram → MpiProgram
behind q d =
    record {
      policy = q.policy;
      ranks = q.ranks;
      calls = map (λ call. lowered_call (first_call d (call.rank + 1)) call) (drop_front d.calls q.calls);
    }

-- ---- what is left from some places on

-- how many of these calls are of the rank
abbrev pub calls_by : ℕ → List Call → ℕ
calls_by rank calls = count_by (λ call. call.rank == rank) calls

-- The second program is what is left of the first from a place of each rank on: its calls are those
-- of the first there, as many of each rank as stand from that place to the end of the rank's.
pub record IsRest (p : MpiProgram) (next : List ℕ) (q : MpiProgram) : Type 0 where
  pub well_formed : IsWellFormed q
  pub places : length next ≡ p.ranks
  pub from : (rank : ℕ) → rank < p.ranks → first_call p rank ≤ get_or next rank 0
  pub sizes : (rank : ℕ) → rank < p.ranks → get_or next rank 0 + calls_by rank q.calls ≡ first_call p (rank + 1)
  pub part : IsPart p q (λ rank. get_or next rank 0 - first_call q rank)

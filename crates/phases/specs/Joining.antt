-- Programs one after another, as one program.
use Rattle.std.specs.Prelude.{◌≡◌, ℕ, ◌+◌, nat_lt, if◌then◌else◌, List, [], ◌∷◌, map, Some}
use Rattle.callorder.specs.declared.calls.Call.{Call}
use Rattle.callorder.specs.Programs.{MpiProgram, call_at}
use Rattle.semantics.specs.Machine.{first_call}
use Rattle.phases.specs.CallPlaces.{moved_call}
use Rattle.phases.specs.Cuts.{Cut}

-- the call, put before the first of the list that isn't of a lower rank, with what comes of the
-- list from there on
abbrev pub put : Call → (List Call → List Call) → List Call → List Call
put x others [] = x ∷ others []
put x others (y ∷ ys) = if nat_lt y.rank x.rank then y ∷ put x others ys else x ∷ others (y ∷ ys)

-- two lists in rank order as one: of each rank the calls of the first list, and then those of the
-- second
abbrev pub merge : List Call → List Call → List Call
merge [] = λ ys. ys
merge (x ∷ xs) = put x (merge xs)

-- The first program and then, at each rank, the second. A call stands as many places further on as
-- calls of the other program come before it.
abbrev pub join : MpiProgram → MpiProgram → MpiProgram
join first second =
    record {
      policy = first.policy;
      ranks = first.ranks;
      calls = merge (map (λ call. moved_call (first_call second call.rank) call) first.calls) (map (λ call. moved_call (first_call first (call.rank + 1)) call) second.calls);
    }

-- a program and others, one after another
abbrev pub join_all : MpiProgram → List MpiProgram → MpiProgram
join_all p [] = p
join_all p (q ∷ others) = join p (join_all q others)

-- The program is the first and then, at each rank, the second: it has as many calls of lower ranks
-- as both have, a rank's calls of the first stand behind those of lower ranks of the second, and a
-- rank's calls of the second behind those of the same and lower ranks of the first.
pub record IsJoinOf (p first second : MpiProgram) : Type 0 where
  pub policy_first : first.policy ≡ p.policy
  pub policy_second : second.policy ≡ p.policy
  pub ranks_first : first.ranks ≡ p.ranks
  pub ranks_second : second.ranks ≡ p.ranks
  pub sizes : (rank : ℕ) → first_call p rank ≡ first_call first rank + first_call second rank
  pub firsts : (c : ℕ) (call : Call) → call_at first c ≡ Some call → call_at p (c + first_call second call.rank) ≡ Some (moved_call (first_call second call.rank) call)
  pub seconds : (c : ℕ) (call : Call) → call_at second c ≡ Some call → call_at p (c + first_call first (call.rank + 1)) ≡ Some (moved_call (first_call first (call.rank + 1)) call)

-- where the calls of two programs stand that are joined
abbrev pub cut_between : MpiProgram → MpiProgram → Cut
cut_between first second =
    record {
      first = first;
      second = second;
      moved_first = first_call second;
      moved_second = λ rank. first_call first (rank + 1);
      bound = λ rank. first_call first (rank + 1) + first_call second rank;
    }

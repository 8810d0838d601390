-- The clauses of a program in blocks, each of a family for one call or for one pair.
use Rattle.std.specs.Prelude.{ℕ, not, nat_lt, if◌then◌else◌, ◌+◌, List, [], ◌∷◌, length}
use Rattle.callorder.specs.Programs.{MpiProgram, is_probe, are_of_one_rank}
use Rattle.candidates.specs.Pairs.{pairs_of, pair_at}
use Rattle.formula.specs.declared.families.Family.{Family}
use Rattle.formula.specs.Families.{SymbolicClause, is_standard, family_of, SymbolicBlocks, by_call, by_standard_send, by_last_call, by_pair, by_see}
use Rattle.formula_families.specs.declared.families.Block.{Block}

-- what is said of a pair of a send and a taker; nothing of a pair of a send and a probe
abbrev pub where_taken : MpiProgram → ℕ × ℕ → List SymbolicClause → List SymbolicClause
where_taken p pair clauses = if is_probe p pair.1 then [] else clauses

-- what is said of a pair of a send and a probe; nothing of a pair of a send and a taker
abbrev pub where_seen : MpiProgram → ℕ × ℕ → List SymbolicClause → List SymbolicClause
where_seen p pair clauses = if is_probe p pair.1 then clauses else []

-- what is said of a call that is the last one of its rank; nothing of another
abbrev pub where_last : MpiProgram → ℕ → List SymbolicClause → List SymbolicClause
where_last p c clauses = if not (are_of_one_rank p c (c + 1)) then clauses else []

-- The clauses for the call or for the pair at a place. What is said once of the whole program
-- stands behind what is said of all calls.
abbrev pub block_in : MpiProgram → SymbolicBlocks → ℕ → List SymbolicClause
block_in p (by_call clauses) place = clauses p place
block_in p (by_standard_send clauses) place = if is_standard p place then clauses p place else []
block_in p (by_last_call clauses clause) place =
    if nat_lt place (length p.calls) then where_last p place (clauses p place) else clause p ∷ []
block_in p (by_pair clauses) place = let pair = pair_at (pairs_of p) place in where_taken p pair (clauses p pair.0 pair.1)
block_in p (by_see clauses) place = let pair = pair_at (pairs_of p) place in where_seen p pair (clauses p pair.0 pair.1)

-- how many blocks there are
abbrev pub count_in : MpiProgram → SymbolicBlocks → ℕ
count_in p (by_call clauses) = length p.calls
count_in p (by_standard_send clauses) = length p.calls
count_in p (by_last_call clauses clause) = length p.calls + 1
count_in p (by_pair clauses) = length (pairs_of p)
count_in p (by_see clauses) = length (pairs_of p)

-- the clauses of a block
abbrev pub clauses_of : MpiProgram → Block → List SymbolicClause
clauses_of p b = block_in p (family_of b.family).says b.place

-- how many blocks a family has
abbrev pub size_of : MpiProgram → Family → ℕ
size_of p family = count_in p (family_of family).says

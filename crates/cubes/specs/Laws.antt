-- What holds of branching orders, match variables and full trees.
use Rattle.std.specs.Prelude.{◌≡◌, ℕ, ◌+◌, ◌^◌, ◌<◌, ◌≤◌, List, length}
use Rattle.callorder.specs.Programs.{MpiProgram}
use Rattle.candidates.specs.Pairs.{pairs_of}
use Rattle.formula.specs.Numbering.{formula_of}
use Rattle.cubes.specs.Cubes.{IsBranchingOrder, match_variable}
use Rattle.cubes.specs.Levels.{full_tree}

-- no two branching orders are of as many pairs of one list
abbrev pub OneBranchingOrder : Type 0
OneBranchingOrder =
    (pairs : List (ℕ × ℕ)) (count : ℕ) (one other : List ℕ) → IsBranchingOrder pairs count one → IsBranchingOrder pairs count other → one ≡ other

-- the match variable of each pair is one of the formula's
abbrev pub MatchVariablesAreWithin : Type 0
MatchVariablesAreWithin =
    (p : MpiProgram) (k : ℕ) → k < length (pairs_of p) → (1 ≤ match_variable p k) × (match_variable p k ≤ (formula_of p).variables)

-- there are twice as many nodes as leaves, less one, and each variable doubles the leaves
abbrev pub FullTreeSize : Type 0
FullTreeSize = (variables : List ℕ) → length (full_tree variables) + 1 ≡ 2 ^ (length variables + 1)

-- Which pairs are branched on first, and on which variables; and the tree of cubes of a program.
-- Pairs are named by their places in the list, from 0.
use Rattle.std.specs.Prelude.{◌≡◌, ℕ, List, length, map, take, ◌-◌, Bool, ◌&&◌, ◌||◌, ◌==◌, nat_lt}
use Rattle.candidates.specs.Pairs.{matching_pairs, pairs_of, pair_at, with_taker}
use Rattle.encode.specs.Encodings.{EncodedProgram}
use Rattle.trees.specs.Trees.{TreeState}
use Rattle.cubes.specs.Levels.{full_tree}
use Rattle.std.specs.List.{range_with_len}
use Rattle.std.specs.List.Sorted.{IsPermutation, IsSortedBy}
use Rattle.callorder.specs.Programs.{MpiProgram}
use Rattle.formula.specs.declared.facts.Fact.TheVariants.{Matched as matched}
use Rattle.formula.specs.declared.facts.Meaning.TheVariants.{OfFact as fact}
use Rattle.formula.specs.Numbering.{variable_of}

-- how many pairs have the finder of this one
abbrev pub choices : List (ℕ × ℕ) → ℕ → ℕ
choices pairs k = length (with_taker pairs (pair_at pairs k).1)

-- the pair with more choices comes first, and of two with as many the one with the smaller number
abbrev pub branches_before : List (ℕ × ℕ) → ℕ → ℕ → Bool
branches_before pairs i j =
    nat_lt (choices pairs j) (choices pairs i) || (choices pairs i == choices pairs j && nat_lt i j)

-- each of the first pairs, of which there are so many, once, and none behind one that it comes
-- before
pub record IsBranchingOrder (pairs : List (ℕ × ℕ)) (count : ℕ) (order : List ℕ) : Type 0 where
  pub each_once : IsPermutation (range_with_len 0 count) order
  pub in_order : IsSortedBy (branches_before pairs) order

-- the number of pairs with other finders, and that of the pair
abbrev pub branching_rank_of : List (ℕ × ℕ) → ℕ → ℕ × ℕ
branching_rank_of pairs k = (length pairs - choices pairs k, k)

-- the variable that says of a pair that it is matched, or of a pair with a probe that this has seen
-- the send
abbrev pub match_variable : MpiProgram → ℕ → ℕ
match_variable p k = let pair = pair_at (pairs_of p) k in variable_of p (fact (matched pair.0 pair.1))

-- The match variables of all pairs that may be matched, which are the first ones of the list, in
-- the order of the pairs. What probes see is not branched on.
pub record AreBranchingVariables (p : MpiProgram) (variables : List ℕ) : Type 0 where
  pub order : List ℕ
  pub is_order : IsBranchingOrder (pairs_of p) (length (matching_pairs p)) order
  pub variables_are : variables ≡ map (match_variable p) order

-- the full tree over the match variables of so many pairs that may be matched, or of all where
-- there are fewer
pub record IsCubeTree (encoded : EncodedProgram) (depth : ℕ) (tree : TreeState) : Type 0 where
  pub order : List ℕ
  pub is_order : IsBranchingOrder encoded.pairs (length (matching_pairs encoded.program)) order
  pub variables_are : tree.variables ≡ encoded.formula.variables
  pub nodes_are : tree.nodes ≡ full_tree (map (match_variable encoded.program) (take depth order))

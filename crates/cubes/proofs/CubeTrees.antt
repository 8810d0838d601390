-- The tree of cubes: its order and its variables.
use Rattle.std.proofs.Common.{◌≡◌, ℕ, ◌+◌, ◌<◌, ◌≤◌, List, [], ◌∷◌, ◌++◌, length, map, min, take, get_or, ap, subst, sym, ◌∙◌, arith}
use Rattle.std.specs.List.{All, range_with_len}
use Rattle.std.proofs.lemmas.List.Elements.{All-from_get_or, All-map, All-take}
use Rattle.std.proofs.lemmas.List.FromFn.{length-range_with_len, get_or-range_with_len}
use Rattle.std.proofs.lemmas.List.Sorted.{All-permutation}
use Rattle.callorder.specs.Programs.{MpiProgram}
use Rattle.candidates.specs.Pairs.{matching_pairs, seeing_pairs, pairs_of}
use Rattle.formula.specs.Numbering.{formula_of}
use Rattle.std.proofs.lemmas.List.{length-append, take_min, map_more}
use Rattle.encode.specs.Encodings.{EncodedProgram}
use Rattle.trees.specs.Trees.{TreeState}
use Rattle.cubes.specs.Cubes.{IsCubeTree, IsBranchingOrder, AreBranchingVariables, match_variable}
use Rattle.cubes.specs.Levels.{full_tree}
use Rattle.cubes.proofs.MatchVariables.{match_variables_within}

-- one match variable more
pub one_variable_more : (p : MpiProgram) (numbers old new : List ℕ) (index variable : ℕ) → index < length numbers → old ≡ map (match_variable p) (take index numbers) → new ≡ old ++ variable ∷ [] → variable ≡ match_variable p (get_or numbers index 0) → new ≡ map (match_variable p) (take (index + 1) numbers)
one_variable_more p numbers old new index variable low so_far is variable_is =
    is
    ∙ ap (λ (vs : List ℕ). vs ++ variable ∷ []) so_far
    ∙ ap (λ (v : ℕ). map (match_variable p) (take index numbers) ++ v ∷ []) variable_is
    ∙ sym (map_more (match_variable p) numbers index 0 low)

-- the pairs that may be matched are some of all
pub few_matching : (p : MpiProgram) → length (matching_pairs p) ≤ length (pairs_of p)
few_matching p = omega (arith, length-append (matching_pairs p) (seeing_pairs p))

-- all numbers of an order are those of pairs
pub order_within : (pairs : List (ℕ × ℕ)) (count : ℕ) (order : List ℕ) → count ≤ length pairs → IsBranchingOrder pairs count order → All (λ k. k < length pairs) order
order_within pairs count order few is =
    let numbers : List ℕ = range_with_len 0 count in
    let is_number : ℕ → Type 0 = λ k. k < length pairs in
    All-permutation is_number numbers order is.each_once
    (All-from_get_or is_number numbers 0 (λ i low.
    let below : i < count = omega (arith, length-range_with_len 0 count) in
    omega (arith, few, get_or-range_with_len 0 count i 0 below)))

-- the match variables of pairs are the formula's
pub variables_within : (p : MpiProgram) (pairs : List (ℕ × ℕ)) (numbers : List ℕ) → pairs ≡ pairs_of p → All (λ k. k < length pairs) numbers → All (λ v. (1 ≤ v) × (v ≤ (formula_of p).variables)) (map (match_variable p) numbers)
variables_within p pairs numbers are within =
    All-map (λ v. (1 ≤ v) × (v ≤ (formula_of p).variables)) (match_variable p) numbers (λ k d low.
    match_variables_within p (get_or numbers k d) (omega (arith, within k d low, ap length are)))

-- where these are what was read of the pairs and the order
pub levels_there : (pairs slice : List (ℕ × ℕ)) (count : ℕ) (order lent : List ℕ) (levels : ℕ) → count ≤ length pairs → IsBranchingOrder pairs count order → lent ≡ order → slice ≡ pairs → All (λ k. k < length slice) (take levels lent)
levels_there pairs slice count order lent levels few is lent_is slice_is =
    subst (λ (ps : List (ℕ × ℕ)). All (λ k. k < length ps) (take levels lent)) (sym slice_is)
    (subst (λ (ns : List ℕ). All (λ k. k < length pairs) (take levels ns)) (sym lent_is) (All-take (λ k. k < length pairs) levels order (order_within pairs count order few is)))

pub matching_levels_there : (p : MpiProgram) (known pairs slice : List (ℕ × ℕ)) (order lent : List ℕ) (levels : ℕ) → pairs ≡ known → known ≡ pairs_of p → IsBranchingOrder known (length (matching_pairs p)) order → lent ≡ order → slice ≡ pairs → All (λ k. k < length slice) (take levels lent)
matching_levels_there p known pairs slice order lent levels same are is lent_is slice_is =
    levels_there known slice (length (matching_pairs p)) order lent levels (omega (arith, few_matching p, ap length are)) is lent_is (slice_is ∙ same)

pub variables_fit : (p : MpiProgram) (pairs slice : List (ℕ × ℕ)) (numbers variables lent : List ℕ) (most : ℕ) → pairs ≡ pairs_of p → slice ≡ pairs → All (λ k. k < length slice) numbers → variables ≡ map (match_variable p) numbers → lent ≡ variables → most ≡ (formula_of p).variables → All (λ v. (1 ≤ v) × (v ≤ most)) lent
variables_fit p pairs slice numbers variables lent most are slice_is there made lent_is most_is =
    subst (λ (n : ℕ). All (λ v. (1 ≤ v) × (v ≤ n)) lent) (sym most_is)
    (subst (λ (vs : List ℕ). All (λ v. (1 ≤ v) × (v ≤ (formula_of p).variables)) vs) (sym (lent_is ∙ made)) (variables_within p slice numbers (slice_is ∙ are) there))

pub cube_tree_made : (encoded : EncodedProgram) (depth : ℕ) (tree : TreeState) (p : MpiProgram) (order lent variables lent_variables : List ℕ) (levels most : ℕ) → IsBranchingOrder encoded.pairs (length (matching_pairs encoded.program)) order → p ≡ encoded.program → lent ≡ order → levels ≡ min (length order) depth → variables ≡ map (match_variable p) (take levels lent) → lent_variables ≡ variables → most ≡ encoded.formula.variables → tree ≡ record { variables = most; nodes = full_tree lent_variables } → IsCubeTree encoded depth tree
cube_tree_made encoded depth tree p order lent variables lent_variables levels most is p_is lent_is levels_are made lent_variables_are most_is tree_is =
    let fewer : levels ≡ min depth (length order) = omega arith in
    let numbers : take levels lent ≡ take depth order =
    ap (take levels) lent_is ∙ ap (λ (n : ℕ). take n order) fewer ∙ take_min depth order
    in
    record {
      order = order;
      is_order = is;
      variables_are = ap (λ (t : TreeState). t.variables) tree_is ∙ most_is;
      nodes_are =
          ap (λ (t : TreeState). t.nodes) tree_is
          ∙ ap full_tree (lent_variables_are ∙ made ∙ ap (map (match_variable p)) numbers)
          ∙ ap (λ (q : MpiProgram). full_tree (map (match_variable q) (take depth order))) p_is;
    }

-- all numbers of an order are those of pairs, where these are what was read of the pairs and the
-- order
pub order_there : (pairs slice : List (ℕ × ℕ)) (count : ℕ) (order lent : List ℕ) → count ≤ length pairs → IsBranchingOrder pairs count order → lent ≡ order → slice ≡ pairs → All (λ k. k < length slice) lent
order_there pairs slice count order lent few is lent_is slice_is =
    subst (λ (ps : List (ℕ × ℕ)). All (λ k. k < length ps) lent) (sym slice_is)
    (subst (λ (ns : List ℕ). All (λ k. k < length pairs) ns) (sym lent_is) (order_within pairs count order few is))

pub matching_order_there : (p : MpiProgram) (known pairs slice : List (ℕ × ℕ)) (order lent : List ℕ) → pairs ≡ known → known ≡ pairs_of p → IsBranchingOrder known (length (matching_pairs p)) order → lent ≡ order → slice ≡ pairs → All (λ k. k < length slice) lent
matching_order_there p known pairs slice order lent same are is lent_is slice_is =
    order_there known slice (length (matching_pairs p)) order lent (omega (arith, few_matching p, ap length are)) is lent_is (slice_is ∙ same)

pub branching_variables_are : (q p : MpiProgram) (pairs : List (ℕ × ℕ)) (order lent variables : List ℕ) → IsBranchingOrder pairs (length (matching_pairs q)) order → pairs ≡ pairs_of q → p ≡ q → lent ≡ order → variables ≡ map (match_variable p) lent → AreBranchingVariables q variables
branching_variables_are q p pairs order lent variables is pairs_are p_is lent_is made =
    record {
      order = order;
      is_order = subst (λ (ps : List (ℕ × ℕ)). IsBranchingOrder ps (length (matching_pairs q)) order) pairs_are is;
      variables_are = made ∙ ap (λ (r : MpiProgram). map (match_variable r) lent) p_is ∙ ap (map (match_variable q)) lent_is;
    }

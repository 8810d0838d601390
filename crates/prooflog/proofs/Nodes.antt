-- What the loop over the lines of nodes keeps, and where it stops.
use Rattle.std.proofs.Common.{◌≡◌, ◌≢◌, ℕ, zero, suc, ◌+◌, ◌-◌, ◌<◌, ◌≤◌, Bool, true, false, cond, eqb, ◌&&◌, nat_lt, nat_le, IsTrue, List, [], ◌∷◌, ◌++◌, length, take, reverse, map, refl, sym, ap, subst, ◌∙◌, append_assoc, arith, inl, inr, ◌⊎◌}
use Rattle.std.specs.Prelude.{min}
use Rattle.std.specs.List.{list_all, onto_first}
use Rattle.std.proofs.Math.Seq.{take-append_seam, take-append-add, take-length}
use Rattle.std.proofs.lemmas.Bool.{and_parts, eqb-true, leb-true}
use Rattle.std.proofs.lemmas.List.{append-nil, map-append, map_push, length-append, length-map, reverse-append}
use Rattle.std.proofs.lemmas.List.Folds.{list_all-append}
use Rattle.plaintext.specs.Plain.{text_lines}
use Rattle.plaintext.specs.Fronts.{to_end, BeginsWith}
use Rattle.plaintext.proofs.Cuts.{no_line_of, words_are, line_is}
use Rattle.plaintext.proofs.Texts.{capped_small}
use Rattle.refutations.specs.Proofs.{ProofLine, is_tree, are_trees, missing_after, is_proof_number, number_of, are_numbered}
use Rattle.refutations.specs.declared.tree.Node.{Node}
use Rattle.refutations.specs.declared.tree.Node.TheVariants.{Split, Leaf}
use Rattle.prooflog.specs.declared.fault.EvidenceFault.TheVariants.{Syntax, Range, TooLarge}
use Rattle.prooflog.specs.declared.refutation.Version.{Version}
use Rattle.prooflog.specs.Refutations.{ClaimedRefutation, Item, node_words, item_words, item_line, items, a_proof, a_node, the_tree, depths, is_depth, IsInRangeRefutation, IsSmallRefutation, waiting_after}
use Rattle.prooflog.specs.Grammar.{Written, as_refutation, written_lines}
use Rattle.prooflog.specs.Fault.{IsShaped, IsRanged, IsFew, CanGoOnAsEvidence}
use Rattle.prooflog.specs.parts.Reading.{words_of, capped_node, HasFaultAfter, opening_lines, above_tree, FitsAbove}
use Rattle.prooflog.proofs.ProofWords.{plain_item, some_item_words, item_line_injective, item_line_nonempty}
use Rattle.prooflog.proofs.Items.{cut_at_tree, same_nodes, next_of_nodes}
use Rattle.prooflog.proofs.Fronts.{stops_syntax, stops_range, stops_large, small_front}
use Rattle.prooflog.proofs.Claims.{begins_items, NextItem, next_item}

node_line : Node → List ℕ
node_line node = item_line (a_node node)

-- ---- trees that end with leaves

abbrev pub leaves : ℕ → List Node
leaves zero = []
leaves (suc n) = Leaf 1 ∷ leaves n

trees_of_leaves : (n : ℕ) → are_trees n (leaves n) ≡ true
trees_of_leaves zero = refl
trees_of_leaves (suc n) =
    let first : nat_lt 0 (suc n) ≡ true = grind arith in
    let fewer : suc n - 1 ≡ n = omega arith in
    ap (λ (b : Bool). b && are_trees (suc n - 1) (leaves n)) first ∙ ap (λ (m : ℕ). are_trees m (leaves n)) fewer ∙ trees_of_leaves n

numbered_leaves : (n : ℕ) → are_numbered (leaves n) ≡ true
numbered_leaves zero = refl
numbered_leaves (suc n) = numbered_leaves n

both_numbered : (nodes more : List Node) → IsTrue (are_numbered nodes) → IsTrue (are_numbered more) → IsTrue (are_numbered (nodes ++ more))
both_numbered nodes more one two = list_all-append (λ node. is_proof_number (number_of node)) nodes more ∙ rw (one, two) refl

-- a node takes the place of one missing tree
one_node : (missing : ℕ) (node : Node) (more : List Node) → 0 < missing → are_trees missing (node ∷ more) ≡ are_trees (missing_after missing node) more
one_node missing node more some =
    let first : nat_lt 0 missing ≡ true = grind arith in
    ap (λ (b : Bool). b && are_trees (missing_after missing node) more) first

-- a node, and a leaf for each tree that is missing then
trees_after : (missing : ℕ) (node : Node) → 0 < missing → are_trees missing (node ∷ leaves (missing_after missing node)) ≡ true
trees_after missing node some = one_node missing node (leaves (missing_after missing node)) some ∙ trees_of_leaves (missing_after missing node)

-- ---- refutations with these lines

abbrev claim : Version → ℕ → ℕ → List ProofLine → List Node → ClaimedRefutation
claim version v c lines nodes = record { version = version; variables = v; clauses = c; lines = lines; nodes = nodes }

-- the lines above, and those of some items, are those of all items
tree_front : (version : Version) (v c : ℕ) (lines : List ProofLine) (below : List Item) → above_tree version v c lines ++ map item_line below ≡ opening_lines version v c ++ map item_line (map a_proof lines ++ the_tree ∷ below)
tree_front version v c lines below =
    ap (λ (ls : List (List ℕ)). opening_lines version v c ++ ls) (sym (map-append item_line (map a_proof lines ++ the_tree ∷ []) below) ∙ ap (map item_line) (append_assoc (map a_proof lines) (the_tree ∷ []) below))

nodes_begin : (version : Version) (v c : ℕ) (lines : List ProofLine) (done more : List Node) → BeginsWith (above_tree version v c lines ++ map item_line (map a_node done)) (to_end (written_lines (as_refutation (claim version v c lines (done ++ more)))))
nodes_begin version v c lines done more =
    let r : ClaimedRefutation = claim version v c lines (done ++ more) in
    let cut : items r ≡ (map a_proof lines ++ the_tree ∷ map a_node done) ++ map a_node more =
    ap (λ (is : List Item). map a_proof lines ++ the_tree ∷ is) (map-append a_node done more) ∙ sym (append_assoc (map a_proof lines) (the_tree ∷ map a_node done) (map a_node more)) in
    subst (λ (front : List (List ℕ)). BeginsWith front (to_end (written_lines (as_refutation r)))) (sym (tree_front version v c lines (map a_node done))) (begins_items r (map a_proof lines ++ the_tree ∷ map a_node done) (map a_node more) cut)

-- what begins with these lines and the lines of some nodes is a refutation, and goes on with
-- another node or ends
record NextNode (w : Written) (lines : List ProofLine) (done : List Node) (line : List ℕ) : Type 0 where
  pub all : ClaimedRefutation
  pub is : w ≡ as_refutation all
  pub same : all.lines ≡ lines
  pub next : ((node : Node) × (others : List Node) × (item_line (a_node node) ≡ line) × (all.nodes ≡ done ++ node ∷ others)) ⊎ ((line ≡ []) × (all.nodes ≡ done))

next_node : (w : Written) (version : Version) (v c : ℕ) (lines : List ProofLine) (done : List Node) (line : List ℕ) → BeginsWith ((above_tree version v c lines ++ map item_line (map a_node done)) ++ line ∷ []) (to_end (written_lines w)) → NextNode w lines done line
next_node w version v c lines done line begins =
    let so_far : List Item = map a_proof lines ++ the_tree ∷ map a_node done in
    let found : NextItem w so_far line = next_item w version v c so_far line (subst (λ (front : List (List ℕ)). BeginsWith (front ++ line ∷ []) (to_end (written_lines w))) (tree_front version v c lines (map a_node done)) begins) in
    elim found.next [
      | inl x ↦
          let parts = cut_at_tree found.all.lines lines (map a_node found.all.nodes) (map a_node done ++ x.value ∷ x.others) (x.cut ∙ append_assoc (map a_proof lines) (the_tree ∷ map a_node done) (x.value ∷ x.others)) in
          let more = next_of_nodes found.all.nodes done x.value x.others parts.1 in
          record { all = found.all; is = found.is; same = parts.0; next = inl (more.0, more.1, ap item_line (sym more.2) ∙ x.spelled, more.3) }
      | inr x ↦
          let parts = cut_at_tree found.all.lines lines (map a_node found.all.nodes) (map a_node done) x.1 in
          record { all = found.all; is = found.is; same = parts.0; next = inr (x.0, same_nodes found.all.nodes done parts.1) }
    ]

-- ---- the loop

-- the depths of the roots of the trees that are missing stand in `waiting`, the next one last
pub record NodesSoFar (bytes rest : List ℕ) (first number : ℕ) (nodes : List Node) (waiting : List ℕ) : Type 0 where
  pub cut : text_lines bytes ≡ map item_line (map a_node nodes) ++ text_lines rest
  pub place : number ≡ first + length nodes
  pub numbered : IsTrue (are_numbered nodes)
  pub few : length nodes ≤ 65536
  pub trees : (more : List Node) → are_trees 1 (nodes ++ more) ≡ are_trees (length waiting) more
  pub deep : (more : List Node) → list_all is_depth (depths (0 ∷ []) (nodes ++ more)) ≡ list_all is_depth (depths (reverse waiting) more)

trees_step : (others : List ℕ) (depth : ℕ) (node : Node) (more : List Node) → are_trees (length (others ++ depth ∷ [])) (node ∷ more) ≡ are_trees (length (waiting_after others depth node)) more
trees_step others depth (Split v) more =
    let after : length (others ++ depth ∷ []) + 1 ≡ length ((others ++ (depth + 1) ∷ []) ++ (depth + 1) ∷ []) = omega (arith, length-append others (depth ∷ []), length-append others ((depth + 1) ∷ []), length-append (others ++ (depth + 1) ∷ []) ((depth + 1) ∷ [])) in
    one_node (length (others ++ depth ∷ [])) (Split v) more (omega (arith, length-append others (depth ∷ []))) ∙ ap (λ (n : ℕ). are_trees n more) after
trees_step others depth (Leaf k) more =
    let after : length (others ++ depth ∷ []) - 1 ≡ length others = omega (arith, length-append others (depth ∷ [])) in
    one_node (length (others ++ depth ∷ [])) (Leaf k) more (omega (arith, length-append others (depth ∷ []))) ∙ ap (λ (n : ℕ). are_trees n more) after

pub deep_step : (others : List ℕ) (depth : ℕ) (node : Node) (more : List Node) → list_all is_depth (depths (reverse (others ++ depth ∷ [])) (node ∷ more)) ≡ (is_depth depth && list_all is_depth (depths (reverse (waiting_after others depth node)) more))
deep_step others depth (Split v) more =
    let before : reverse (others ++ depth ∷ []) ≡ depth ∷ reverse others = reverse-append others (depth ∷ []) in
    let after : reverse ((others ++ (depth + 1) ∷ []) ++ (depth + 1) ∷ []) ≡ (depth + 1) ∷ (depth + 1) ∷ reverse others = reverse-append (others ++ (depth + 1) ∷ []) ((depth + 1) ∷ []) ∙ ap (λ (ds : List ℕ). (depth + 1) ∷ ds) (reverse-append others ((depth + 1) ∷ [])) in
    ap (λ (ds : List ℕ). list_all is_depth (depths ds (Split v ∷ more))) before ∙ ap (λ (ds : List ℕ). is_depth depth && list_all is_depth (depths ds more)) (sym after)
deep_step others depth (Leaf k) more = ap (λ (ds : List ℕ). list_all is_depth (depths ds (Leaf k ∷ more))) (reverse-append others (depth ∷ []))

push_node : (nodes : List Node) (node : Node) → map item_line (map a_node (nodes ++ node ∷ [])) ≡ map item_line (map a_node nodes) ++ item_line (a_node node) ∷ []
push_node nodes node = ap (map item_line) (map_push a_node nodes node) ∙ map_push item_line (map a_node nodes) (a_node node)

pub one_more_node : (bytes rest after : List ℕ) (first number : ℕ) (nodes : List Node) (others : List ℕ) (depth : ℕ) (node : Node) (line : List ℕ) → NodesSoFar bytes rest first number nodes (others ++ depth ∷ []) → text_lines rest ≡ line ∷ text_lines after
    → item_line (a_node node) ≡ line → IsTrue (is_proof_number (number_of node)) → length nodes < 65536 → depth ≤ 64 → NodesSoFar bytes after first (number + 1) (nodes ++ node ∷ []) (waiting_after others depth node)
one_more_node bytes rest after first number nodes others depth node line so next spelled fits few shallow =
    let deep_enough : is_depth depth ≡ true = grind arith in
    record {
      cut = so.cut ∙ ap (λ (ls : List (List ℕ)). map item_line (map a_node nodes) ++ ls) (next ∙ ap (λ (l : List ℕ). l ∷ text_lines after) (sym spelled))
          ∙ sym (append_assoc (map item_line (map a_node nodes)) (item_line (a_node node) ∷ []) (text_lines after))
          ∙ ap (λ (ls : List (List ℕ)). ls ++ text_lines after) (sym (push_node nodes node));
      place = omega (arith, so.place, length-append nodes (node ∷ []));
      numbered = both_numbered nodes (node ∷ []) so.numbered (rw fits refl);
      few = omega (arith, few, length-append nodes (node ∷ []));
      trees = λ more. ap (are_trees 1) (append_assoc nodes (node ∷ []) more) ∙ so.trees (node ∷ more) ∙ trees_step others depth node more;
      deep = λ more. ap (λ (ns : List Node). list_all is_depth (depths (0 ∷ []) ns)) (append_assoc nodes (node ∷ []) more) ∙ so.deep (node ∷ more) ∙ deep_step others depth node more
          ∙ ap (λ (b : Bool). b && list_all is_depth (depths (reverse (waiting_after others depth node)) more)) deep_enough;
    }

-- ---- where it stops

small_so_far : (bytes rest : List ℕ) (first number : ℕ) (nodes : List Node) (waiting : List ℕ) (lines : List ProofLine) → NodesSoFar bytes rest first number nodes waiting → length lines ≤ 1000000 → IsSmallRefutation lines nodes
small_so_far bytes rest first number nodes waiting lines so few = record {
  few_lines = few;
  few_nodes = so.few;
  shallow = ap (λ (ns : List Node). list_all is_depth (depths (0 ∷ []) ns)) (sym (append-nil nodes)) ∙ so.deep [] ∙ ap (list_all is_depth) (none_waiting (reverse waiting));
}
  where
    none_waiting : (roots : List ℕ) → depths roots [] ≡ []
    none_waiting [] = refl
    none_waiting (d ∷ roots) = refl

module _ (bytes rest : List ℕ) (first number : ℕ) (nodes : List Node) (waiting : List ℕ) (so : NodesSoFar bytes rest first number nodes waiting) (line : List ℕ) (after : List (List ℕ)) (next : text_lines rest ≡ line ∷ after) (version : Version) (v c : ℕ) (lines : List ProofLine) (fits : FitsAbove v c lines) (placed : first ≡ length lines + 4) where
  cut : text_lines bytes ≡ map item_line (map a_node nodes) ++ line ∷ after
  cut = so.cut ∙ ap (λ (ls : List (List ℕ)). map item_line (map a_node nodes) ++ ls) next

  above_length : length (above_tree version v c lines) ≡ length lines + 3
  above_length = omega (arith, length-map (map a_proof lines ++ the_tree ∷ []) item_line, length-append (map a_proof lines) (the_tree ∷ []), length-map lines a_proof)

  nodes_length : length (map item_line (map a_node nodes)) ≡ length nodes
  nodes_length = omega (arith, length-map (map a_node nodes) item_line, length-map nodes a_node)

  ranged : (more : List Node) → IsTrue (are_numbered more) → are_trees (length waiting) more ≡ true → IsInRangeRefutation (claim version v c lines (nodes ++ more))
  ranged more numbered trees = record { variables = fits.variables_in_range; clauses = fits.clauses_in_range; lines = fits.lines_in_range; numbered = both_numbered nodes more so.numbered numbered; is_tree = so.trees more ∙ trees }

  good : CanGoOnAsEvidence (above_tree version v c lines ++ map item_line (map a_node nodes))
  good =
      let more : List Node = leaves (length waiting) in
      let count : ℕ = length (above_tree version v c lines ++ map item_line (map a_node nodes)) in
      let left : count - (3 + length lines) ≡ length nodes = omega (arith, above_length, nodes_length, length-append (above_tree version v c lines) (map item_line (map a_node nodes))) in
      let held : take (count - (3 + length lines)) (nodes ++ more) ≡ take (length nodes) nodes = ap (λ (n : ℕ). take n (nodes ++ more)) left ∙ take-append_seam nodes more ∙ sym (take-length nodes) in
      let small : IsSmallRefutation (take (count - 2) lines) (take (length nodes) nodes) = small_front lines nodes (count - 2) (length nodes) (small_so_far bytes rest first number nodes waiting lines so fits.few) in
      (as_refutation (claim version v c lines (nodes ++ more)), (ranged more (numbered_leaves (length waiting)) (trees_of_leaves (length waiting)), subst (λ (ns : List Node). IsSmallRefutation (take (count - 2) lines) ns) (sym held) small), nodes_begin version v c lines nodes more)

  at : number ≡ length (above_tree version v c lines) + length (map item_line (map a_node nodes)) + 1
  at = omega (arith, so.place, placed, above_length, nodes_length)

  with_node : (node : Node) (more : List Node) → item_line (a_node node) ≡ line → BeginsWith ((above_tree version v c lines ++ map item_line (map a_node nodes)) ++ line ∷ []) (to_end (written_lines (as_refutation (claim version v c lines (nodes ++ node ∷ more)))))
  with_node node more spelled =
      subst (λ (front : List (List ℕ)). BeginsWith front (to_end (written_lines (as_refutation (claim version v c lines (nodes ++ node ∷ more))))))
      (ap (λ (ls : List (List ℕ)). above_tree version v c lines ++ ls) (push_node nodes node ∙ ap (λ (l : List ℕ). map item_line (map a_node nodes) ++ l ∷ []) spelled) ∙ sym (append_assoc (above_tree version v c lines) (map item_line (map a_node nodes)) (line ∷ [])))
      (subst (λ (ns : List Node). BeginsWith (above_tree version v c lines ++ map item_line (map a_node (nodes ++ node ∷ []))) (to_end (written_lines (as_refutation (claim version v c lines ns))))) (append_assoc nodes (node ∷ []) more) (nodes_begin version v c lines (nodes ++ node ∷ []) more))

  -- a tree that lacks nodes goes on with no other line
  pub nodes_stop_syntax : 0 < length waiting → ((node : Node) → item_line (a_node node) ≢ line) → HasFaultAfter (above_tree version v c lines) bytes (Syntax number)
  nodes_stop_syntax some none = stops_syntax (above_tree version v c lines) bytes (map item_line (map a_node nodes)) line after cut good number at (λ (w, keeps, begins).
      let found = next_node w version v c lines nodes line begins in
      let shaped : IsTrue (is_tree found.all.nodes) = subst IsShaped found.is keeps in
      elim found.next [
        | inl x ↦ none x.0 x.2
        | inr x ↦ (let e = eqb-true (length waiting) 0 (sym (so.trees []) ∙ ap (are_trees 1) (append-nil nodes ∙ sym x.1) ∙ shaped) in omega (arith, e, some))
      ])

  -- a whole tree goes on with no line
  pub nodes_stop_after : length waiting ≡ 0 → line ≢ [] → HasFaultAfter (above_tree version v c lines) bytes (Syntax number)
  nodes_stop_after whole some = stops_syntax (above_tree version v c lines) bytes (map item_line (map a_node nodes)) line after cut good number at (λ (w, keeps, begins).
      let found = next_node w version v c lines nodes line begins in
      let shaped : IsTrue (is_tree found.all.nodes) = subst IsShaped found.is keeps in
      elim found.next [
        | inl x ↦ (let e : are_trees 0 (x.0 ∷ x.1) ≡ true = ap (λ (n : ℕ). are_trees n (x.0 ∷ x.1)) (sym whole) ∙ sym (so.trees (x.0 ∷ x.1)) ∙ ap (are_trees 1) (sym x.3) ∙ shaped in cc)
        | inr x ↦ some x.0
      ])

  pub nodes_stop_range : 0 < length waiting → (node : Node) → item_line (a_node node) ≡ line → (IsTrue (is_proof_number (number_of node)) → ⊥) → HasFaultAfter (above_tree version v c lines) bytes (Range number)
  nodes_stop_range some node spelled over =
      let more : List Node = leaves (missing_after (length waiting) node) in
      stops_range (above_tree version v c lines) bytes (map item_line (map a_node nodes)) line after cut good number at (as_refutation (claim version v c lines (nodes ++ node ∷ more)), so.trees (node ∷ more) ∙ trees_after (length waiting) node some, with_node node more spelled) (λ (w, keeps, begins).
      let found = next_node w version v c lines nodes line begins in
      let in_range : IsInRangeRefutation found.all = subst IsRanged found.is keeps in
      elim found.next [
        | inl x ↦
            let same : a_node x.0 ≡ a_node node = item_line_injective (a_node x.0) (a_node node) (x.2 ∙ sym spelled) in
            let one : x.0 ≡ node = cc in
            let split : (are_numbered nodes && are_numbered (x.0 ∷ x.1)) ≡ true = sym (list_all-append (λ n. is_proof_number (number_of n)) nodes (x.0 ∷ x.1)) ∙ ap are_numbered (sym x.3) ∙ in_range.numbered in
            over (subst (λ (n : Node). IsTrue (is_proof_number (number_of n))) one ((and_parts (is_proof_number (number_of x.0)) (are_numbered x.1) (and_parts (are_numbered nodes) (are_numbered (x.0 ∷ x.1)) split).1).0))
        | inr x ↦ item_line_nonempty (a_node node) (spelled ∙ x.0)
      ])

  -- a node too many, or one that is too deep
  pub nodes_stop_large : (others : List ℕ) (depth : ℕ) → waiting ≡ others ++ depth ∷ [] → (node : Node) → item_line (a_node node) ≡ line → IsTrue (is_proof_number (number_of node)) → (65536 ≤ length nodes) ⊎ (64 < depth) → HasFaultAfter (above_tree version v c lines) bytes TooLarge
  nodes_stop_large others depth is_waiting node spelled numbered large =
      let some : 0 < length waiting = omega (arith, ap length is_waiting, length-append others (depth ∷ [])) in
      let more : List Node = leaves (missing_after (length waiting) node) in
      let all_numbered : IsTrue (are_numbered (node ∷ more)) = rw numbered (numbered_leaves (missing_after (length waiting) node)) in
      stops_large (above_tree version v c lines) bytes (map item_line (map a_node nodes)) line after cut good (as_refutation (claim version v c lines (nodes ++ node ∷ more)), ranged (node ∷ more) all_numbered (trees_after (length waiting) node some), with_node node more spelled) (λ (w, keeps, begins).
      let found = next_node w version v c lines nodes line begins in
      let count : ℕ = length ((above_tree version v c lines ++ map item_line (map a_node nodes)) ++ line ∷ []) in
      let small : IsFew count (as_refutation found.all) = subst (IsFew count) found.is keeps.1 in
      let left : count - (3 + length found.all.lines) ≡ length nodes + 1 = omega (arith, above_length, nodes_length, ap length found.same, length-append (above_tree version v c lines) (map item_line (map a_node nodes)), length-append (above_tree version v c lines ++ map item_line (map a_node nodes)) (line ∷ [])) in
      elim found.next [
        | inl x ↦
            let held : take (count - (3 + length found.all.lines)) found.all.nodes ≡ nodes ++ x.0 ∷ [] = ap (λ (n : ℕ). take n found.all.nodes) left ∙ ap (take (length nodes + 1)) x.3 ∙ take-append-add nodes (x.0 ∷ x.1) 1 in
            elim large [
              | inl many ↦ omega (arith, many, small.few_nodes, ap length held, length-append nodes (x.0 ∷ []))
              | inr deep ↦
                  let shallow : (is_depth depth && list_all is_depth (depths (reverse (waiting_after others depth x.0)) [])) ≡ true =
                  sym (deep_step others depth x.0 []) ∙ ap (λ (ds : List ℕ). list_all is_depth (depths (reverse ds) (x.0 ∷ []))) (sym is_waiting) ∙ sym (so.deep (x.0 ∷ [])) ∙ ap (λ (ns : List Node). list_all is_depth (depths (0 ∷ []) ns)) (sym held) ∙ small.shallow in
                  (let low = leb-true depth 64 (and_parts (is_depth depth) (list_all is_depth (depths (reverse (waiting_after others depth x.0)) [])) shallow).0 in omega (arith, low, deep))
            ]
        | inr x ↦ item_line_nonempty (a_node node) (spelled ∙ x.0)
      ])

-- the text ends before the tree does
pub nodes_unended : (bytes rest : List ℕ) (first number : ℕ) (nodes : List Node) (waiting : List ℕ) → NodesSoFar bytes rest first number nodes waiting → 0 < length waiting → text_lines rest ≡ rest ∷ [] → (version : Version) (v c : ℕ) (lines : List ProofLine) → FitsAbove v c lines → first ≡ length lines + 4
    → HasFaultAfter (above_tree version v c lines) bytes (Syntax number)
nodes_unended bytes rest first number nodes waiting so some one version v c lines fits placed =
    nodes_stop_syntax bytes rest first number nodes waiting so rest [] one version v c lines fits placed some (λ node e. no_line_of rest (item_words (a_node node)) one e)

-- the end of a whole tree
pub nodes_whole : (bytes rest : List ℕ) (first number : ℕ) (nodes : List Node) (waiting : List ℕ) → NodesSoFar bytes rest first number nodes waiting → length waiting ≡ 0 → length rest ≡ 0 → (text_lines bytes ≡ to_end (map item_line (map a_node nodes))) × IsTrue (is_tree nodes) × IsSmallRefutation [] nodes
nodes_whole bytes rest first number nodes waiting so none ended = (
  so.cut ∙ ap (λ (ls : List (List ℕ)). map item_line (map a_node nodes) ++ ls) (ended_lines rest ended),
  ap (are_trees 1) (sym (append-nil nodes)) ∙ so.trees [] ∙ ap (λ (n : ℕ). are_trees n []) none,
  small_so_far bytes rest first number nodes waiting [] so (omega arith),
)
  where
    ended_lines : (bytes : List ℕ) → length bytes ≡ 0 → text_lines bytes ≡ [] ∷ []
    ended_lines [] e = refl
    ended_lines (b ∷ bytes) e = absurd (omega (arith, e))

-- ---- a node's line

pub no_node_line : (line : List ℕ) → ((node : Node) → node_words node ≢ words_of line) → (node : Node) → item_line (a_node node) ≢ line ++ 10 ∷ []
no_node_line line none node e = none node (words_are (node_words node) line (some_item_words (a_node node)) (plain_item (a_node node)) e)

pub node_line_of : (line : List ℕ) (node : Node) → node_words node ≡ words_of line → item_line (a_node node) ≡ line ++ 10 ∷ []
node_line_of line node e = line_is (node_words node) line e

within : (n : ℕ) → is_proof_number n ≡ true → (1 ≤ n) × (n ≤ 2147483647)
within n e = let parts = and_parts (nat_le 1 n) (nat_le n 2147483647) e in (leb-true 1 n parts.0, leb-true n 2147483647 parts.1)

-- a node that is read in range is the line's
pub read_node : (node read : Node) → read ≡ capped_node node → IsTrue (is_proof_number (number_of read)) → read ≡ node
read_node (Split v) read e fits =
    let in_range : is_proof_number (min v 2147483648) ≡ true = ap (λ (n : Node). is_proof_number (number_of n)) (sym e) ∙ fits in
    e ∙ ap (λ (n : ℕ). Split n) (capped_small v 2147483647 (omega arith) (within (min v 2147483648) in_range).1)
read_node (Leaf k) read e fits =
    let in_range : is_proof_number (min k 2147483648) ≡ true = ap (λ (n : Node). is_proof_number (number_of n)) (sym e) ∙ fits in
    e ∙ ap (λ (n : ℕ). Leaf n) (capped_small k 2147483647 (omega arith) (within (min k 2147483648) in_range).1)

capped_number : (n : ℕ) → is_proof_number n ≡ true → min n 2147483648 ≡ n
capped_number n e = omega (arith, (within n e).1)

-- a node that is read out of range is out of range
pub over_node : (node read : Node) → read ≡ capped_node node → (IsTrue (is_proof_number (number_of read)) → ⊥) → IsTrue (is_proof_number (number_of node)) → ⊥
over_node (Split v) read e over fits = over (ap (λ (n : Node). is_proof_number (number_of n)) e ∙ ap is_proof_number (capped_number v fits) ∙ fits)
over_node (Leaf k) read e over fits = over (ap (λ (n : Node). is_proof_number (number_of n)) e ∙ ap is_proof_number (capped_number k fits) ∙ fits)

-- where bytes are left, a line is left
pub record FirstLine (bytes : List ℕ) : Type 0 where
  pub line : List ℕ
  pub after : List (List ℕ)
  pub cut : text_lines bytes ≡ line ∷ after
  pub some : line ≡ [] → ⊥

onto : (b : ℕ) (lines : List (List ℕ)) → (line : List ℕ) × (after : List (List ℕ)) × (onto_first b lines ≡ line ∷ after) × (line ≡ [] → ⊥)
onto b [] = (b ∷ [], [], refl, λ e. cc)
onto b (l ∷ ls) = (b ∷ l, ls, refl, λ e. cc)

either_line : (t : Bool) (b : ℕ) (lines : List (List ℕ)) → (line : List ℕ) × (after : List (List ℕ)) × (cond t ((10 ∷ []) ∷ lines) (onto_first b lines) ≡ line ∷ after) × (line ≡ [] → ⊥)
either_line true b lines = (10 ∷ [], lines, refl, λ e. cc)
either_line false b lines = onto b lines

pub first_line : (bytes : List ℕ) → 0 < length bytes → FirstLine bytes
first_line [] some = absurd (omega arith)
first_line (b ∷ bytes) some = let x = either_line (eqb b 10) b (text_lines bytes) in record { line = x.0; after = x.1; cut = x.2; some = x.3 }

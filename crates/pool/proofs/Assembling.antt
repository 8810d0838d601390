-- The refutation of a pool is within the limits, and its leaves refute.
use Rattle.std.proofs.Common.{◌≡◌, ℕ, zero, suc, ◌+◌, ◌≤◌, leb, IsTrue, true, List, [], ◌∷◌, ◌++◌, length, map, take, get_or, Option, Some, None, slice_get, refl, sym, ap, ◌∙◌, subst, arith}
use Rattle.std.specs.List.{list_all}
use Rattle.std.specs.Option.{option_map, IsNone}
use Rattle.std.proofs.lemmas.Bool.{and_from, le-leb}
use Rattle.std.proofs.lemmas.List.{length-append, length-map, take_more}
use Rattle.std.proofs.lemmas.Option.{slice_get-get_or, slice_get_within, get_or_from_slice_get}
use Rattle.clauses.specs.Clauses.{Literal, Conjunction}
use Rattle.refutations.specs.declared.tree.Node.{Node}
use Rattle.refutations.specs.BinaryTrees.{Tree, preorder}
use Rattle.refutations.specs.Derivations.{clauses_before, clause_numbered}
use Rattle.refutations.specs.Proofs.{ProofLine, is_proof_number, is_tree, are_numbered}
use Rattle.refutations.specs.Refutations.{AreDerived, Accepts}
use Rattle.refutations.specs.Trees.{Refutes}
use Rattle.prooflog.specs.declared.refutation.Version.TheVariants.{One}
use Rattle.prooflog.specs.Refutations.{ClaimedRefutation, IsRefutation, is_line_in_range, is_depth, depths}
use Rattle.prooflog.proofs.TreeDepths.{depths_are}
use Rattle.trees.specs.declared.tree.NodeKind.TheVariants.{Leaf}
use Rattle.trees.specs.Laws.{AreLeavesRefuted}
use Rattle.trees.specs.Trees.{TreeNode, TreeState, IsGrownTree, IsBelow, AreLeavesNumbered, path_at}
use Rattle.trees.proofs.Splits.{kind_within, closed_refute, splits_sound}
use Rattle.pool.specs.Evidence.{IsTreeOf}
use Rattle.pool.specs.States.{PoolState, IsSoundPool, IsOpenLeaf}
use Rattle.pool.proofs.Sizes.{few_nodes, shallow_below}

number_named : (clauses : List (List Literal)) (n : ℕ) (clause : List Literal) → length clauses ≤ 2147483647 → clause_numbered clauses n ≡ Some clause → is_proof_number n ≡ true
number_named clauses zero clause few e = absurd (let told : ◌≡◌ {A = Option (List Literal)} None (Some clause) = e in cc)
number_named clauses (suc place) clause few e =
    let high = slice_get_within clauses place clause e in
    and_from (leb 1 (suc place)) (leb (suc place) 2147483647) (le-leb 1 (suc place) (omega arith)) (le-leb (suc place) 2147483647 (omega arith))

pub leaves_numbered : (f : Conjunction) (log : List ProofLine) (nodes : List TreeNode) (numbers : List ℕ) → length f.clauses ≤ 4000000 → length log ≤ 1000000 → AreLeavesRefuted nodes (clauses_before f log) numbers → AreLeavesNumbered nodes numbers
leaves_numbered f log nodes numbers few_clauses few_lines refuted place is =
    let r = refuted place is in
    number_named (clauses_before f log) (get_or numbers place 0) r.clause (omega (arith, few_clauses, few_lines, length-append f.clauses (map (λ (l : ProofLine). l.literals) log), length-map log (λ (l : ProofLine). l.literals))) r.named

pub within_limits : (state : TreeState) (clauses : ℕ) (log : List ProofLine) (nodes : List Node) (numbers : List ℕ) (tree : Tree) → IsGrownTree state → clauses ≤ 4000000 → length log ≤ 1000000 → IsTrue (list_all is_line_in_range log) → preorder tree ≡ nodes → IsBelow state.nodes numbers tree 0 → IsTrue (is_tree nodes) → IsTrue (are_numbered nodes) → IsRefutation (record { version = One; variables = state.variables; clauses = clauses; lines = log; nodes = nodes })
within_limits state clauses log nodes numbers tree grown few_clauses few_lines in_range are below tree_is numbered =
    let root : 0 ≡ length (path_at state.nodes 0) = sym (ap length (splits_sound state.variables state.nodes grown.grows).0) in (
      record {
        variables = grown.variables_fit;
        clauses = omega arith;
        lines = in_range;
        numbered = numbered;
        is_tree = tree_is;
      },
      record {
        few_lines = few_lines;
        few_nodes = omega (arith, few_nodes state.variables state.nodes numbers tree grown.grows below, ap length are, grown.few);
        shallow = subst (λ (ns : List Node). list_all is_depth (depths (0 ∷ []) ns) ≡ true) are (ap (list_all is_depth) (depths_are tree) ∙ shallow_below state.variables state.nodes numbers grown.grows grown.shallow tree 0 0 below root);
      },
    )

pub accepts : (f : Conjunction) (log : List ProofLine) (state : TreeState) (numbers : List ℕ) (nodes : List Node) (tree : Tree) → state.variables ≡ f.variables → IsGrownTree state → AreDerived f log → AreLeavesRefuted state.nodes (clauses_before f log) numbers → preorder tree ≡ nodes → IsBelow state.nodes numbers tree 0 → Accepts f log nodes
accepts f log state numbers nodes tree same grown derived refuted are below =
    record {
      lines_derived = derived;
      tree = (tree, are, subst (λ (n : ℕ). Refutes n (clauses_before f log) [] tree) same (closed_refute state.variables state.nodes (clauses_before f log) numbers tree grown.grows refuted below));
    }

-- where no leaf is open, each is refuted
pub all_refuted : (h : PoolState) → IsSoundPool h → ((leaf : ℕ) → IsOpenLeaf h leaf → ⊥) → AreLeavesRefuted h.tree.nodes (clauses_before h.formula h.log) h.closed
all_refuted h s none place is =
    let low = kind_within h.tree.nodes place Leaf is in
    let number = get_or h.closed place 0 in
    let read : slice_get h.closed place ≡ Some number = slice_get-get_or h.closed place 0 (omega (arith, s.many)) in
    s.closed place number read (λ zeroth. none place (is, read ∙ ap (λ (n : ℕ). Some n) zeroth))

-- one line more was copied
pub one_more_copied : (log lines more : List ProofLine) (place : ℕ) (line copy : ProofLine) → slice_get log place ≡ Some line → copy ≡ line → lines ≡ take place log → more ≡ lines ++ copy ∷ [] → more ≡ take (place + 1) log
one_more_copied log lines more place line copy at same so_far is =
    let low = slice_get_within log place line at in
    is
    ∙ ap (λ (ls : List ProofLine). ls ++ copy ∷ []) so_far
    ∙ ap (λ (l : ProofLine). take place log ++ l ∷ []) (same ∙ sym (get_or_from_slice_get log place line line at))
    ∙ sym (take_more log place line low)

-- the same for counts and lines that are these
pub within_limits_of : (state : TreeState) (variables clauses : ℕ) (log lines : List ProofLine) (nodes : List Node) → variables ≡ state.variables → lines ≡ log → IsGrownTree state → clauses ≤ 4000000 → length log ≤ 1000000 → IsTrue (list_all is_line_in_range log) → (numbers : List ℕ) → (tree : Tree) × (preorder tree ≡ nodes) × IsBelow state.nodes numbers tree 0 → IsTrue (is_tree nodes) → IsTrue (are_numbered nodes) → IsRefutation (record { version = One; variables = variables; clauses = clauses; lines = lines; nodes = nodes })
within_limits_of state variables clauses log lines nodes one two grown few_clauses few_lines in_range numbers below tree_is numbered =
    subst (λ (v : ℕ). IsRefutation (record { version = One; variables = v; clauses = clauses; lines = lines; nodes = nodes })) (sym one)
    (subst (λ (ls : List ProofLine). IsRefutation (record { version = One; variables = state.variables; clauses = clauses; lines = ls; nodes = nodes })) (sym two)
    (within_limits state clauses log nodes numbers below.0 grown few_clauses few_lines in_range below.1 below.2 tree_is numbered))

-- the same nodes under another name
pub tree_as : (nodes : List TreeNode) (numbers : List ℕ) (made claimed : List Node) → claimed ≡ made → IsTreeOf nodes numbers made → IsTreeOf nodes numbers claimed
tree_as nodes numbers made claimed is tree = subst (IsTreeOf nodes numbers) (sym is) tree

pub accepts_claim : (f : Conjunction) (log : List ProofLine) (state : TreeState) (numbers : List ℕ) (claim : ClaimedRefutation) (nodes : List Node) → claim.lines ≡ log → claim.nodes ≡ nodes → state.variables ≡ f.variables → IsGrownTree state → AreDerived f log → AreLeavesRefuted state.nodes (clauses_before f log) numbers → (tree : Tree) × (preorder tree ≡ nodes) × IsBelow state.nodes numbers tree 0 → Accepts f claim.lines claim.nodes
accepts_claim f log state numbers claim nodes one two same grown derived refuted below =
    subst (λ (ls : List ProofLine). Accepts f ls claim.nodes) (sym one)
    (subst (λ (ns : List Node). Accepts f log ns) (sym two) (accepts f log state numbers nodes below.0 same grown derived refuted below.1 below.2))

pub refuted_as : (f g : Conjunction) (log : List ProofLine) (nodes : List TreeNode) (numbers slice : List ℕ) → g ≡ f → slice ≡ numbers → AreLeavesRefuted nodes (clauses_before f log) numbers → AreLeavesRefuted nodes (clauses_before g log) slice
refuted_as f g log nodes numbers slice one two refuted =
    subst (λ (h : Conjunction). AreLeavesRefuted nodes (clauses_before h log) slice) (sym one)
    (subst (λ (ns : List ℕ). AreLeavesRefuted nodes (clauses_before f log) ns) (sym two) refuted)

pub none_mapped : {X Y : Type 0} (f : X → Y) (o : Option X) → o ≡ None → IsNone (option_map f o)
none_mapped f None e = refl
none_mapped f (Some x) e = absurd (cc)

-- The trees that stand one after another in the rest of a tree's preorder, and their entries.
use Rattle.std.proofs.Common.{◌≡◌, ℕ, zero, suc, ◌+◌, ◌<◌, ◌≤◌, Bool, true, false, ◌&&◌, List, [], ◌∷◌, ◌++◌, length, drop, get_or, reverse, Option, Some, None, refl, ap, subst, sym, ◌∙◌, arith}
use Rattle.std.specs.Option.{is_some}
use Rattle.std.specs.List.{list_all}
use Rattle.std.proofs.lemmas.Bool.{and_parts, and_from}
use Rattle.std.proofs.lemmas.List.{append-nil, append_assoc, drop_more, drop_all, reverse-append, length-reverse}
use Rattle.std.proofs.lemmas.List.Folds.{list_all-append}
use Rattle.clauses.specs.Clauses.{Literal, Conjunction}
use Rattle.refutations.specs.declared.tree.Node.{Node}
use Rattle.refutations.specs.declared.tree.Node.TheVariants.{Split, Leaf as LeafNode}
use Rattle.refutations.specs.BinaryTrees.{Tree, leaf, split, preorder}
use Rattle.refutations.specs.Proofs.{ProofLine}
use Rattle.refutations.specs.Derivations.{clauses_before, clause_numbered}
use Rattle.refutations.specs.Refutations.{AreDerived, Accepts}
use Rattle.refutations.specs.Trees.{branch, is_refuted, Refutes}
use Rattle.tree_lines.specs.declared.joining.Entry.{Entry}
use Rattle.tree_lines.specs.parts.Entries.{HasClauseNumber, IsEntry, GoesOn, IsSplitEntry}
use Rattle.tree_lines.proofs.Paths.{empty_at_root, no_empty_tautology}
use Rattle.tree_lines.proofs.Added.{entry_more, entry_goes_on}

-- ---- trees

-- a split over the first two trees
abbrev pub grown : ℕ → List Tree → List Tree
grown v [] = []
grown v (first ∷ []) = []
grown v (first ∷ second ∷ trees) = split v first second ∷ trees

-- the trees whose preorders these nodes are, one after another
abbrev pub forest : List Node → List Tree
forest [] = []
forest (LeafNode number ∷ nodes) = leaf number ∷ forest nodes
forest (Split v ∷ nodes) = grown v (forest nodes)

abbrev pub are_two : List Tree → Bool
are_two [] = false
are_two (first ∷ []) = false
are_two (first ∷ second ∷ trees) = true

-- two trees stand behind each split
abbrev pub are_whole : List Node → Bool
are_whole [] = true
are_whole (LeafNode number ∷ nodes) = are_whole nodes
are_whole (Split v ∷ nodes) = are_two (forest nodes) && are_whole nodes

forest_preorder : (tree : Tree) (nodes : List Node) → forest (preorder tree ++ nodes) ≡ tree ∷ forest nodes
forest_preorder (leaf number) nodes = refl
forest_preorder (split v first second) nodes =
    ap (λ (ns : List Node). grown v (forest ns)) (append_assoc (preorder first) (preorder second) nodes)
    ∙ ap (grown v) (forest_preorder first (preorder second ++ nodes))
    ∙ ap (λ (ts : List Tree). grown v (first ∷ ts)) (forest_preorder second nodes)

whole_preorder : (tree : Tree) (nodes : List Node) → are_whole nodes ≡ true → are_whole (preorder tree ++ nodes) ≡ true
whole_preorder (leaf number) nodes e = e
whole_preorder (split v first second) nodes e =
    let behind = preorder first ++ (preorder second ++ nodes) in
    let two : are_two (forest behind) ≡ true = ap are_two (forest_preorder first (preorder second ++ nodes) ∙ ap (λ (ts : List Tree). first ∷ ts) (forest_preorder second nodes)) in
    let both = and_from (are_two (forest behind)) (are_whole behind) two (whole_preorder first (preorder second ++ nodes) (whole_preorder second nodes e)) in
    subst (λ (ns : List Node). (are_two (forest ns) && are_whole ns) ≡ true) (sym (append_assoc (preorder first) (preorder second) nodes)) both

whole_tail : (node : Node) (nodes : List Node) → are_whole (node ∷ nodes) ≡ true → are_whole nodes ≡ true
whole_tail (LeafNode number) nodes e = e
whole_tail (Split v) nodes e = (and_parts (are_two (forest nodes)) (are_whole nodes) e).1

whole_drop : (place : ℕ) (nodes : List Node) → are_whole nodes ≡ true → are_whole (drop place nodes) ≡ true
whole_drop zero nodes e = e
whole_drop (suc place) [] e = refl
whole_drop (suc place) (node ∷ nodes) e = whole_drop place nodes (whole_tail node nodes e)

abbrev pub is_named : List (List Literal) → Node → Bool
is_named clauses (Split v) = true
is_named clauses (LeafNode number) = is_some (clause_numbered clauses number)

-- each leaf of a tree that refutes names a clause
named_leaves : (variables : ℕ) (clauses : List (List Literal)) (path : List Literal) (tree : Tree) → Refutes variables clauses path tree → list_all (is_named clauses) (preorder tree) ≡ true
named_leaves variables clauses path (leaf number) refutes = and_from (is_some (clause_numbered clauses number)) true (ap is_some refutes.named) refl
named_leaves variables clauses path (split v first second) refutes =
    list_all-append (is_named clauses) (preorder first) (preorder second)
    ∙ and_from (list_all (is_named clauses) (preorder first)) (list_all (is_named clauses) (preorder second)) (named_leaves variables clauses (branch v true path) first refutes.1) (named_leaves variables clauses (branch v false path) second refutes.2)

-- ---- entries

-- an entry of this tree, which is false on each path on which the tree refutes
pub record FitsTree (f : Conjunction) (lines earlier : List ProofLine) (tree : Tree) (entry : Entry) : Type 0 where
  pub is_entry : IsEntry f earlier entry
  pub refuted : (path : List Literal) → Refutes f.variables (clauses_before f lines) path tree → is_refuted path entry.literals.items ≡ true

abbrev pub Fit : Conjunction → List ProofLine → List ProofLine → List Tree → List Entry → Type 0
Fit f lines earlier [] [] = Unit {0}
Fit f lines earlier [] (entry ∷ entries) = ⊥
Fit f lines earlier (tree ∷ trees) [] = ⊥
Fit f lines earlier (tree ∷ trees) (entry ∷ entries) = FitsTree f lines earlier tree entry × Fit f lines earlier trees entries

fit_length : (f : Conjunction) (lines earlier : List ProofLine) (trees : List Tree) (entries : List Entry) → Fit f lines earlier trees entries → length entries ≡ length trees
fit_length f lines earlier [] [] fit = refl
fit_length f lines earlier [] (entry ∷ entries) fit = absurd fit
fit_length f lines earlier (tree ∷ trees) [] fit = absurd fit
fit_length f lines earlier (tree ∷ trees) (entry ∷ entries) fit = ap suc (fit_length f lines earlier trees entries fit.1)

fit_goes_on : (f : Conjunction) (lines old new : List ProofLine) (trees : List Tree) (entries : List Entry) → GoesOn f lines old new → Fit f lines (lines ++ old) trees entries → Fit f lines (lines ++ new) trees entries
fit_goes_on f lines old new [] [] on fit = tt
fit_goes_on f lines old new [] (entry ∷ entries) on fit = absurd fit
fit_goes_on f lines old new (tree ∷ trees) [] on fit = absurd fit
fit_goes_on f lines old new (tree ∷ trees) (entry ∷ entries) on fit =
    (record { is_entry = entry_goes_on f lines old new entry on fit.0.is_entry; refuted = fit.0.refuted }, fit_goes_on f lines old new trees entries on fit.1)

fits_leaf : (f : Conjunction) (lines added : List ProofLine) (number : ℕ) (entry : Entry) → IsEntry f lines entry → clause_numbered (clauses_before f lines) number ≡ Some entry.literals.items → FitsTree f lines (lines ++ added) (leaf number) entry
fits_leaf f lines added number entry is named =
    record {
      is_entry = entry_more f lines added entry is;
      refuted = λ path refutes.
          let there = refutes.named in
          let same : refutes.clause ≡ entry.literals.items = cc in
          subst (λ (ls : List Literal). is_refuted path ls ≡ true) same refutes.refuted;
    }

abbrev pub split_literal : ℕ → Literal
split_literal v = record { variable = v; positive = true }

fit_split : (f : Conjunction) (lines old new : List ProofLine) (v : ℕ) (trees : List Tree) (first second entry : Entry) (entries : List Entry) → IsSplitEntry f lines old new (split_literal v) first second entry → Fit f lines (lines ++ old) trees (first ∷ second ∷ entries) → Fit f lines (lines ++ new) (grown v trees) (entry ∷ entries)
fit_split f lines old new v [] first second entry entries is fit = absurd fit
fit_split f lines old new v (one ∷ []) first second entry entries is fit = absurd fit.1
fit_split f lines old new v (one ∷ other ∷ trees) first second entry entries is fit = (
  record {
    is_entry = is.is_entry;
    refuted = λ path refutes. is.false_there path (fit.0.refuted (branch v true path) refutes.1) (fit.1.0.refuted (branch v false path) refutes.2);
  },
  fit_goes_on f lines old new trees entries is.added fit.1.1,
)

-- ---- the walk from the last node to the first

-- What holds before the node at a place is seen: the lines derive, and the entries are those of the
-- trees behind, the first of which has the last entry.
pub record IsWalked (f : Conjunction) (lines added : List ProofLine) (nodes : List Node) (place : ℕ) (entries : List Entry) : Type 0 where
  pub derived : AreDerived f (lines ++ added)
  pub fit : Fit f lines (lines ++ added) (forest (drop place nodes)) (reverse entries)

pub walked_none : (f : Conjunction) (lines added : List ProofLine) (nodes : List Node) (place : ℕ) (entries : List Entry) → Accepts f lines nodes → added ≡ [] → entries ≡ [] → length nodes ≤ place → IsWalked f lines added nodes place entries
walked_none f lines added nodes place entries accepts no_lines no_entries past =
    record {
      derived = subst (λ (ls : List ProofLine). AreDerived f ls) (sym (append-nil lines) ∙ ap (λ (ls : List ProofLine). lines ++ ls) (sym no_lines)) accepts.lines_derived;
      fit =
          subst (λ (ns : List Node). Fit f lines (lines ++ added) (forest ns) (reverse entries)) (sym (drop_all place nodes past))
          (subst (λ (es : List Entry). Fit f lines (lines ++ added) [] (reverse es)) (sym no_entries) tt);
    }

node_at : (nodes : List Node) (place : ℕ) (node : Node) → place < length nodes → get_or nodes place (Split 0) ≡ node → drop place nodes ≡ node ∷ drop (place + 1) nodes
node_at nodes place node below read = drop_more nodes place (Split 0) below ∙ ap (λ (n : Node). n ∷ drop (place + 1) nodes) read

one_less : (f : Conjunction) (lines added : List ProofLine) (nodes : List Node) (place next : ℕ) (entries : List Entry) → next ≡ place + 1 → IsWalked f lines added nodes next entries → IsWalked f lines added nodes (place + 1) entries
one_less f lines added nodes place next entries e walked = subst (λ (p : ℕ). IsWalked f lines added nodes p entries) e walked

pub walked_leaf : (f : Conjunction) (lines added : List ProofLine) (nodes : List Node) (place next : ℕ) (entries new : List Entry) (number : ℕ) (entry : Entry) → next ≡ place + 1 → place < length nodes → get_or nodes place (Split 0) ≡ LeafNode number → IsEntry f lines entry → clause_numbered (clauses_before f lines) number ≡ Some entry.literals.items → new ≡ entries ++ entry ∷ [] → IsWalked f lines added nodes next entries → IsWalked f lines added nodes place new
walked_leaf f lines added nodes place next entries new number entry less below is entry_is named pushed later =
    let walked = one_less f lines added nodes place next entries less later in
    let here : drop place nodes ≡ LeafNode number ∷ drop (place + 1) nodes = node_at nodes place (LeafNode number) below is in
    let last : reverse new ≡ entry ∷ reverse entries = ap reverse pushed ∙ reverse-append entries (entry ∷ []) in
    let fit : Fit f lines (lines ++ added) (leaf number ∷ forest (drop (place + 1) nodes)) (entry ∷ reverse entries) = (fits_leaf f lines added number entry entry_is named, walked.fit) in
    record {
      derived = walked.derived;
      fit =
          subst (λ (ns : List Node). Fit f lines (lines ++ added) (forest ns) (reverse new)) (sym here)
          (subst (λ (es : List Entry). Fit f lines (lines ++ added) (leaf number ∷ forest (drop (place + 1) nodes)) es) (sym last) fit);
    }

popped : (entries rest : List Entry) (first second : Entry) → entries ≡ rest ++ second ∷ first ∷ [] → reverse entries ≡ first ∷ second ∷ reverse rest
popped entries rest first second e = ap reverse e ∙ reverse-append rest (second ∷ first ∷ [])

pub walked_split : (f : Conjunction) (lines old added : List ProofLine) (nodes : List Node) (place next : ℕ) (entries rest new : List Entry) (v : ℕ) (first second entry : Entry) → next ≡ place + 1 → place < length nodes → get_or nodes place (Split 0) ≡ Split v → entries ≡ rest ++ second ∷ first ∷ [] → IsSplitEntry f lines old added (split_literal v) first second entry → new ≡ rest ++ entry ∷ [] → IsWalked f lines old nodes next entries → IsWalked f lines added nodes place new
walked_split f lines old added nodes place next entries rest new v first second entry less below is taken split_is pushed later =
    let walked = one_less f lines old nodes place next entries less later in
    let here : drop place nodes ≡ Split v ∷ drop (place + 1) nodes = node_at nodes place (Split v) below is in
    let last : reverse new ≡ entry ∷ reverse rest = ap reverse pushed ∙ reverse-append rest (entry ∷ []) in
    let trees = forest (drop (place + 1) nodes) in
    let before = subst (λ (es : List Entry). Fit f lines (lines ++ old) trees es) (popped entries rest first second taken) walked.fit in
    let fit = fit_split f lines old added v trees first second entry (reverse rest) split_is before in
    record {
      derived = split_is.added.derived;
      fit =
          subst (λ (ns : List Node). Fit f lines (lines ++ added) (forest ns) (reverse new)) (sym here)
          (subst (λ (es : List Entry). Fit f lines (lines ++ added) (grown v trees) es) (sym last) fit);
    }

-- the last two entries
pub walked_pop : (f : Conjunction) (lines old : List ProofLine) (nodes : List Node) (place : ℕ) (entries rest : List Entry) (first second : Entry) → entries ≡ rest ++ second ∷ first ∷ [] → IsWalked f lines old nodes place entries → IsEntry f (lines ++ old) first × IsEntry f (lines ++ old) second
walked_pop f lines old nodes place entries rest first second taken walked =
    two_entries (forest (drop place nodes)) (subst (λ (es : List Entry). Fit f lines (lines ++ old) (forest (drop place nodes)) es) (popped entries rest first second taken) walked.fit) where
      two_entries : (trees : List Tree) → Fit f lines (lines ++ old) trees (first ∷ second ∷ reverse rest) → IsEntry f (lines ++ old) first × IsEntry f (lines ++ old) second
      two_entries [] fit = absurd fit
      two_entries (one ∷ []) fit = absurd fit.1
      two_entries (one ∷ other ∷ trees) fit = (fit.0.is_entry, fit.1.0.is_entry)

accepted_whole : (f : Conjunction) (lines : List ProofLine) (nodes : List Node) → Accepts f lines nodes → are_whole nodes ≡ true
accepted_whole f lines nodes accepts =
    subst (λ (ns : List Node). are_whole ns ≡ true) (append-nil (preorder accepts.tree.0) ∙ accepts.tree.1) (whole_preorder accepts.tree.0 [] refl)

two_length : (trees : List Tree) → are_two trees ≡ true → 2 ≤ length trees
two_length [] e = absurd (cc)
two_length (first ∷ []) e = absurd (cc)
two_length (first ∷ second ∷ trees) e = omega arith

-- at a split there are two entries
pub walked_two : (f : Conjunction) (lines old : List ProofLine) (nodes : List Node) (place next : ℕ) (entries : List Entry) (v : ℕ) → Accepts f lines nodes → next ≡ place + 1 → place < length nodes → get_or nodes place (Split 0) ≡ Split v → IsWalked f lines old nodes next entries → 2 ≤ length entries
walked_two f lines old nodes place next entries v accepts less below is later =
    let walked = one_less f lines old nodes place next entries less later in
    let here : drop place nodes ≡ Split v ∷ drop (place + 1) nodes = node_at nodes place (Split v) below is in
    let trees = forest (drop (place + 1) nodes) in
    let whole = subst (λ (ns : List Node). are_whole ns ≡ true) here (whole_drop place nodes (accepted_whole f lines nodes accepts)) in
    let two = two_length trees (and_parts (are_two trees) (are_whole (drop (place + 1) nodes)) whole).0 in
    let size = fit_length f lines (lines ++ old) trees (reverse entries) walked.fit in
    let same = length-reverse entries in
    omega arith

all_read : (p : Node → Bool) (nodes : List Node) (place : ℕ) (node : Node) → list_all p nodes ≡ true → place < length nodes → get_or nodes place (Split 0) ≡ node → p node ≡ true
all_read p [] place node all below read = absurd (omega arith)
all_read p (n ∷ nodes) zero node all below read = subst (λ (m : Node). p m ≡ true) read (and_parts (p n) (list_all p nodes) all).0
all_read p (n ∷ nodes) (suc place) node all below read = all_read p nodes place node (and_parts (p n) (list_all p nodes) all).1 (omega arith) read

-- a leaf names a clause
pub leaf_named : (f : Conjunction) (lines : List ProofLine) (nodes : List Node) (place number : ℕ) → Accepts f lines nodes → place < length nodes → get_or nodes place (Split 0) ≡ LeafNode number → is_some (clause_numbered (clauses_before f lines) number) ≡ true
leaf_named f lines nodes place number accepts below is =
    let clauses = clauses_before f lines in
    let all = subst (λ (ns : List Node). list_all (is_named clauses) ns ≡ true) accepts.tree.1 (named_leaves f.variables clauses [] accepts.tree.0 accepts.tree.2) in
    all_read (is_named clauses) nodes place (LeafNode number) all below is

-- ---- the root

-- the one entry that is left names the empty clause
pub record IsRoot (f : Conjunction) (lines added : List ProofLine) (entries : List Entry) : Type 0 where
  pub root : Entry
  pub alone : reverse entries ≡ root ∷ []
  pub is_entry : IsEntry f (lines ++ added) root
  pub empty : root.literals.items ≡ []

root_of : (f : Conjunction) (lines added : List ProofLine) (tree : Tree) (entries : List Entry) (reversed : List Entry) → Refutes f.variables (clauses_before f lines) [] tree → reverse entries ≡ reversed → Fit f lines (lines ++ added) (tree ∷ []) reversed → IsRoot f lines added entries
root_of f lines added tree entries [] refutes same fit = absurd fit
root_of f lines added tree entries (root ∷ []) refutes same fit =
    record { root = root; alone = same; is_entry = fit.0.is_entry; empty = empty_at_root root.literals.items (fit.0.refuted [] refutes) }
root_of f lines added tree entries (root ∷ other ∷ others) refutes same fit = absurd fit.1

pub walked_all : (f : Conjunction) (lines added : List ProofLine) (nodes : List Node) (place : ℕ) (entries : List Entry) → Accepts f lines nodes → place ≡ 0 → IsWalked f lines added nodes place entries → IsRoot f lines added entries
walked_all f lines added nodes place entries accepts first walked =
    let tree = accepts.tree.0 in
    let one : forest nodes ≡ tree ∷ [] = ap forest (sym (append-nil (preorder tree) ∙ accepts.tree.1)) ∙ forest_preorder tree [] in
    let whole = subst (λ (p : ℕ). Fit f lines (lines ++ added) (forest (drop p nodes)) (reverse entries)) first walked.fit in
    root_of f lines added tree entries (reverse entries) accepts.tree.2 refl (subst (λ (ts : List Tree). Fit f lines (lines ++ added) ts (reverse entries)) one whole)

-- the last entry is the root's
pub root_popped : (f : Conjunction) (lines added : List ProofLine) (entries rest : List Entry) (last : Entry) → IsRoot f lines added entries → entries ≡ rest ++ last ∷ [] → IsEntry f (lines ++ added) last × (last.literals.items ≡ [])
root_popped f lines added entries rest last root taken =
    let reversed : reverse entries ≡ last ∷ reverse rest = ap reverse taken ∙ reverse-append rest (last ∷ []) in
    let alone = root.alone in
    let same : root.root ≡ last = cc in
    (subst (λ (e : Entry). IsEntry f (lines ++ added) e) same root.is_entry, subst (λ (e : Entry). e.literals.items ≡ []) same root.empty)

pub no_empty_stack : (f : Conjunction) (lines added : List ProofLine) (entries : List Entry) → IsRoot f lines added entries → length entries ≡ 0 → ⊥
no_empty_stack f lines added entries root none =
    let same = length-reverse entries in
    let one = ap length root.alone in
    omega arith

-- the root's entry has a number, and it names the empty clause
root_number : (clauses : List (List Literal)) (literals : List Literal) (found : Option ℕ) → literals ≡ [] → HasClauseNumber clauses literals found → found ≡ None → ⊥
root_number clauses literals None none numbered e = no_empty_tautology literals none numbered
root_number clauses literals (Some number) none numbered e = cc

pub root_has_number : (f : Conjunction) (lines : List ProofLine) (root : Entry) → IsEntry f lines root → root.literals.items ≡ [] → root.number ≡ None → ⊥
root_has_number f lines root is none e = root_number (clauses_before f lines) root.literals.items root.number none is.numbered e

named_empty : (clauses : List (List Literal)) (literals : List Literal) (found : Option ℕ) (number : ℕ) → literals ≡ [] → HasClauseNumber clauses literals found → found ≡ Some number → clause_numbered clauses number ≡ Some []
named_empty clauses literals None number none numbered e = absurd (cc)
named_empty clauses literals (Some other) number none numbered e =
    let same : other ≡ number = cc in
    subst (λ (n : ℕ). clause_numbered clauses n ≡ Some []) same (numbered.0 ∙ ap Some none)

pub root_named : (f : Conjunction) (lines : List ProofLine) (root : Entry) (number : ℕ) → IsEntry f lines root → root.literals.items ≡ [] → root.number ≡ Some number → clause_numbered (clauses_before f lines) number ≡ Some []
root_named f lines root number is none e = named_empty (clauses_before f lines) root.literals.items root.number number none is.numbered e

pub accepts_nodes : (f : Conjunction) (lines : List ProofLine) (tree nodes : List Node) → nodes ≡ tree → Accepts f lines tree → Accepts f lines nodes
accepts_nodes f lines tree nodes same accepts = subst (λ (ns : List Node). Accepts f lines ns) (sym same) accepts

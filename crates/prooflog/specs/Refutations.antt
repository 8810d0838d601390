-- Refutations as their text writes them, and their limits.
use Rattle.std.specs.Prelude.{codes, ℕ, ◌+◌, ◌≤◌, Bool, ◌&&◌, nat_le, IsTrue, List, [], ◌∷◌, ◌++◌, length, map, if◌then◌else◌}
use Rattle.std.specs.List.{list_all}
use Rattle.plaintext.specs.Plain.{numeral, line_of}
use Rattle.clauses.specs.Clauses.{Literal, rises, is_within}
use Rattle.refutations.specs.Proofs.{ProofLine, is_tree, are_numbers, are_numbered}
use Rattle.refutations.specs.declared.tree.Node.{Node}
use Rattle.refutations.specs.declared.tree.Node.TheVariants.{Split, Leaf}
use Rattle.prooflog.specs.declared.refutation.Version.{Version}

-- A refutation is said to refute a formula with so many variables and clauses, by these proof
-- lines, and by the tree of these nodes, which stand in preorder. Its version says whether it may
-- have lines that aren't needed: one of version 2 may not.
pub record ClaimedRefutation : Type 0 where
  pub version : Version
  pub variables : ℕ
  pub clauses : ℕ
  pub lines : List ProofLine
  pub nodes : List Node

-- A literal's word is the numeral of its variable, with `-` before it where the literal is
-- negative.
abbrev pub literal_word : Literal → List ℕ
literal_word l = if l.positive then numeral l.variable else 45 ∷ numeral l.variable

-- A proof line's words are `line`, its literals, `:` and its hints.
abbrev pub proof_words : ProofLine → List (List ℕ)
proof_words line = codes "line" ∷ (map literal_word line.literals ++ codes ":" ∷ map numeral line.hints)

-- A node's words are `split V` or `leaf K`.
abbrev pub node_words : Node → List (List ℕ)
node_words (Split variable) = codes "split" ∷ numeral variable ∷ []
node_words (Leaf number) = codes "leaf" ∷ numeral number ∷ []

-- A line of a refutation below its heading is a proof line, the line `tree`, or a node.
pub data Item : Type 0 where
  a_proof : ProofLine → Item
  the_tree : Item
  a_node : Node → Item

abbrev pub item_words : Item → List (List ℕ)
item_words (a_proof line) = proof_words line
item_words the_tree = codes "tree" ∷ []
item_words (a_node n) = node_words n

abbrev pub item_line : Item → List ℕ
item_line item = line_of (item_words item)

-- The proof lines come first, then the line `tree`, and then the nodes.
abbrev pub items : ClaimedRefutation → List Item
items r = map a_proof r.lines ++ the_tree ∷ map a_node r.nodes

-- A proof line is in range if its variables are from 1 to 2,147,483,647 and rise strictly, and its
-- hints are from 1 to 2,147,483,647.
abbrev pub is_line_in_range : ProofLine → Bool
is_line_in_range line = is_within 2147483647 line.literals && rises line.literals && are_numbers line.hints

-- The nodes are those of one tree, and all numbers are in range: the counts of the heading from 0,
-- those of lines and nodes from 1.
pub record IsInRangeRefutation (r : ClaimedRefutation) : Type 0 where
  pub variables : r.variables ≤ 2147483647
  pub clauses : r.clauses ≤ 2147483647
  pub lines : IsTrue (list_all is_line_in_range r.lines)
  pub numbered : IsTrue (are_numbered r.nodes)
  pub is_tree : IsTrue (is_tree r.nodes)

-- How deep the nodes of some trees stand, where these are the depths of their roots. What is below
-- a split is one deeper.
abbrev pub depths : List ℕ → List Node → List ℕ
depths [] nodes = []
depths (d ∷ roots) [] = []
depths (d ∷ roots) (Split variable ∷ nodes) = d ∷ depths ((d + 1) ∷ (d + 1) ∷ roots) nodes
depths (d ∷ roots) (Leaf number ∷ nodes) = d ∷ depths roots nodes

-- The depths of the trees that wait once a node at this depth was read, the next one last: below a
-- split there are two.
abbrev pub waiting_after : List ℕ → ℕ → Node → List ℕ
waiting_after others depth (Split v) = (others ++ (depth + 1) ∷ []) ++ (depth + 1) ∷ []
waiting_after others depth (Leaf k) = others

abbrev pub is_depth : ℕ → Bool
is_depth depth = nat_le depth 64

-- There are at most 1,000,000 proof lines and 65,536 nodes, and no node is deeper than 64, where
-- the root's depth is 0.
pub record IsSmallRefutation (lines : List ProofLine) (nodes : List Node) : Type 0 where
  pub few_lines : length lines ≤ 1000000
  pub few_nodes : length nodes ≤ 65536
  pub shallow : IsTrue (list_all is_depth (depths (0 ∷ []) nodes))

-- A refutation is within the limits if it is in range and small.
abbrev pub IsRefutation : ClaimedRefutation → Type 0
IsRefutation r = IsInRangeRefutation r × IsSmallRefutation r.lines r.nodes

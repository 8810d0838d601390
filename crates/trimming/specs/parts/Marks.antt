-- How lines are marked as needed, and how those that stay are counted.
use Rattle.std.specs.Prelude.{◌≡◌, ℕ, ◌+◌, ◌-◌, ◌<◌, Bool, true, false, ◌&&◌, ◌||◌, nat_lt, if◌then◌else◌, List, [], ◌∷◌, length, drop, Some, slice_get, slice_set}
use Rattle.refutations.specs.declared.tree.Node.{Node}
use Rattle.refutations.specs.declared.tree.Node.TheVariants.{Split, Leaf}
use Rattle.refutations.specs.Proofs.{ProofLine}
use Rattle.trimming.specs.Needed.{names_leaf, is_hinted, needed}

-- The line of this number is marked, where it stands before a place. Lines are numbered after so
-- many clauses.
abbrev pub mark : ℕ → ℕ → List Bool → ℕ → List Bool
mark clauses below marks number =
    if nat_lt clauses number && nat_lt (number - clauses - 1) below then slice_set marks (number - clauses - 1) true else marks

-- the lines of these numbers are marked, where they stand before a place
abbrev pub mark_all : ℕ → ℕ → List Bool → List ℕ → List Bool
mark_all clauses below marks [] = marks
mark_all clauses below marks (number ∷ numbers) = mark_all clauses below (mark clauses below marks number) numbers

-- the lines that leaves name are marked
abbrev pub mark_leaves : ℕ → ℕ → List Bool → List Node → List Bool
mark_leaves clauses below marks [] = marks
mark_leaves clauses below marks (Split v ∷ nodes) = mark_leaves clauses below marks nodes
mark_leaves clauses below marks (Leaf k ∷ nodes) = mark_leaves clauses below (mark clauses below marks k) nodes

-- From a place on the marks tell which lines are needed. Before it they tell which lines a leaf
-- names, or a hint of a needed line from that place on.
pub record AreMarked (clauses : ℕ) (lines : List ProofLine) (nodes : List Node) (marks : List Bool) (place : ℕ) : Type 0 where
  pub size : length marks ≡ length lines
  pub before : (earlier : ℕ) → earlier < place
      → slice_get marks earlier ≡ Some (names_leaf nodes (clauses + 1 + earlier) || is_hinted (clauses + 1 + earlier) (drop place lines) (needed nodes (clauses + 1 + place) (drop place lines)))
  pub from : drop place marks ≡ needed nodes (clauses + 1 + place) (drop place lines)

-- how many flags are true before each place, and at the end, beside so many before
abbrev pub running : ℕ → List Bool → List ℕ
running count [] = count ∷ []
running count (true ∷ flags) = count ∷ running (count + 1) flags
running count (false ∷ flags) = count ∷ running count flags

-- Which of some lines stay, whose numbers come after so many clauses.
pub record Staying : Type 0 where
  pub clauses : ℕ
  pub flags : List Bool

-- Lines that a refutation needs, and a refutation without the others.
use Rattle.std.specs.Prelude.{◌≡◌, ℕ, zero, suc, ◌+◌, ◌-◌, ◌<◌, Bool, true, false, ◌&&◌, ◌||◌, ◌==◌, nat_lt, nat_le, if◌then◌else◌, IsTrue, List, [], ◌∷◌, map, length, Some, slice_get}
use Rattle.std.specs.List.{list_any, list_all}
use Rattle.clauses.specs.Clauses.{Conjunction}
use Rattle.refutations.specs.declared.tree.Node.{Node}
use Rattle.refutations.specs.declared.tree.Node.TheVariants.{Split, Leaf}
use Rattle.refutations.specs.Proofs.{ProofLine}
use Rattle.refutations.specs.Refutations.{Accepts}

-- a leaf names the clause of this number
abbrev pub names_leaf : List Node → ℕ → Bool
names_leaf [] number = false
names_leaf (Split v ∷ nodes) number = names_leaf nodes number
names_leaf (Leaf k ∷ nodes) number = k == number || names_leaf nodes number

-- one of the lines whose flags are true has the number among its hints
abbrev pub is_hinted : ℕ → List ProofLine → List Bool → Bool
is_hinted number [] flags = false
is_hinted number (line ∷ lines) [] = false
is_hinted number (line ∷ lines) (flag ∷ flags) = (flag && list_any (λ h. h == number) line.hints) || is_hinted number lines flags

-- Which of the lines are needed, where the first has this number: a leaf names it, or a hint of a
-- later line that is needed.
abbrev pub needed : List Node → ℕ → List ProofLine → List Bool
needed nodes number [] = []
needed nodes number (line ∷ lines) =
    (names_leaf nodes number || is_hinted number lines (needed nodes (number + 1) lines)) ∷ needed nodes (number + 1) lines

-- each line is needed, where there are so many clauses
abbrev pub Needed : ℕ → List ProofLine → List Node → Type 0
Needed clauses lines nodes = IsTrue (list_all (λ flag. flag) (needed nodes (clauses + 1) lines))

-- ---- without the lines that are not needed

-- the items whose flags are true
abbrev pub kept : {X : Type 0} → List Bool → List X → List X
kept [] xs = []
kept (flag ∷ flags) [] = []
kept (true ∷ flags) (x ∷ xs) = x ∷ kept flags xs
kept (false ∷ flags) (x ∷ xs) = kept flags xs

-- how many of the first so many flags are true
abbrev pub count_first : ℕ → List Bool → ℕ
count_first zero flags = 0
count_first (suc k) [] = 0
count_first (suc k) (true ∷ flags) = suc (count_first k flags)
count_first (suc k) (false ∷ flags) = count_first k flags

-- the new number of a clause, or of a line that is kept
abbrev pub renumber : ℕ → List Bool → ℕ → ℕ
renumber clauses flags number = if nat_lt clauses number then clauses + count_first (number - clauses - 1) flags + 1 else number

abbrev pub renumbered_line : (ℕ → ℕ) → ProofLine → ProofLine
renumbered_line new line = record { literals = line.literals; hints = map new line.hints }

abbrev pub renumbered_node : (ℕ → ℕ) → Node → Node
renumbered_node new (Split v) = Split v
renumbered_node new (Leaf k) = Leaf (new k)

-- the new number of each clause and kept line of a refutation
abbrev pub new_number : ℕ → List ProofLine → List Node → ℕ → ℕ
new_number clauses lines nodes = renumber clauses (needed nodes (clauses + 1) lines)

abbrev pub trimmed_lines : ℕ → List ProofLine → List Node → List ProofLine
trimmed_lines clauses lines nodes = map (renumbered_line (new_number clauses lines nodes)) (kept (needed nodes (clauses + 1) lines) lines)

abbrev pub trimmed_nodes : ℕ → List ProofLine → List Node → List Node
trimmed_nodes clauses lines nodes = map (renumbered_node (new_number clauses lines nodes)) nodes

-- ---- the first line that is not needed

-- The line of this number is not needed, and each line before it is. Lines are numbered after so
-- many clauses.
pub record IsFirstUnneeded (clauses : ℕ) (lines : List ProofLine) (nodes : List Node) (number : ℕ) : Type 0 where
  pub place : ℕ
  pub numbered : number ≡ clauses + place + 1
  pub unneeded : slice_get (needed nodes (clauses + 1) lines) place ≡ Some false
  pub before : (earlier : ℕ) → earlier < place → slice_get (needed nodes (clauses + 1) lines) earlier ≡ Some true

-- ---- numbers that name nothing

-- one of so many clauses and lines, which are numbered from 1
abbrev pub is_clause_or_line : ℕ → ℕ → Bool
is_clause_or_line count number = nat_le 1 number && nat_le number count

-- each hint names one of so many clauses and lines, or a line of these that stands before its own
abbrev pub name_earlier : ℕ → List ProofLine → Bool
name_earlier count [] = true
name_earlier count (line ∷ lines) = list_all (is_clause_or_line count) line.hints && name_earlier (count + 1) lines

-- the leaf names one of so many clauses and lines
abbrev pub is_named_leaf : ℕ → Node → Bool
is_named_leaf count (Split v) = true
is_named_leaf count (Leaf k) = is_clause_or_line count k

-- Each hint names a clause or an earlier line, and each leaf a clause or a line.
abbrev pub are_named : ℕ → List ProofLine → List Node → Bool
are_named clauses lines nodes = name_earlier clauses lines && list_all (is_named_leaf (clauses + length lines)) nodes

-- ---- laws

-- What is accepted is accepted without the lines that are not needed.
abbrev pub TrimmedAreAccepted : Type 0
TrimmedAreAccepted =
    (f : Conjunction) (lines : List ProofLine) (nodes : List Node) → Accepts f lines nodes
    → Accepts f (trimmed_lines (length f.clauses) lines nodes) (trimmed_nodes (length f.clauses) lines nodes)

-- Without the lines that are not needed each line is needed.
abbrev pub TrimmedAreNeeded : Type 0
TrimmedAreNeeded =
    (clauses : ℕ) (lines : List ProofLine) (nodes : List Node) → Needed clauses (trimmed_lines clauses lines nodes) (trimmed_nodes clauses lines nodes)

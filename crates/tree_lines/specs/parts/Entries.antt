-- Sets of literals with the numbers of their clauses, and what a split makes of two of them.
use Rattle.std.specs.Prelude.{◌≡◌, ℕ, IsTrue, List, ◌∷◌, ◌++◌, Option, Some, None}
use Rattle.clauses.specs.Clauses.{Literal, Conjunction, negation, is_within}
use Rattle.refutations.specs.Proofs.{ProofLine, is_proof_number}
use Rattle.refutations.specs.Derivations.{clauses_before, clause_numbered}
use Rattle.refutations.specs.Refutations.{AreDerived}
use Rattle.refutations.specs.Trees.{is_refuted}
use Rattle.tree_lines.specs.declared.joining.Entry.{Entry}
use Rattle.tree_lines.specs.parts.LiteralSets.{are_sorted, IsTautology}

-- the number of the clause of these literals; only a tautology has none
abbrev pub HasClauseNumber : List (List Literal) → List Literal → Option ℕ → Type 0
HasClauseNumber clauses literals None = IsTautology literals
HasClauseNumber clauses literals (Some number) = (clause_numbered clauses number ≡ Some literals) × IsTrue (is_proof_number number)

-- a set of literals over the formula's variables, with its number among the formula's clauses and
-- the lines
pub record IsEntry (f : Conjunction) (lines : List ProofLine) (entry : Entry) : Type 0 where
  pub sorted : IsTrue (are_sorted entry.literals.items)
  pub within : IsTrue (is_within f.variables entry.literals.items)
  pub numbered : HasClauseNumber (clauses_before f lines) entry.literals.items entry.number

-- the added lines go on, and each derives
pub record GoesOn (f : Conjunction) (lines old new : List ProofLine) : Type 0 where
  pub more : List ProofLine
  pub whole : new ≡ old ++ more
  pub derived : AreDerived f (lines ++ new)

-- the entry of these literals, for which a line may have been added
pub record IsAddedEntry (f : Conjunction) (lines old new : List ProofLine) (literals : List Literal) (entry : Entry) : Type 0 where
  pub added : GoesOn f lines old new
  pub is_entry : IsEntry f (lines ++ new) entry
  pub same : entry.literals.items ≡ literals

-- The entry of a split by a literal: on each path on which the first set is false with the literal
-- taken, and the second with its negation, it is false itself.
pub record IsSplitEntry (f : Conjunction) (lines old new : List ProofLine) (literal : Literal) (first second entry : Entry) : Type 0 where
  pub added : GoesOn f lines old new
  pub is_entry : IsEntry f (lines ++ new) entry
  pub false_there : (path : List Literal) → IsTrue (is_refuted (literal ∷ path) first.literals.items) → IsTrue (is_refuted (negation literal ∷ path) second.literals.items) → IsTrue (is_refuted path entry.literals.items)

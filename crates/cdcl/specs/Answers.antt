-- What a search may answer: a solver's, or one that takes no cube, for which it is [].
use Rattle.std.specs.Prelude.{ℕ, ◌≡◌, ◌≤◌, Bool, true, false, not, ◌&&◌, ◌||◌, nat_eq, length, IsTrue, List, Result, Ok, Err}
use Rattle.std.specs.List.{list_any, list_all}
use Rattle.clauses.specs.Clauses.{Literal, Conjunction, makes_true, is_within, satisfies, value_of}
use Rattle.cdcl.specs.declared.solver.Found.{Found}
use Rattle.cdcl.specs.declared.solver.Found.TheVariants.{Closed, Model, Budget}
use Rattle.cdcl.specs.declared.solver.SolveFault.{SolveFault}
use Rattle.cdcl.specs.declared.solver.SolveFault.TheVariants.{Memory, Spent, Foreign}
use Rattle.cdcl.specs.States.{SearchState}

-- the second is the negation of the first, which is positive
abbrev pub are_opposite_in_order : Literal → Literal → Bool
are_opposite_in_order l m = l.positive && not m.positive && nat_eq l.variable m.variable

-- the cube holds a variable with both signs
abbrev pub has_both : List Literal → Bool
has_both cube = list_any (λ l. list_any (are_opposite_in_order l) cube) cube

-- the cube isn't one over this many variables, or holds a variable with both signs
abbrev pub is_foreign : ℕ → List Literal → Bool
is_foreign variables cube = not (is_within variables cube) || has_both cube

-- nothing was searched yet
pub record Started {L : Type 0} (formula : Conjunction) (search : SearchState L) : Type 0 where
  pub same : search.formula ≡ formula
  pub not_spent : search.spent ≡ false
  pub no_conflicts : search.conflicts ≡ 0

-- what is found is right; with no budget nothing is found and no line is learnt
abbrev pub IsFoundBySearch : {L : Type 0} → SearchState L → List Literal → ℕ → Found → Type 0
IsFoundBySearch new cube budget (Closed batch last) = (1 ≤ budget) × (new.conflicts ≤ budget)
IsFoundBySearch new cube budget (Model values) =
    (1 ≤ budget) × (new.conflicts ≤ budget) × IsTrue (satisfies (value_of values) new.formula.clauses) × IsTrue (list_all (makes_true (value_of values)) cube)
IsFoundBySearch new cube budget (Budget batch) = (new.conflicts ≡ budget) × (budget ≡ 0 → length batch.lines.items ≡ 0)

-- a search that was begun
pub record Begun {L : Type 0} (old new : SearchState L) (cube : List Literal) : Type 0 where
  pub not_spent : old.spent ≡ false
  pub not_foreign : is_foreign old.formula.variables cube ≡ false
  pub same : new.formula ≡ old.formula

-- a search answers so
abbrev pub Searched : {L : Type 0} → SearchState L → SearchState L → List Literal → ℕ → Result Found SolveFault → Type 0
Searched old new cube budget (Ok found) =
    Begun old new cube × (new.spent ≡ false) × IsFoundBySearch new cube budget found × (budget ≡ 0 → new.learnt ≡ old.learnt)
Searched old new cube budget (Err Memory) = Begun old new cube × (new.spent ≡ true) × (1 ≤ budget) × (new.conflicts ≤ budget)
Searched old new cube budget (Err Spent) = (old.spent ≡ true) × (new ≡ old)
Searched old new cube budget (Err Foreign) = (old.spent ≡ false) × (is_foreign old.formula.variables cube ≡ true) × (new ≡ old)

-- an import that was begun
pub record Taken {L : Type 0} (old new : SearchState L) (clause : List Literal) : Type 0 where
  pub not_spent : old.spent ≡ false
  pub not_foreign : is_within old.formula.variables clause ≡ true
  pub same : new.formula ≡ old.formula
  pub same_conflicts : new.conflicts ≡ old.conflicts

-- an import answers so
abbrev pub Imported : {L : Type 0} → SearchState L → SearchState L → List Literal → Result Unit SolveFault → Type 0
Imported old new clause (Ok done) = Taken old new clause × (new.spent ≡ false)
Imported old new clause (Err Memory) = Taken old new clause × (new.spent ≡ true)
Imported old new clause (Err Spent) = (old.spent ≡ true) × (new ≡ old)
Imported old new clause (Err Foreign) = (old.spent ≡ false) × (is_within old.formula.variables clause ≡ false) × (new ≡ old)

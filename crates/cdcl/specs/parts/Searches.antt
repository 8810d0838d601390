-- How a search may end.
use Rattle.std.specs.Prelude.{ℕ, ◌≡◌, List, IsTrue}
use Rattle.std.specs.List.{list_all}
use Rattle.clauses.specs.Clauses.{Literal, Conjunction, makes_true, satisfies, value_of}
use Rattle.cdcl.specs.declared.search.Ending.{Ending}
use Rattle.cdcl.specs.declared.search.Ending.TheVariants.{Closed, Model, Budget, Memory}
use Rattle.cdcl.specs.declared.search.SearchStep.{SearchStep}
use Rattle.cdcl.specs.declared.search.SearchStep.TheVariants.{Going, Spent, Last, Ended}

-- the budget isn't what ended it
abbrev pub IsNotBudget : Ending → Type 0
IsNotBudget (Closed _) = Unit {0}
IsNotBudget (Model _) = Unit {0}
IsNotBudget Budget = ⊥
IsNotBudget Memory = Unit {0}

-- where the step ends the search, the ending is so
abbrev pub IfEnded : (Ending → Type 0) → SearchStep → Type 0
IfEnded P Going = Unit {0}
IfEnded P Spent = Unit {0}
IfEnded P (Last ending) = P ending
IfEnded P (Ended ending) = P ending

-- where the budget ended it, as much as the budget was counted
abbrev pub IsBudgetSpent : ℕ → ℕ → Ending → Type 0
IsBudgetSpent budget conflicts (Closed _) = Unit {0}
IsBudgetSpent budget conflicts (Model _) = Unit {0}
IsBudgetSpent budget conflicts Budget = conflicts ≡ budget
IsBudgetSpent budget conflicts Memory = Unit {0}

-- where it ended by an assignment, this satisfies the formula and the cube
abbrev pub IsRight : Conjunction → List Literal → Ending → Type 0
IsRight formula cube (Closed _) = Unit {0}
IsRight formula cube (Model values) =
    IsTrue (satisfies (value_of values) formula.clauses) × IsTrue (list_all (makes_true (value_of values)) cube)
IsRight formula cube Budget = Unit {0}
IsRight formula cube Memory = Unit {0}

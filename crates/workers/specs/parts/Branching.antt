-- Which variables a path lacks.
use Rattle.std.specs.Prelude.{ℕ, ◌==◌, Bool, not, List, Contains, IsTrue}
use Rattle.std.specs.List.{list_any}
use Rattle.clauses.specs.Clauses.{Literal}

-- a literal of the path has the variable
abbrev pub is_decided : List Literal → ℕ → Bool
is_decided path variable = list_any (λ literal. literal.variable == variable) path

abbrev pub is_free : List Literal → ℕ → Bool
is_free path variable = not (is_decided path variable)

-- one of these variables, which the path lacks
pub record IsOneOf (path : List Literal) (variables : List ℕ) (variable : ℕ) : Type 0 where
  pub given : Contains variables variable
  pub free : IsTrue (is_free path variable)

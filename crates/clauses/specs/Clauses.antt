-- Clauses and formulas in conjunctive normal form, the assignments that satisfy them, and what
-- follows.
use Rattle.std.specs.Prelude.{ℕ, zero, suc, Bool, true, false, not, ◌&&◌, nat_lt, nat_le, IsTrue, List, [], ◌∷◌, slice_get}
use Rattle.std.specs.List.{list_any, list_all}
use Rattle.std.specs.Option.{unwrap_or}

-- a variable, or its negation where it is not positive
pub record Literal : Type 0 where
  pub variable : ℕ
  pub positive : Bool

-- how many variables there are, and the clauses; variables and clauses are numbered from 1
pub record Conjunction : Type 0 where
  pub variables : ℕ
  pub clauses : List (List Literal)

abbrev pub negation : Literal → Literal
negation l = record { variable = l.variable; positive = not l.positive }

-- the variables rise strictly, and each is above this one
abbrev pub rises_above : ℕ → List Literal → Bool
rises_above low [] = true
rises_above low (l ∷ ls) = nat_lt low l.variable && rises_above l.variable ls

-- the variables rise strictly from one literal to the next, and none is 0
abbrev pub rises : List Literal → Bool
rises = rises_above 0

-- no variable of the clause is above this one
abbrev pub is_within : ℕ → List Literal → Bool
is_within most = list_all (λ l. nat_le l.variable most)

-- no variable of the clauses is above this one
abbrev pub are_within : ℕ → List (List Literal) → Bool
are_within most = list_all (is_within most)

-- an assignment gives each variable a truth value
abbrev pub TruthAssignment : Type 0
TruthAssignment = ℕ → Bool

-- a truth value, or its opposite where the sign is not positive
abbrev pub signed : Bool → Bool → Bool
signed true value = value
signed false value = not value

-- the literal is true under the assignment
abbrev pub makes_true : TruthAssignment → Literal → Bool
makes_true a l = signed l.positive (a l.variable)

-- some literal of the clause is true
abbrev pub satisfies_clause : TruthAssignment → List Literal → Bool
satisfies_clause a = list_any (makes_true a)

-- each clause has a literal that is true
abbrev pub satisfies : TruthAssignment → List (List Literal) → Bool
satisfies a = list_all (satisfies_clause a)

-- the assignment of a list: the value of variable v is the one at place v - 1; past the list it is
-- false
abbrev pub value_of : List Bool → TruthAssignment
value_of values zero = false
value_of values (suc place) = unwrap_or (slice_get values place) false

-- every assignment that satisfies the clauses satisfies this clause
abbrev pub Follows : List (List Literal) → List Literal → Type 0
Follows clauses c = (a : TruthAssignment) → IsTrue (satisfies a clauses) → IsTrue (satisfies_clause a c)

-- no assignment satisfies the clauses
abbrev pub IsUnsatisfiable : List (List Literal) → Type 0
IsUnsatisfiable clauses = (a : TruthAssignment) → IsTrue (satisfies a clauses) → ⊥

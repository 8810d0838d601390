-- What shows that the definitions of clauses mean what they say.
use Rattle.std.specs.Prelude.{ℕ, ◌≡◌, ◌<◌, ◌↔◌, ◌++◌, IsTrue, List, [], ◌∷◌, Some, slice_get}
use Rattle.clauses.specs.Clauses.{Literal, TruthAssignment, negation, makes_true, rises, satisfies_clause, Follows, IsUnsatisfiable}

-- under each assignment either a literal or its negation is true, and never both
abbrev pub NegationHoldsWhereLiteralDoesNot : Type 0
NegationHoldsWhereLiteralDoesNot =
    (a : TruthAssignment) (l : Literal) → IsTrue (makes_true a (negation l)) ↔ (IsTrue (makes_true a l) → ⊥)

-- of two literals of a clause, the later one has the larger variable
abbrev pub LaterVariableIsLarger : Type 0
LaterVariableIsLarger =
    (c : List Literal) (i j : ℕ) (l m : Literal) → IsTrue (rises c) → i < j → slice_get c i ≡ Some l → slice_get c j ≡ Some m → l.variable < m.variable

-- no assignment satisfies the empty clause
abbrev pub EmptyClauseIsNeverSatisfied : Type 0
EmptyClauseIsNeverSatisfied = (a : TruthAssignment) → IsTrue (satisfies_clause a []) → ⊥

-- a clause that stands among the clauses follows from them
abbrev pub EachClauseFollows : Type 0
EachClauseFollows =
    (clauses : List (List Literal)) (place : ℕ) (c : List Literal) → slice_get clauses place ≡ Some c → Follows clauses c

-- what follows with the help of a clause that follows, follows without it
abbrev pub FollowingAddsNothing : Type 0
FollowingAddsNothing =
    (clauses : List (List Literal)) (c d : List Literal) → Follows clauses c → Follows (clauses ++ c ∷ []) d → Follows clauses d

-- where the empty clause follows, no assignment satisfies the clauses
abbrev pub EmptyClauseRefutes : Type 0
EmptyClauseRefutes = (clauses : List (List Literal)) → Follows clauses [] → IsUnsatisfiable clauses

-- Why the laws of clauses hold.
use Rattle.std.proofs.Common.{◌≡◌, ℕ, zero, suc, ◌<◌, Bool, true, false, List, [], ◌∷◌, Some, arith, refl, subst}
use Rattle.std.specs.Prelude.{IsTrue, slice_get, nat_lt, ◌&&◌}
use Rattle.std.proofs.lemmas.Bool.{ltb-true}
use Rattle.clauses.specs.Clauses.{Literal, satisfies, satisfies_clause, rises_above}
use Rattle.clauses.specs.Laws.{EachClauseFollows, EmptyClauseRefutes, LaterVariableIsLarger}

and_left : (p q : Bool) → IsTrue (p && q) → IsTrue p
and_left true q h = refl
and_left false q h = cc

and_right : (p q : Bool) → IsTrue (p && q) → IsTrue q
and_right true q h = h
and_right false q h = cc

pub each_clause_follows : EachClauseFollows
each_clause_follows [] place c e a h = cc
each_clause_follows (d ∷ ds) zero c e a h =
    let same : d ≡ c = cc in subst (λ (x : List Literal). IsTrue (satisfies_clause a x)) same (and_left (satisfies_clause a d) (satisfies a ds) h)
each_clause_follows (d ∷ ds) (suc place) c e a h =
    each_clause_follows ds place c e a (and_right (satisfies_clause a d) (satisfies a ds) h)

pub empty_clause_refutes : EmptyClauseRefutes
empty_clause_refutes clauses follows a h = let never : IsTrue (satisfies_clause a []) = follows a h in cc

-- each variable of literals that rise above a number is above it
is_above : (low : ℕ) (c : List Literal) (place : ℕ) (m : Literal) → IsTrue (rises_above low c) → slice_get c place ≡ Some m → low < m.variable
is_above low [] place m h e = absurd cc
is_above low (x ∷ xs) zero m h e =
    let first : low < x.variable = ltb-true low x.variable (and_left (nat_lt low x.variable) (rises_above x.variable xs) h)
    in let same : x ≡ m = cc
    in subst (λ (l : Literal). low < l.variable) same first
is_above low (x ∷ xs) (suc place) m h e =
    let first : low < x.variable = ltb-true low x.variable (and_left (nat_lt low x.variable) (rises_above x.variable xs) h)
    in let further : x.variable < m.variable = is_above x.variable xs place m (and_right (nat_lt low x.variable) (rises_above x.variable xs) h) e
    in omega arith

later_above : (low : ℕ) (c : List Literal) (i j : ℕ) (l m : Literal) → IsTrue (rises_above low c) → i < j → slice_get c i ≡ Some l → slice_get c j ≡ Some m → l.variable < m.variable
later_above low [] i j l m h later e f = absurd cc
later_above low (x ∷ xs) i zero l m h later e f = absurd (omega arith)
later_above low (x ∷ xs) zero (suc j) l m h later e f =
    let further : x.variable < m.variable = is_above x.variable xs j m (and_right (nat_lt low x.variable) (rises_above x.variable xs) h) f
    in let same : x ≡ l = cc
    in subst (λ (y : Literal). y.variable < m.variable) same further
later_above low (x ∷ xs) (suc i) (suc j) l m h later e f =
    later_above x.variable xs i j l m (and_right (nat_lt low x.variable) (rises_above x.variable xs) h) (omega arith) e f

pub later_variable_is_larger : LaterVariableIsLarger
later_variable_is_larger c i j l m = later_above 0 c i j l m

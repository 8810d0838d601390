-- The formula of a program: variables are numbered, and clauses put in their normal form.
use Rattle.std.specs.Prelude.{ℕ, ◌+◌, Bool, true, false, not, ◌&&◌, ◌||◌, ◌==◌, nat_lt, if◌then◌else◌, List, [], ◌∷◌, ◌++◌, map, length, Option, Some, None}
use Rattle.std.specs.List.{filter_map, flat_map, fold, position_or_len}
use Rattle.callorder.specs.Programs.{MpiProgram}
use Rattle.candidates.specs.Pairs.{places, matching_pairs, seeing_pairs}
use Rattle.clauses.specs.Clauses.{Literal, Conjunction}
use Rattle.formula.specs.Facts.{Fact, issued, buffered, matched, unfinished, Meaning, fact, clock_bit, before, same_bits, Statement, is_true, is_false, is_earlier}
use Rattle.formula.specs.Families.{SymbolicClause, said, first_families, last_families, place_of_event, standard_sends, last_calls, rank_of}
use Rattle.formula.specs.Orders.{SignedMeaning, order_meanings, order_clauses}

-- ---- variables

-- the facts that the formula speaks of
abbrev pub facts : MpiProgram → List Fact
facts p =
    map issued (places p) ++
    map buffered (standard_sends p) ++
    map (λ pair. matched pair.0 pair.1) (matching_pairs p) ++
    map (λ c. unfinished (rank_of p c)) (last_calls p) ++
    map (λ pair. matched pair.0 pair.1) (seeing_pairs p)

-- what the variables stand for, in the order of their numbers
abbrev pub meanings : MpiProgram → List Meaning
meanings p = map fact (facts p) ++ order_meanings p

-- two facts are one
abbrev pub is_same_fact : Fact → Fact → Bool
is_same_fact (issued c) (issued d) = c == d
is_same_fact (buffered c) (buffered d) = c == d
is_same_fact (matched s t) (matched u v) = s == u && t == v
is_same_fact (unfinished r) (unfinished q) = r == q
is_same_fact _ _ = false

-- two variables stand for one thing
abbrev pub is_same_meaning : Meaning → Meaning → Bool
is_same_meaning (fact a) (fact b) = is_same_fact a b
is_same_meaning (clock_bit e i) (clock_bit f j) = e == f && i == j
is_same_meaning (before e f) (before g h) = e == g && f == h
is_same_meaning (same_bits e f i) (same_bits g h j) = e == g && f == h && i == j
is_same_meaning _ _ = false

-- the number of a variable: its place in the list, plus 1
abbrev pub variable_of : MpiProgram → Meaning → ℕ
variable_of p m = position_or_len (is_same_meaning m) (meanings p) + 1

-- ---- literals

-- a literal by its parts
abbrev pub literal : ℕ → Bool → Literal
literal variable positive = record { variable = variable; positive = positive }

-- the literal that says of two events that the first is earlier; of one event it is false, and so
-- there is none
abbrev pub earlier_literal : MpiProgram → ℕ → ℕ → Option Literal
earlier_literal p e f =
    if nat_lt e f then Some (literal (variable_of p (before e f)) true) else
    if nat_lt f e then Some (literal (variable_of p (before f e)) false) else None

-- the literal of a statement; there is none where the statement is false by definition
abbrev pub literal_of : MpiProgram → Statement → Option Literal
literal_of p (is_true a) = Some (literal (variable_of p (fact a)) true)
literal_of p (is_false a) = Some (literal (variable_of p (fact a)) false)
literal_of p (is_earlier e f) = earlier_literal p (place_of_event p e) (place_of_event p f)

-- ---- clauses

-- the smaller variable comes first, and of one variable the positive literal
abbrev pub comes_first : Literal → Literal → Bool
comes_first a b = nat_lt a.variable b.variable || (a.variable == b.variable && a.positive && not b.positive)

-- puts a literal in its place, unless it stands there
abbrev pub insert_literal : Literal → List Literal → List Literal
insert_literal a [] = a ∷ []
insert_literal a (b ∷ clause) = if comes_first b a then b ∷ insert_literal a clause else if comes_first a b then a ∷ b ∷ clause else b ∷ clause

-- the literals in order, each once
abbrev pub sorted : List Literal → List Literal
sorted literals = fold (λ clause a. insert_literal a clause) [] literals

-- two neighbours have one variable
abbrev pub has_both_signs : List Literal → Bool
has_both_signs [] = false
has_both_signs (a ∷ []) = false
has_both_signs (a ∷ (b ∷ clause)) = a.variable == b.variable || has_both_signs (b ∷ clause)

-- the clause, unless it holds a variable with both signs
abbrev pub unless_true : List Literal → List (List Literal)
unless_true clause = if has_both_signs clause then [] else clause ∷ []

-- the normal form of a clause: its literals sorted by variable, each once; none where the clause is
-- always true
abbrev pub in_normal_form : List Literal → List (List Literal)
in_normal_form literals = unless_true (sorted literals)

-- The normal form of a clause: its literals sorted by variable, each once, without those that are
-- false by definition. There is none of a clause that holds a variable with both signs, which is
-- always true.
abbrev pub normal_form : MpiProgram → SymbolicClause → List (List Literal)
normal_form p clause = in_normal_form (filter_map (literal_of p) clause)

-- the normal forms of clauses; equal ones stay
abbrev pub numbered : MpiProgram → List SymbolicClause → List (List Literal)
numbered p clauses = flat_map (normal_form p) clauses

-- the literal of a meaning with a sign
abbrev pub literal_of_signed : MpiProgram → SignedMeaning → Literal
literal_of_signed p x = literal (variable_of p x.meaning) x.positive

-- the clauses on the order of events
abbrev pub numbered_order : MpiProgram → List (List Literal)
numbered_order p = flat_map (λ clause. in_normal_form (map (literal_of_signed p) clause)) (order_clauses p)

-- The formula of a program: how many variables there are, and the numbered clauses of all families.
-- The clauses on the order of events stand before those of the policy.
abbrev pub formula_of : MpiProgram → Conjunction
formula_of p =
    record {
      variables = length (meanings p);
      clauses =
          flat_map (numbered p) (map (said p) first_families) ++ numbered_order p ++ flat_map (numbered p) (map (said p) last_families);
    }

-- The formula of a program's runs that finish: that of its stuck runs, without the clause that some
-- rank is unfinished, and with clauses that say that all ranks finish.
use Rattle.std.specs.Prelude.{◌-◌, Bool, true, false, not, ◌&&◌, List, [], ◌∷◌, ◌++◌, map, filter, Option, Some, None, slice_get}
use Rattle.std.specs.List.{flat_map, list_all}
use Rattle.callorder.specs.Programs.{MpiProgram}
use Rattle.candidates.specs.Pairs.{places, takers_of}
use Rattle.clauses.specs.Clauses.{Literal, Conjunction}
use Rattle.formula.specs.declared.facts.Fact.{Fact}
use Rattle.formula.specs.declared.facts.Fact.TheVariants.{Issued as issued, Buffered as buffered, Matched as matched, Unfinished as unfinished}
use Rattle.formula.specs.declared.facts.Meaning.{Meaning}
use Rattle.formula.specs.declared.facts.Meaning.TheVariants.{OfFact as fact, ClockBit as clock_bit, Before as before, SameBits as same_bits}
use Rattle.formula.specs.declared.facts.Statement.TheVariants.{Holds as is_true}
use Rattle.formula.specs.declared.facts.Condition.{Condition}
use Rattle.formula.specs.declared.facts.Condition.TheVariants.{AtOnce as at_once, IfMatched as if_matched, IfFetched as if_fetched, IfBufferedOrFetched as if_buffered_or_fetched}
use Rattle.formula.specs.Families.{SymbolicClause, sends_of, last_calls, when_returned}
use Rattle.formula.specs.Numbering.{meanings, numbered, formula_of}

-- ---- all ranks finish

-- Some pair is matched that the condition waits for, or the send is buffered. That a message which
-- a matched probe found is received too follows where all calls are issued.
abbrev pub is_met : MpiProgram → Condition → List SymbolicClause
is_met p at_once = []
is_met p (if_matched taker) = map (λ send. is_true (matched send taker)) (sends_of p taker) ∷ []
is_met p (if_fetched send) = map (λ taker. is_true (matched send taker)) (takers_of p send) ∷ []
is_met p (if_buffered_or_fetched send) =
    (map (λ taker. is_true (matched send taker)) (takers_of p send) ++ (is_true (buffered send) ∷ [])) ∷ []

-- All calls are issued.
abbrev pub all_calls_are_issued : MpiProgram → List SymbolicClause
all_calls_are_issued p = map (λ c. is_true (issued c) ∷ []) (places p)

-- The last call of each rank has returned. That the others have follows where all are issued.
abbrev pub last_calls_have_returned : MpiProgram → List SymbolicClause
last_calls_have_returned p = flat_map (λ c. is_met p (when_returned p c)) (last_calls p)

-- All ranks finish.
abbrev pub all_ranks_finish : MpiProgram → List SymbolicClause
all_ranks_finish p = all_calls_are_issued p ++ last_calls_have_returned p

-- ---- the formula

-- the fact is that a rank is unfinished
abbrev pub is_unfinished_fact : Fact → Bool
is_unfinished_fact (issued c) = false
is_unfinished_fact (buffered c) = false
is_unfinished_fact (matched s t) = false
is_unfinished_fact (unfinished r) = true

-- the variable stands for the fact that a rank is unfinished
abbrev pub is_unfinished_meaning : Option Meaning → Bool
is_unfinished_meaning None = false
is_unfinished_meaning (Some (fact a)) = is_unfinished_fact a
is_unfinished_meaning (Some (clock_bit e i)) = false
is_unfinished_meaning (Some (before e f)) = false
is_unfinished_meaning (Some (same_bits e f i)) = false

-- the literal says that a rank is unfinished
abbrev pub says_unfinished : MpiProgram → Literal → Bool
says_unfinished p l = l.positive && is_unfinished_meaning (slice_get (meanings p) (l.variable - 1))

-- The clause says something else than that one of some ranks is unfinished. An empty one doesn't:
-- it says so of none.
abbrev pub says_more : MpiProgram → List Literal → Bool
says_more p clause = not (list_all (says_unfinished p) clause)

-- The formula of the runs that finish: its variables stand for what those of the formula of stuck
-- runs stand for.
abbrev pub finishing_formula_of : MpiProgram → Conjunction
finishing_formula_of p =
    record {
      variables = (formula_of p).variables;
      clauses = filter (says_more p) (formula_of p).clauses ++ numbered p (all_ranks_finish p);
    }

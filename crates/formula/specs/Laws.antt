-- What shows that the definitions of the formula mean what they say.
use Rattle.std.specs.Prelude.{◌≡◌, ◌≢◌, ℕ, ◌+◌, ◌*◌, ◌<◌, ◌≤◌, ◌^◌, Bool, false, not, nat_lt, IsTrue, List, map, length, Option, Some, None, All, ⊤}
use Rattle.std.specs.List.{list_any, list_all}
use Rattle.callorder.specs.ProgramRules.{IsProgram}
use Rattle.callorder.specs.Programs.{MpiProgram}
use Rattle.clauses.specs.Clauses.{Literal, TruthAssignment, value_of, makes_true, are_within, rises, satisfies}
use Rattle.formula.specs.Facts.{Fact, Meaning, fact, clock_bit, before, same_bits, Statement, is_true, is_false, is_earlier}
use Rattle.formula.specs.Families.{SymbolicClause, events, event_at, place_of_event, families}
use Rattle.formula.specs.Orders.{clock_size, first_bits, used_pairs, place_of_pair, order_meanings, order_clauses, is_so_by, rank_in_time}
use Rattle.formula.specs.Numbering.{facts, meanings, variable_of, literal_of, numbered, literal_of_signed, numbered_order, formula_of}

-- where there is no literal, it is false
abbrev pub holds_if_any : TruthAssignment → Option Literal → Bool
holds_if_any a None = false
holds_if_any a (Some l) = makes_true a l

-- the assignment makes the literal of a statement true exactly where the statement is right
abbrev pub Agrees : MpiProgram → TruthAssignment → (Statement → Bool) → Statement → Type 0
Agrees p a is_right x = holds_if_any a (literal_of p x) ≡ is_right x

-- An assignment that agrees with what is right satisfies the numbered clauses exactly where each
-- clause has a statement that is right.
abbrev pub NumberedClausesMeanSymbolic : Type 0
NumberedClausesMeanSymbolic =
    (p : MpiProgram) (a : TruthAssignment) (is_right : Statement → Bool) (clauses : List SymbolicClause)
    → All (All (Agrees p a is_right)) clauses → satisfies a (numbered p clauses) ≡ list_all (list_any is_right) clauses

-- In each clause of a formula the variables rise strictly, and none is 0.
abbrev pub ClausesRise : Type 0
ClausesRise = (p : MpiProgram) → IsTrue (list_all rises (formula_of p).clauses)

-- The clauses of a program's formula name variables of the formula alone.
abbrev pub ClausesAreWithin : Type 0
ClausesAreWithin = (p : MpiProgram) → IsProgram p → IsTrue (are_within (formula_of p).variables (formula_of p).clauses)

-- ---- the order of events

-- There are as many clocks as events.
abbrev pub ClocksSuffice : Type 0
ClocksSuffice = (p : MpiProgram) → length (events p) ≤ 2 ^ clock_size p

-- Whatever times so many events have, their places in the order of times are clocks: less than
-- there are events, and smaller where the time is.
abbrev pub RanksAreClocks : Type 0
RanksAreClocks =
    (most : ℕ) (time : ℕ → ℕ) (e : ℕ) → e < most
    → (rank_in_time most time e < most) × ((f : ℕ) → nat_lt (rank_in_time most time e) (rank_in_time most time f) ≡ nat_lt (time e) (time f))

-- the clock that an assignment gives an event by its bits
abbrev pub clock_in : MpiProgram → TruthAssignment → ℕ → ℕ
clock_in p a e = first_bits (λ i. a (variable_of p (clock_bit e i))) (clock_size p)

-- the clocks of the two events differ, and their variable tells whether the first is smaller
abbrev pub IsOrderTold : MpiProgram → TruthAssignment → (ℕ → ℕ) → ℕ × ℕ → Type 0
IsOrderTold p a clock pair =
    (clock pair.0 ≢ clock pair.1) × (a (variable_of p (before pair.0 pair.1)) ≡ nat_lt (clock pair.0) (clock pair.1))

-- An assignment that satisfies the clauses on the order gives clocks to the events by their bits.
-- Those of used pairs differ, and the variable of the pair tells which is smaller.
abbrev pub OrderGivesClocks : Type 0
OrderGivesClocks =
    (p : MpiProgram) (a : TruthAssignment) → IsTrue (satisfies a (numbered_order p)) → All (IsOrderTold p a (clock_in p a)) (used_pairs p)

-- the assignment makes true what is so
abbrev pub Means : MpiProgram → TruthAssignment → (Meaning → Bool) → Meaning → Type 0
Means p a is_so m = a (variable_of p m) ≡ is_so m

-- Whatever clocks the events have, of the right size and different on used pairs, the clauses on
-- the order are satisfied by an assignment that gives the variables on the order the meaning that
-- they have by these clocks, and it tells the order of each used pair.
abbrev pub ClocksGiveOrder : Type 0
ClocksGiveOrder =
    (p : MpiProgram) (a : TruthAssignment) (has : Fact → Bool) (clock : ℕ → ℕ) → ((e : ℕ) → e < length (events p) → clock e < 2 ^ clock_size p)
    → All (λ pair. clock pair.0 ≢ clock pair.1) (used_pairs p) → All (Means p a (is_so_by has (clock_size p) clock)) (order_meanings p)
    → IsTrue (satisfies a (numbered_order p)) × All (IsOrderTold p a clock) (used_pairs p)

-- Whatever times the events have, each another one: their places in the order of times are such
-- clocks, and the variables tell the order of the times.
abbrev pub TimesGiveOrder : Type 0
TimesGiveOrder =
    (p : MpiProgram) (a : TruthAssignment) (has : Fact → Bool) (time : ℕ → ℕ)
    → ((e f : ℕ) → e < f → f < length (events p) → time e ≢ time f)
    → All (Means p a (is_so_by has (clock_size p) (rank_in_time (length (events p)) time))) (order_meanings p)
    → IsTrue (satisfies a (numbered_order p)) × All (IsOrderTold p a time) (used_pairs p)

-- the assignment agrees with a statement on the order where it makes its literal true exactly where
-- the first event's clock is smaller
abbrev pub AgreesByClock : MpiProgram → TruthAssignment → (ℕ → ℕ) → Statement → Type 0
AgreesByClock p a clock (is_true x) = ⊤
AgreesByClock p a clock (is_false x) = ⊤
AgreesByClock p a clock (is_earlier e f) =
    holds_if_any a (literal_of p (is_earlier e f)) ≡ nat_lt (clock (place_of_event p e)) (clock (place_of_event p f))

-- Where an assignment tells the order of each used pair, it agrees with each statement on the order
-- in all families.
abbrev pub UsedPairsSuffice : Type 0
UsedPairsSuffice =
    (p : MpiProgram) (a : TruthAssignment) (clock : ℕ → ℕ) → IsProgram p
    → All (IsOrderTold p a clock) (used_pairs p) → All (All (All (AgreesByClock p a clock))) (families p)

-- the assignment agrees with a statement on a fact where it makes its literal true exactly where
-- the statement is right
abbrev pub AgreesByFact : MpiProgram → TruthAssignment → (Fact → Bool) → Statement → Type 0
AgreesByFact p a has (is_true x) = holds_if_any a (literal_of p (is_true x)) ≡ has x
AgreesByFact p a has (is_false x) = holds_if_any a (literal_of p (is_false x)) ≡ not (has x)
AgreesByFact p a has (is_earlier e f) = ⊤

-- Where an assignment tells each fact of the formula, it agrees with each statement on a fact in
-- all families.
abbrev pub FactsSuffice : Type 0
FactsSuffice =
    (p : MpiProgram) (a : TruthAssignment) (has : Fact → Bool) → IsProgram p
    → All (λ x. a (variable_of p (fact x)) ≡ has x) (facts p) → All (All (All (AgreesByFact p a has))) (families p)

-- Each event stands in the list once.
abbrev pub EventsStandOnce : Type 0
EventsStandOnce = (p : MpiProgram) (place : ℕ) → place < length (events p) → place_of_event p (event_at p place) ≡ place

-- the events of a statement on the order are those at their places in the list
abbrev pub EventsAreListed : MpiProgram → Statement → Type 0
EventsAreListed p (is_true x) = ⊤
EventsAreListed p (is_false x) = ⊤
EventsAreListed p (is_earlier e f) = (event_at p (place_of_event p e) ≡ e) × (event_at p (place_of_event p f) ≡ f)

-- The clauses of a program state the order of events of the program alone.
abbrev pub StatedEventsAreListed : Type 0
StatedEventsAreListed = (p : MpiProgram) → IsProgram p → All (All (All (EventsAreListed p))) (families p)

-- For whatever is so, there is an assignment that makes it true: the values of the meanings in
-- their order.
abbrev pub AssignmentsMeanAll : Type 0
AssignmentsMeanAll =
    (p : MpiProgram) (is_so : Meaning → Bool) → All (Means p (value_of (map is_so (meanings p))) is_so) (meanings p)

-- The variables on the order are numbered by arithmetic. Behind the facts stand the bits of the
-- clocks, by event; behind them each used pair has as many variables as a clock has bits.
abbrev pub NumbersOfOrder : Type 0
NumbersOfOrder =
    (p : MpiProgram)
    → ((e i : ℕ) → e < length (events p) → i < clock_size p → variable_of p (clock_bit e i) ≡ length (facts p) + (e * clock_size p + i) + 1)
    × ((e f : ℕ) → place_of_pair p e f < length (used_pairs p)
    → variable_of p (before e f) ≡ length (facts p) + (length (events p) * clock_size p + place_of_pair p e f * clock_size p) + 1)
    × ((e f i : ℕ) → place_of_pair p e f < length (used_pairs p) → 0 < i → i < clock_size p
    → variable_of p (same_bits e f i) ≡ length (facts p) + (length (events p) * clock_size p + (place_of_pair p e f * clock_size p + i)) + 1)

-- The clauses on the order are written in their normal form.
abbrev pub OrderIsInNormalForm : Type 0
OrderIsInNormalForm = (p : MpiProgram) → numbered_order p ≡ map (map (literal_of_signed p)) (order_clauses p)

-- the assignment that facts and times of events give
abbrev pub assignment_by : MpiProgram → (Fact → Bool) → (ℕ → ℕ) → TruthAssignment
assignment_by p has time = value_of (map (is_so_by has (clock_size p) (rank_in_time (length (events p)) time)) (meanings p))

-- Whatever facts there are, and whatever times the events have, each another one: the assignment
-- that they give satisfies the clauses on the order, tells the order of each used pair, and makes
-- the facts true that are.
abbrev pub TimesHaveAssignments : Type 0
TimesHaveAssignments =
    (p : MpiProgram) (has : Fact → Bool) (time : ℕ → ℕ)
    → ((e f : ℕ) → e < f → f < length (events p) → time e ≢ time f)
    → IsTrue (satisfies (assignment_by p has time) (numbered_order p))
    × All (IsOrderTold p (assignment_by p has time) time) (used_pairs p)
    × All (λ a. assignment_by p has time (variable_of p (fact a)) ≡ has a) (facts p)

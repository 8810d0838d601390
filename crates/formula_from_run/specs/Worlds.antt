-- Worlds: which facts hold, and when events happen. What is right in a world, and the world of a
-- run.
use Rattle.std.specs.Prelude.{ℕ, suc, Bool, true, false, not, cond, ◌&&◌, ◌||◌, ◌==◌, nat_lt, IsTrue, List, [], ◌∷◌, Option, Some, None, slice_get}
use Rattle.std.specs.List.{list_any, list_all}
use Rattle.calltext.specs.declared.call.Policy.{Policy}
use Rattle.calltext.specs.declared.call.Policy.TheVariants.{Any, Never, Always}
use Rattle.callorder.specs.ProgramRules.{IsProgram}
use Rattle.callorder.specs.Programs.{MpiProgram}
use Rattle.semantics.specs.declared.state.Step.{Step}
use Rattle.semantics.specs.declared.state.Step.TheVariants.{Issue, Match, See}
use Rattle.semantics.specs.Machine.{Configuration, opening, after, after_all, IsEnabled, IsRun, IsStuckRun, is_issued, is_buffered, partner_of, is_rank_finished}
use Rattle.formula.specs.declared.facts.RunEvent.{RunEvent}
use Rattle.formula.specs.declared.facts.RunEvent.TheVariants.{Issue as issue_of, Match as match_of}
use Rattle.formula.specs.declared.facts.Fact.{Fact}
use Rattle.formula.specs.declared.facts.Fact.TheVariants.{Issued as issued, Buffered as buffered, Matched as matched, Unfinished as unfinished}
use Rattle.formula.specs.declared.facts.Statement.{Statement}
use Rattle.formula.specs.declared.facts.Statement.TheVariants.{Holds as is_true, Fails as is_false, Earlier as is_earlier}
use Rattle.formula.specs.Families.{SymbolicClause, is_standard, place_of_event}

-- which facts hold, and for each event a number, its clock, by which events are ordered
pub record World : Type 0 where
  pub has : Fact → Bool
  pub clock : RunEvent → ℕ

-- ---- what is right in a world

-- the statement is right in the world
abbrev pub is_right : World → Statement → Bool
is_right world (is_true fact) = world.has fact
is_right world (is_false fact) = not (world.has fact)
is_right world (is_earlier e f) = nat_lt (world.clock e) (world.clock f)

-- some statement of the clause is right in the world
abbrev pub clause_holds : World → SymbolicClause → Bool
clause_holds world clause = list_any (is_right world) clause

-- each of the clauses holds in the world
abbrev pub clauses_hold : World → List SymbolicClause → Bool
clauses_hold world clauses = list_all (clause_holds world) clauses

-- ---- the world of a run

-- it is that call
abbrev pub is_that : Option ℕ → ℕ → Bool
is_that None c = false
is_that (Some d) c = d == c

-- the step, where it is taken in this configuration, is the event
abbrev pub is_event : Configuration → Step → RunEvent → Bool
is_event m (Issue rank choice) (issue_of c) = is_that (slice_get m.next rank) c
is_event m (Issue rank choice) (match_of taker) = false
is_event m (Match send other) (issue_of c) = false
is_event m (Match send other) (match_of taker) = other == taker
is_event m (See send other) (issue_of c) = false
is_event m (See send other) (match_of probe) = other == probe

-- How many of the steps, taken from this configuration on, come before the event. One that never
-- happens comes after all steps, by its place in the list of events.
abbrev pub clock_from : MpiProgram → Configuration → List Step → RunEvent → ℕ
clock_from p m [] e = place_of_event p e
clock_from p m (step ∷ steps) e = cond (is_event m step e) 0 (suc (clock_from p (after m step) steps e))

-- the policy buffers every standard send
abbrev pub always_buffers : Policy → Bool
always_buffers Any = false
always_buffers Never = false
always_buffers Always = true

-- Which facts hold in a configuration. Where every standard send is buffered, those that aren't
-- issued count as buffered too.
abbrev pub has_fact : MpiProgram → Configuration → Fact → Bool
has_fact p m (issued c) = is_issued p m c
has_fact p m (buffered send) = is_buffered m send || always_buffers p.policy && is_standard p send
has_fact p m (matched send finder) = is_that (partner_of m finder) send
has_fact p m (unfinished rank) = not (is_rank_finished p m rank)

-- the world of a run: the facts of its end, and the places of the events in it
abbrev pub world_of : MpiProgram → List Step → World
world_of p steps = record { has = has_fact p (after_all (opening p) steps); clock = clock_from p (opening p) steps }

-- ---- runs in whose worlds a family holds

-- no step is enabled
abbrev pub HasNoEnabledStep : MpiProgram → Configuration → Type 0
HasNoEnabledStep p m = (step : Step) → IsEnabled p m step → ⊥

-- The clauses that each program has of a family hold in the world of each run of the program.
abbrev pub HoldsInRuns : (MpiProgram → List SymbolicClause) → Type 0
HoldsInRuns family =
    (p : MpiProgram) (steps : List Step) → IsProgram p → IsRun p (opening p) steps → IsTrue (clauses_hold (world_of p steps) (family p))

-- They hold in the world of each run that nothing can follow.
abbrev pub HoldsAtEnds : (MpiProgram → List SymbolicClause) → Type 0
HoldsAtEnds family =
    (p : MpiProgram) (steps : List Step) → IsProgram p → IsRun p (opening p) steps
    → HasNoEnabledStep p (after_all (opening p) steps) → IsTrue (clauses_hold (world_of p steps) (family p))

-- They hold in the world of each stuck run.
abbrev pub HoldsWhereStuck : (MpiProgram → List SymbolicClause) → Type 0
HoldsWhereStuck family =
    (p : MpiProgram) (steps : List Step) → IsProgram p → IsStuckRun p steps → IsTrue (clauses_hold (world_of p steps) (family p))

-- Every world in which the clauses of a program hold is that of a stuck run, so the formula of a
-- program can be satisfied exactly where the program has a stuck run.
use Rattle.std.specs.Prelude.{◌≡◌, ◌↔◌, ◌≤◌, ◌==◌, ℕ, IsTrue, List, filter}
use Rattle.std.specs.List.{AllPairs, list_all}
use Rattle.callorder.specs.ProgramRules.{IsProgram}
use Rattle.callorder.specs.Programs.{MpiProgram}
use Rattle.semantics.specs.declared.state.Step.{Step}
use Rattle.semantics.specs.Machine.{IsStuckRun}
use Rattle.clauses.specs.Clauses.{TruthAssignment, satisfies}
use Rattle.formula.specs.declared.facts.RunEvent.{RunEvent}
use Rattle.formula.specs.Families.{events, families}
use Rattle.formula.specs.Numbering.{formula_of}
use Rattle.formula_from_run.specs.Worlds.{World, clauses_hold}
use Rattle.run_from_formula.specs.Schedules.{happens, sorted_by, schedule_of, world_in}

-- The events of a world's schedule have rising clocks, and those of one clock, whichever it is, are
-- the events of that clock that happen, in the order of their list. There is only one such list, so
-- nothing of how it is made matters.
abbrev pub SchedulesAreByClock : Type 0
SchedulesAreByClock =
    (p : MpiProgram) (world : World)
    → AllPairs (λ (e f : RunEvent). world.clock e ≤ world.clock f) (sorted_by world.clock (filter (happens p world) (events p)))
    × ((k : ℕ) → filter (λ (e : RunEvent). world.clock e == k) (sorted_by world.clock (filter (happens p world) (events p)))
    ≡ filter (λ (e : RunEvent). world.clock e == k) (filter (happens p world) (events p)))

-- The schedule of a world in which the clauses of all families of a program hold is a stuck run of
-- the program.
abbrev pub WorldsAreStuckRuns : Type 0
WorldsAreStuckRuns =
    (p : MpiProgram) (world : World) → IsProgram p → IsTrue (list_all (clauses_hold world) (families p)) → IsStuckRun p (schedule_of p world)

-- Every assignment that satisfies the formula of a program gives a stuck run of the program.
abbrev pub SatisfyingGiveStuckRuns : Type 0
SatisfyingGiveStuckRuns =
    (p : MpiProgram) (a : TruthAssignment) → IsProgram p → IsTrue (satisfies a (formula_of p).clauses) → IsStuckRun p (schedule_of p (world_in p a))

-- some assignment satisfies the formula of the program
pub record HasModel (p : MpiProgram) : Type 0 where
  pub assignment : TruthAssignment
  pub satisfied : IsTrue (satisfies assignment (formula_of p).clauses)

-- the program has a stuck run
pub record HasStuckRun (p : MpiProgram) : Type 0 where
  pub steps : List Step
  pub stuck : IsStuckRun p steps

-- The formula of a program can be satisfied exactly where the program has a stuck run.
abbrev pub SatisfiableWhereStuck : Type 0
SatisfiableWhereStuck = (p : MpiProgram) → IsProgram p → HasModel p ↔ HasStuckRun p

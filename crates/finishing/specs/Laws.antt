-- What the formula of the runs that finish tells of a program.
use Rattle.std.specs.Prelude.{◌↔◌, IsTrue, List}
use Rattle.callorder.specs.ProgramRules.{IsProgram}
use Rattle.callorder.specs.Programs.{MpiProgram}
use Rattle.semantics.specs.declared.state.Step.{Step}
use Rattle.semantics.specs.RunEnds.{IsFinishedRun}
use Rattle.clauses.specs.Clauses.{TruthAssignment, satisfies, IsUnsatisfiable}
use Rattle.always.specs.Always.{IsEndedRun}
use Rattle.formula_from_run.specs.Laws.{assignment_of}
use Rattle.run_from_formula.specs.Schedules.{schedule_of, world_in}
use Rattle.frequency.specs.Frequencies.{EachRunSticks}
use Rattle.finishing.specs.Formula.{finishing_formula_of}

-- A run that finishes, and that nothing can follow, gives an assignment that satisfies the formula.
abbrev pub FinishedRunsSatisfyFormula : Type 0
FinishedRunsSatisfyFormula =
    (p : MpiProgram) (steps : List Step)
    → IsProgram p → IsFinishedRun p steps → IsEndedRun p steps → IsTrue (satisfies (assignment_of p steps) (finishing_formula_of p).clauses)

-- Every assignment that satisfies the formula gives a run that finishes.
abbrev pub SatisfyingGiveFinishedRuns : Type 0
SatisfyingGiveFinishedRuns =
    (p : MpiProgram) (a : TruthAssignment)
    → IsProgram p → IsTrue (satisfies a (finishing_formula_of p).clauses) → IsFinishedRun p (schedule_of p (world_in p a))

-- some assignment satisfies the formula of the program
pub record HasFinishingModel (p : MpiProgram) : Type 0 where
  pub assignment : TruthAssignment
  pub satisfied : IsTrue (satisfies assignment (finishing_formula_of p).clauses)

-- the program has a run that finishes
pub record HasFinishedRun (p : MpiProgram) : Type 0 where
  pub steps : List Step
  pub finished : IsFinishedRun p steps

-- The formula can be satisfied exactly where the program has a run that finishes.
abbrev pub SatisfiableWhereFinished : Type 0
SatisfiableWhereFinished = (p : MpiProgram) → IsProgram p → HasFinishingModel p ↔ HasFinishedRun p

-- Where nothing satisfies the formula, no run finishes, and each gets stuck however it goes on.
abbrev pub UnsatisfiableGetStuck : Type 0
UnsatisfiableGetStuck = (p : MpiProgram) → IsProgram p → IsUnsatisfiable (finishing_formula_of p).clauses → EachRunSticks p

-- In the world of a stuck run the clauses of each family hold, so a stuck run gives an assignment
-- that satisfies the formula of its program. Most families hold in the worlds of more runs: of all,
-- or of all that nothing can follow.
use Rattle.formula.specs.Families as families
use Rattle.std.specs.Prelude.{ℕ, ◌<◌, ◌≢◌, IsTrue, List, length}
use Rattle.callorder.specs.ProgramRules.{IsProgram}
use Rattle.callorder.specs.Programs.{MpiProgram}
use Rattle.semantics.specs.declared.state.Step.{Step}
use Rattle.semantics.specs.Machine.{IsStuckRun}
use Rattle.clauses.specs.Clauses.{TruthAssignment, satisfies, IsUnsatisfiable}
use Rattle.formula.specs.Numbering.{formula_of}
use Rattle.formula.specs.Laws.{assignment_by}
use Rattle.formula_from_run.specs.Worlds.{HoldsInRuns, HoldsAtEnds, HoldsWhereStuck, world_of}

-- In the world of a run calls are issued in order.
abbrev pub CallsAreIssuedInOrder : Type 0
CallsAreIssuedInOrder = HoldsInRuns families.calls_are_issued_in_order

-- In the world of a run calls are issued after returns.
abbrev pub CallsAreIssuedAfterReturns : Type 0
CallsAreIssuedAfterReturns = HoldsInRuns families.calls_are_issued_after_returns

-- In the world of a run matches come after issues.
abbrev pub MatchesComeAfterIssues : Type 0
MatchesComeAfterIssues = HoldsInRuns families.matches_come_after_issues

-- In the world of a run calls are matched once.
abbrev pub CallsAreMatchedOnce : Type 0
CallsAreMatchedOnce = HoldsInRuns families.calls_are_matched_once

-- In the world of a run sends don't overtake.
abbrev pub NoSendOvertakes : Type 0
NoSendOvertakes = HoldsInRuns families.sends_do_not_overtake

-- In the world of a run takers don't overtake.
abbrev pub NoTakerOvertakes : Type 0
NoTakerOvertakes = HoldsInRuns families.takers_do_not_overtake

-- In the world of a run that nothing can follow no pair waits.
abbrev pub NoPairWaits : Type 0
NoPairWaits = HoldsAtEnds families.no_pair_waits

-- In the world of a run that nothing can follow probes see messages.
abbrev pub ProbesSeeMessages : Type 0
ProbesSeeMessages = HoldsAtEnds families.probes_see_messages

-- In the world of a run that nothing can follow no issue waits.
abbrev pub NoIssueWaits : Type 0
NoIssueWaits = HoldsAtEnds families.no_issue_waits

-- In the world of a stuck run some rank is unfinished.
abbrev pub SomeRankIsUnfinished : Type 0
SomeRankIsUnfinished = HoldsWhereStuck families.some_rank_is_unfinished

-- In the world of a run the clocks of different events differ.
abbrev pub ClocksDiffer : Type 0
ClocksDiffer =
    (p : MpiProgram) (steps : List Step) (i j : ℕ)
    → i < j → j < length (families.events p) → (world_of p steps).clock (families.event_at p i) ≢ (world_of p steps).clock (families.event_at p j)

-- In the world of a run standard sends are buffered as the policy says.
abbrev pub SendsAreBufferedAsAllowed : Type 0
SendsAreBufferedAsAllowed = HoldsInRuns families.sends_are_buffered_as_allowed

-- the values of the formula's variables that a run gives: its facts at the end, and the order of
-- its events
abbrev pub assignment_of : MpiProgram → List Step → TruthAssignment
assignment_of p steps = assignment_by p (world_of p steps).has (λ place. (world_of p steps).clock (families.event_at p place))

-- A stuck run gives an assignment that satisfies the formula of its program.
abbrev pub StuckRunsSatisfyFormula : Type 0
StuckRunsSatisfyFormula =
    (p : MpiProgram) (steps : List Step) → IsProgram p → IsStuckRun p steps → IsTrue (satisfies (assignment_of p steps) (formula_of p).clauses)

-- A program whose formula no assignment satisfies has no stuck run.
abbrev pub UnsatisfiableHaveNoStuckRun : Type 0
UnsatisfiableHaveNoStuckRun =
    (p : MpiProgram) → IsProgram p → IsUnsatisfiable (formula_of p).clauses → (steps : List Step) → IsStuckRun p steps → ⊥

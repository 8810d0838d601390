-- Laws of cuts, and of programs of many phases.
use Rattle.std.specs.Prelude.{◌≡◌, ℕ, IsTrue, List, [], ◌∷◌}
use Rattle.calltext.specs.declared.limits.Limits.{Limits}
use Rattle.callorder.specs.ProgramRules.{IsProgramWithin}
use Rattle.callorder.specs.Programs.{MpiProgram}
use Rattle.semantics.specs.declared.state.Step.{Step}
use Rattle.semantics.specs.Headline.{NoStuckRun}
use Rattle.semantics.specs.Machine.{IsRun, opening, after_all, is_issued, is_matched}
use Rattle.races.specs.Races.{NamesSources}
use Rattle.phases.specs.CallPlaces.{IsWellFormed}
use Rattle.phases.specs.Cuts.{Cut, IsCutInTwo, IsClean}
use Rattle.phases.specs.Joining.{join, join_all, IsJoinOf, cut_between}
use Rattle.phases.specs.Conditions.{ComesAfter, IsBalanced, IsTimely, LeavesNothing}
use Rattle.phases.specs.Order.{AreCounterparts, IsAfter, IsOrderedCut}
use Rattle.phases.specs.Rests.{IsFront, behind}

-- each program within any limits is well formed
abbrev pub ProgramsAreWellFormed : Type 0
ProgramsAreWellFormed = (l : Limits) (p : MpiProgram) → IsProgramWithin l p → IsWellFormed p

-- ---- cuts

-- Where a cut is clean and neither part has a stuck run, the whole has none. Nothing is asked of
-- messages that the first part leaves: a clean cut has none that the second could receive.
abbrev pub WholeIsNeverStuck : Type 0
WholeIsNeverStuck =
    (p : MpiProgram) (x : Cut) → IsWellFormed x.first → IsWellFormed x.second → IsCutInTwo p x → IsClean p x
    → NoStuckRun x.first → NoStuckRun x.second → NoStuckRun p

-- Where the first part is balanced and has no stuck run, and no send of the second comes in time
-- for a finder of the first, the cut is clean.
abbrev pub BalancedIsClean : Type 0
BalancedIsClean =
    (p : MpiProgram) (x : Cut) → IsWellFormed p → IsWellFormed x.first → IsWellFormed x.second → IsCutInTwo p x
    → IsBalanced x.first x.second → IsTimely p x → NoStuckRun x.first → IsClean p x

-- a part that takes all that is sent in it is balanced, whatever follows
abbrev pub LeavesNothingIsBalanced : Type 0
LeavesNothingIsBalanced = (p following : MpiProgram) → LeavesNothing p → IsBalanced p following

-- Where each finder of the first part names its source, no send of the second comes in time for it.
abbrev pub NamedIsTimely : Type 0
NamedIsTimely = (p : MpiProgram) (x : Cut) → IsCutInTwo p x → NamesSources x.first → IsTimely p x

-- The taker of a message whose envelope each such taker names is matched only after its send was
-- issued.
abbrev pub CounterpartsComeFirst : Type 0
CounterpartsComeFirst =
    (p : MpiProgram) (s t : ℕ) → IsWellFormed p → AreCounterparts p s t → (steps : List Step) → IsRun p (opening p) steps
    → IsTrue (is_matched (after_all (opening p) steps) t) → IsTrue (is_issued p (after_all (opening p) steps) s)

-- What comes after a finder by messages is issued only after the finder has found a message.
abbrev pub MessagesOrder : Type 0
MessagesOrder = (p : MpiProgram) (c f : ℕ) (messages : List (ℕ × ℕ)) → IsWellFormed p → IsAfter p c f messages → ComesAfter p c f

-- So where sends of the second part come after finders of the first, none comes in time.
abbrev pub OrderedIsTimely : Type 0
OrderedIsTimely = (p : MpiProgram) (x : Cut) → IsWellFormed p → IsOrderedCut p x → IsTimely p x

-- ---- programs one after another

-- Two programs that are joined are a cut of the whole.
abbrev pub JoinedIsCut : Type 0
JoinedIsCut = (p first second : MpiProgram) → IsWellFormed p → IsWellFormed first → IsWellFormed second → IsJoinOf p first second → IsCutInTwo p (cut_between first second)

-- Two programs of one policy and as many ranks can be joined, and what is joined is well formed.
abbrev pub JoinIsJoined : Type 0
JoinIsJoined =
    (first second : MpiProgram) → IsWellFormed first → IsWellFormed second → second.policy ≡ first.policy → second.ranks ≡ first.ranks
    → IsJoinOf (join first second) first second × IsWellFormed (join first second)

-- ---- phases

-- a well formed program no run of which ends stuck
pub record IsPhase (p : MpiProgram) : Type 0 where
  pub well_formed : IsWellFormed p
  pub never : NoStuckRun p

-- what may follow a phase: of the same policy and as many ranks
pub record MayFollow (p q : MpiProgram) : Type 0 where
  pub policy : q.policy ≡ p.policy
  pub ranks : q.ranks ≡ p.ranks

-- Programs one after another, none of which has a stuck run. Each but the last leaves no message
-- that a later one could find, and a condition holds of it and of all that follows it.
abbrev pub ArePhases : (MpiProgram → MpiProgram → Type 0) → MpiProgram → List MpiProgram → Type 0
ArePhases Holds p [] = IsPhase p
ArePhases Holds p (q ∷ others) = IsPhase p × MayFollow p q × IsBalanced p (join_all q others) × Holds p (join_all q others) × ArePhases Holds q others

-- no send of what follows comes in time for a finder of the phase
abbrev pub FollowsInTime : MpiProgram → MpiProgram → Type 0
FollowsInTime p following = IsTimely (join p following) (cut_between p following)

-- Phases have no stuck run, one after another, where no send of a later one comes in time for a
-- finder of an earlier one.
abbrev pub TimelyPhasesAreNeverStuck : Type 0
TimelyPhasesAreNeverStuck = (p : MpiProgram) (others : List MpiProgram) → ArePhases FollowsInTime p others → NoStuckRun (join_all p others)

-- each finder of the phase names its source, whatever follows
abbrev pub IsNamedBefore : MpiProgram → MpiProgram → Type 0
IsNamedBefore p following = NamesSources p

-- So where each phase but the last names its sources.
abbrev pub NamedPhasesAreNeverStuck : Type 0
NamedPhasesAreNeverStuck = (p : MpiProgram) (others : List MpiProgram) → ArePhases IsNamedBefore p others → NoStuckRun (join_all p others)

-- sends of what follows come after finders of the phase
abbrev pub IsOrderedBefore : MpiProgram → MpiProgram → Type 0
IsOrderedBefore p following = IsOrderedCut (join p following) (cut_between p following)

-- So where sends of later phases come after finders of earlier ones by messages.
abbrev pub OrderedPhasesAreNeverStuck : Type 0
OrderedPhasesAreNeverStuck = (p : MpiProgram) (others : List MpiProgram) → ArePhases IsOrderedBefore p others → NoStuckRun (join_all p others)

-- ---- one phase after another

-- A program is the first calls of each rank and then what is left behind them, which is a well
-- formed program.
abbrev pub FrontIsJoined : Type 0
FrontIsJoined = (q d : MpiProgram) → IsWellFormed q → IsWellFormed d → IsFront q d → IsJoinOf q d (behind q d) × IsWellFormed (behind q d)

-- A program has no stuck run where a phase in front of it and what is left behind the phase have
-- none, and the phase leaves no message and names its sources.
abbrev pub OnePhaseMore : Type 0
OnePhaseMore =
    (q d : MpiProgram) → IsWellFormed q → IsWellFormed d → IsFront q d → NoStuckRun d → LeavesNothing d → NamesSources d
    → NoStuckRun (behind q d) → NoStuckRun q

-- So where nothing is left behind the phase; nothing is asked of its messages and sources then.
abbrev pub LastPhase : Type 0
LastPhase = (q d : MpiProgram) → IsWellFormed q → IsWellFormed d → IsFront q d → (behind q d).calls ≡ [] → NoStuckRun d → NoStuckRun q

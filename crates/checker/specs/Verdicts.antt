-- What a verdict on a program's text and an evidence's text says.
use Rattle.std.specs.Prelude.{◌≡◌, ◌≢◌, ◌⊎◌, ◌≤◌, ◌<◌, ℕ, Bool, true, false, IsTrue, List, length, Result, Ok, Err}
use Rattle.calltext.specs.Readable.{IsText}
use Rattle.calltext.specs.Grammar.{ProgramText}
use Rattle.calltext.specs.Fault.{HasFault}
use Rattle.calltext.specs.declared.fault.ReadFault.TheVariants as reading
use Rattle.callorder.specs.Programs.{MpiProgram}
use Rattle.callorder.specs.FirstFaults.{IsFirstFault}
use Rattle.callorder.specs.Resolving.{IsTextOf}
use Rattle.callorder.specs.declared.fault.ResolveFault.TheVariants as resolving
use Rattle.candidates.specs.Pairs.{pairs_of}
use Rattle.candidates.specs.declared.fault.PairFault.TheVariants as pairing
use Rattle.clauses.specs.Clauses.{Conjunction}
use Rattle.formula.specs.Families.{events}
use Rattle.formula.specs.Numbering.{formula_of}
use Rattle.encode.specs.declared.fault.EncodeFault.TheVariants as encoding
use Rattle.semantics.specs.declared.state.Step.{Step}
use Rattle.semantics.specs.declared.schedule.End.TheVariants as ends
use Rattle.semantics.specs.RunEnds.{IsFinishedRun, IsLiveRun, StopsAtStep}
use Rattle.semantics.specs.Machine.{IsStuckRun}
use Rattle.refutations.specs.Refutations.{Accepts, AreDerived, IsFirstFaulty}
use Rattle.refutations.specs.Trees.{AcceptsTree, HasTreeFault}
use Rattle.trimming.specs.Needed.{Needed, IsFirstUnneeded}
use Rattle.prooflog.specs.declared.evidence.Evidence.TheVariants.{Schedule, Refutation}
use Rattle.prooflog.specs.declared.fault.EvidenceFault.TheVariants as proving
use Rattle.prooflog.specs.declared.refutation.Version.TheVariants.{Two}
use Rattle.prooflog.specs.Refutations.{ClaimedRefutation}
use Rattle.prooflog.specs.Grammar.{IsEvidenceText}
use Rattle.prooflog.specs.Fault.{HasEvidenceFault}
use Rattle.checker.specs.declared.judging.Judged.{Judged}
use Rattle.checker.specs.declared.judging.Judged.TheVariants as judged
use Rattle.checker.specs.declared.reason.Reason.{Reason}
use Rattle.checker.specs.declared.reason.Reason.TheVariants as reasons
use Rattle.checker.specs.declared.reason.Verdict.{Verdict}
use Rattle.checker.specs.declared.reason.Verdict.TheVariants as verdicts
use Rattle.checker.specs.Headline.{IsNeverStuck, Shows}

-- ---- texts

-- the program's text has a value, the evidence's text is a schedule's, and this holds of the
-- program and the steps
pub record OfSchedule (program evidence : List ℕ) (Holds : MpiProgram → List Step → Type 0) : Type 0 where
  pub p : MpiProgram
  pub steps : List Step
  pub text : IsTextOf program p
  pub schedule : IsEvidenceText evidence (Schedule steps)
  pub holds : Holds p steps

-- the program's text has a value, the evidence's text is a refutation's, and this holds of the
-- program and the refutation
pub record OfRefutation (program evidence : List ℕ) (Holds : MpiProgram → ClaimedRefutation → Type 0) : Type 0 where
  pub p : MpiProgram
  pub claim : ClaimedRefutation
  pub text : IsTextOf program p
  pub refutation : IsEvidenceText evidence (Refutation claim)
  pub holds : Holds p claim

-- the evidence's text is a refutation's
abbrev pub IsARefutation : List ℕ → List ℕ → Type 0
IsARefutation program evidence = OfRefutation program evidence (λ p claim. Unit {0})

-- ---- refutations of a program

-- The formula of the program is within the limits: at most 8,192 fitting pairs of a send and a
-- receive, matched probe or probe, 1,024 events and 4,000,000 clauses. An event is the issue of a
-- call, the match of a taker or the see of a probe.
pub record HasFormula (p : MpiProgram) : Type 0 where
  pub few_pairs : length (pairs_of p) ≤ 8192
  pub few_events : length (events p) ≤ 1024
  pub few_clauses : length (formula_of p).clauses ≤ 4000000

-- the first of the limits that the formula of the program passes is the one of this reason
abbrev pub HasNoFormula : Reason → MpiProgram → Type 0
HasNoFormula (reasons.Pairs pairing.TooMany) p = 8192 < length (pairs_of p)
HasNoFormula (reasons.Encode encoding.TooManyEvents) p = (length (pairs_of p) ≤ 8192) × (1024 < length (events p))
HasNoFormula (reasons.Encode encoding.TooManyClauses) p =
    (length (pairs_of p) ≤ 8192) × (length (events p) ≤ 1024) × (4000000 < length (formula_of p).clauses)
HasNoFormula _ p = ⊥

-- the counts of variables and clauses are those of the program's formula
pub record HasCounts (p : MpiProgram) (claim : ClaimedRefutation) : Type 0 where
  pub formula : HasFormula p
  pub variables : claim.variables ≡ (formula_of p).variables
  pub clauses : claim.clauses ≡ length (formula_of p).clauses

-- the refutation has the counts of the program's formula, and its lines and its tree are accepted
-- for that formula; one of version 2 has no line that is not needed
pub record IsRefutedBy (p : MpiProgram) (claim : ClaimedRefutation) : Type 0 where
  pub counts : HasCounts p claim
  pub accepted : Accepts (formula_of p) claim.lines claim.nodes
  pub needed : claim.version ≡ Two → Needed claim.clauses claim.lines claim.nodes

-- the program's text has a value, the evidence's text is a refutation's, and it refutes the program
abbrev pub RefutesProgram : List ℕ → List ℕ → Type 0
RefutesProgram program evidence = OfRefutation program evidence IsRefutedBy

-- The one text is that of a program, whose formula this is, and the other text is that of this
-- refutation, which refutes the program.
pub record AreRefuted (program evidence : List ℕ) (f : Conjunction) (claim : ClaimedRefutation) : Type 0 where
  pub p : MpiProgram
  pub text : IsTextOf program p
  pub refutation : IsEvidenceText evidence (Refutation claim)
  pub formula : f ≡ formula_of p
  pub refuted : IsRefutedBy p claim

-- this is the first line of a refutation of version 2 that is not needed
abbrev pub IsUnneeded : ℕ → ClaimedRefutation → Type 0
IsUnneeded number claim = (claim.version ≡ Two) × IsFirstUnneeded claim.clauses claim.lines claim.nodes number

-- why a refutation isn't accepted for a formula: its first line that isn't derived, else the first
-- node that isn't accepted, else, in version 2, the first line that isn't needed
abbrev pub IsUnaccepted : Reason → Conjunction → ClaimedRefutation → Type 0
IsUnaccepted (reasons.Line found) f claim = IsFirstFaulty f claim.lines 0 found
IsUnaccepted (reasons.Tree fault) f claim = AreDerived f claim.lines × HasTreeFault f claim.lines claim.nodes fault
IsUnaccepted (reasons.Unneeded number) f claim = AreDerived f claim.lines × AcceptsTree f claim.lines claim.nodes × IsUnneeded number claim
IsUnaccepted _ f claim = ⊥

-- Why a refutation is refused for a program, in this order: the program's formula is beyond a
-- limit; the counts are not the formula's; a line isn't derived; a node of the tree isn't accepted;
-- the refutation has version 2, and a line isn't needed.
abbrev pub IsUnrefuted : Reason → MpiProgram → ClaimedRefutation → Type 0
IsUnrefuted (reasons.Pairs fault) p claim = HasNoFormula (reasons.Pairs fault) p
IsUnrefuted (reasons.Encode fault) p claim = HasNoFormula (reasons.Encode fault) p
IsUnrefuted reasons.Counts p claim = HasFormula p × (HasCounts p claim → ⊥)
IsUnrefuted (reasons.Line found) p claim = HasCounts p claim × IsUnaccepted (reasons.Line found) (formula_of p) claim
IsUnrefuted (reasons.Tree fault) p claim = HasCounts p claim × IsUnaccepted (reasons.Tree fault) (formula_of p) claim
IsUnrefuted (reasons.Unneeded number) p claim = HasCounts p claim × IsUnaccepted (reasons.Unneeded number) (formula_of p) claim
IsUnrefuted _ p claim = ⊥

-- ---- schedules of a program

-- why a schedule shows no deadlock of a program: a step isn't enabled; the run ends finished, or
-- live
abbrev pub IsUnshown : Reason → MpiProgram → List Step → Type 0
IsUnshown (reasons.Replay at) p steps = StopsAtStep p steps at
IsUnshown (reasons.NotStuck ends.Finished) p steps = IsFinishedRun p steps
IsUnshown (reasons.NotStuck ends.Live) p steps = IsLiveRun p steps
IsUnshown _ p steps = ⊥

-- The one text says this, and is that of this program, and the other text is that of this schedule,
-- which is a run of the program that ends where a rank is unfinished and no step is enabled.
pub record AreShown (program evidence : List ℕ) (source : ProgramText) (p : MpiProgram) (steps : List Step) : Type 0 where
  pub says : IsText program source
  pub text : IsTextOf program p
  pub schedule : IsEvidenceText evidence (Schedule steps)
  pub stuck : IsStuckRun p steps

-- ---- verdicts

-- Each reason is the first that there is, in this order: the program's text has a fault; its call
-- lines have one; the evidence's text has one; the evidence is a refutation that is refused for the
-- program; a step of the schedule is not enabled; the schedule's run does not end stuck. Want of
-- memory may come at any time.
abbrev pub IsReason : List ℕ → List ℕ → Reason → Type 0
IsReason program evidence reasons.Memory = Unit {0}
IsReason program evidence (reasons.Read fault) = HasFault program fault × (fault ≢ reading.Memory)
IsReason program evidence (reasons.Resolve fault) = (text : ProgramText) × IsText program text × IsFirstFault text fault × (fault ≢ resolving.Memory)
IsReason program evidence (reasons.Evidence fault) = (p : MpiProgram) × IsTextOf program p × HasEvidenceFault evidence fault × (fault ≢ proving.Memory)
IsReason program evidence (reasons.Pairs fault) = OfRefutation program evidence (IsUnrefuted (reasons.Pairs fault))
IsReason program evidence (reasons.Encode fault) = OfRefutation program evidence (IsUnrefuted (reasons.Encode fault))
IsReason program evidence reasons.Counts = OfRefutation program evidence (IsUnrefuted reasons.Counts)
IsReason program evidence (reasons.Line found) = OfRefutation program evidence (IsUnrefuted (reasons.Line found))
IsReason program evidence (reasons.Tree fault) = OfRefutation program evidence (IsUnrefuted (reasons.Tree fault))
IsReason program evidence (reasons.Unneeded number) = OfRefutation program evidence (IsUnrefuted (reasons.Unneeded number))
IsReason program evidence (reasons.Replay at) = OfSchedule program evidence (IsUnshown (reasons.Replay at))
IsReason program evidence (reasons.NotStuck end) = OfSchedule program evidence (IsUnshown (reasons.NotStuck end))

-- what each verdict says of the program's text and the evidence's text
abbrev pub Judges : List ℕ → List ℕ → Verdict → Type 0
Judges program evidence verdicts.NoDeadlock = RefutesProgram program evidence
Judges program evidence verdicts.Deadlock = Shows program evidence
Judges program evidence (verdicts.Refused reason) = IsReason program evidence reason

-- What is handed out of two texts that were judged: the program with its formula, and the
-- refutation that refutes it; or what the program's text says, the program, and the schedule that
-- is a run of it which ends stuck; or why neither is.
abbrev pub IsJudged : List ℕ → List ℕ → Result Judged Reason → Type 0
IsJudged program evidence (Ok (judged.Refuted r)) = (are : AreRefuted program evidence r.formula r.refutation) × (are.p ≡ r.program)
IsJudged program evidence (Ok (judged.Stuck run)) = AreShown program evidence run.source run.program run.schedule
IsJudged program evidence (Err reason) = IsReason program evidence reason

-- The headline, and that each verdict comes exactly where it is right, but for want of memory.
pub record IsVerdict (program evidence : List ℕ) (verdict : Verdict) : Type 0 where
  pub no_deadlock : verdict ≡ verdicts.NoDeadlock → IsNeverStuck program
  pub deadlock : verdict ≡ verdicts.Deadlock → Shows program evidence
  pub no_deadlock_only : RefutesProgram program evidence → (verdict ≡ verdicts.NoDeadlock) ⊎ (verdict ≡ verdicts.Refused reasons.Memory)
  pub deadlock_only : Shows program evidence → (verdict ≡ verdicts.Deadlock) ⊎ (verdict ≡ verdicts.Refused reasons.Memory)
  pub judges : Judges program evidence verdict

-- ---- laws

-- A program that is refuted has no run that ends stuck.
abbrev pub RefutedAreNeverStuck : Type 0
RefutedAreNeverStuck = (program evidence : List ℕ) → RefutesProgram program evidence → IsNeverStuck program

-- Only one verdict but want of memory is right. So a verdict is decided by the two texts alone.
abbrev pub OneVerdict : Type 0
OneVerdict = (program evidence : List ℕ) (a b : Verdict) → Judges program evidence a → Judges program evidence b → a ≢ verdicts.Refused reasons.Memory → b ≢ verdicts.Refused reasons.Memory → a ≡ b

-- No program's text is refuted by one evidence and shown to get stuck by another.
abbrev pub NeverBoth : Type 0
NeverBoth = (program evidence other : List ℕ) → RefutesProgram program evidence → Shows program other → ⊥

-- ---- reasons by what they rest on

-- a program's text alone may be refused for this reason
abbrev pub is_of_program : Reason → Bool
is_of_program reasons.Memory = true
is_of_program (reasons.Read fault) = true
is_of_program (reasons.Resolve fault) = true
is_of_program reason = false

-- The program's text is refused for this reason, whatever the evidence is.
abbrev pub IsProgramReason : List ℕ → Reason → Type 0
IsProgramReason program reason = IsTrue (is_of_program reason) × ((evidence : List ℕ) → IsReason program evidence reason)

-- a refutation may be refused for this reason, and no schedule
abbrev pub is_of_refutation : Reason → Bool
is_of_refutation (reasons.Pairs fault) = true
is_of_refutation (reasons.Encode fault) = true
is_of_refutation reasons.Counts = true
is_of_refutation (reasons.Line found) = true
is_of_refutation (reasons.Tree fault) = true
is_of_refutation (reasons.Unneeded number) = true
is_of_refutation reason = false

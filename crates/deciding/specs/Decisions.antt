-- What one run tells of all runs of a program, and of the program of a text; and the text of a
-- schedule of any length.
use Rattle.std.specs.Prelude.{◌≡◌, ◌≤◌, ℕ, Bool, false, not, List, Option, Some, None, IsTrue, Result, Ok, Err, map}
use Rattle.calltext.specs.declared.fault.ReadFault.{ReadFault}
use Rattle.calltext.specs.declared.fault.ReadFault.TheVariants as reading
use Rattle.calltext.specs.Fault.{HasFaultWithin}
use Rattle.calltext.specs.Grammar.{ProgramText, IsTextWithin, long}
use Rattle.callorder.specs.Calls.{pattern_of}
use Rattle.callorder.specs.Programs.{MpiProgram, are_fit, are_of_one_rank, call_at, is_of_rank}
use Rattle.callorder.specs.FirstFaults.{IsFirstFaultWithin}
use Rattle.callorder.specs.Resolving.{IsTextOfWithin}
use Rattle.callorder.specs.declared.calls.Call.{Call}
use Rattle.callorder.specs.declared.fault.ResolveFault.{ResolveFault}
use Rattle.callorder.specs.declared.fault.ResolveFault.TheVariants as resolving
use Rattle.semantics.specs.Headline.{NoStuckRun, IsNeverStuckWithin, IsStuckRunWithin}
use Rattle.semantics.specs.RunEnds.{IsFinishedRun}
use Rattle.semantics.specs.Machine.{Configuration, after_all, opening, partner_of, IsStuckRun}
use Rattle.semantics.specs.declared.state.Step.{Step}
use Rattle.races.specs.Races.{names_source, BuffersNoneByChoice}
use Rattle.races.specs.Tells.{Table, IsJustified}
use Rattle.deciding.specs.declared.decision.Caller.{Caller}
use Rattle.deciding.specs.declared.decision.Decision.{Decision}
use Rattle.deciding.specs.declared.decision.CallerRace.{CallerRace}
use Rattle.deciding.specs.declared.decision.Decision.TheVariants as decisions
use Rattle.deciding.specs.declared.texts.Undecided.{Undecided}
use Rattle.deciding.specs.declared.texts.Undecided.TheVariants as undecided
use Rattle.std.specs.List.{flat_map}
use Rattle.prooflog.specs.Grammar.{as_schedule, written_lines}
use Rattle.prooflog.specs.Steps.{written}
use Rattle.prooflog.specs.declared.step.WrittenStep.{WrittenStep}
use Rattle.prooflog.specs.declared.step.WrittenStep.TheVariants.{Issue}

abbrev pub takes_any_source_call : Option Call → Bool
takes_any_source_call None = false
takes_any_source_call (Some call) = not (names_source (pattern_of call.kind))

-- the call exists, and is a receive, matched probe or probe of any source
abbrev pub takes_any_source : MpiProgram → ℕ → Bool
takes_any_source p c = takes_any_source_call (call_at p c)

-- there is a call at the place, and it is of this rank
abbrev pub IsCaller : MpiProgram → Caller → Type 0
IsCaller p caller = IsTrue (is_of_rank (call_at p caller.place) caller.rank)

-- the configuration is that at the end of a run that finishes, and buffers a send only where the
-- policy has each one buffered
abbrev pub EndsLeast : MpiProgram → Configuration → Type 0
EndsLeast p e = (run : List Step) × IsFinishedRun p run × BuffersNoneByChoice p run × (e ≡ after_all (opening p) run)

-- In some run that finishes, and buffers a send only where the policy has each one buffered, the
-- call found the one send, no call up to it has taken the other one, and no table whose entries are
-- all justified tells that the other one is issued only where the call has found.
pub record IsOpenRace (p : MpiProgram) (race : CallerRace) : Type 0 where
  pub run : List Step
  pub finished : IsFinishedRun p run
  pub choice : BuffersNoneByChoice p run
  pub matched : partner_of (after_all (opening p) run) race.finder.place ≡ Some race.found.place
  pub later : (taker : ℕ) → partner_of (after_all (opening p) run) race.other.place ≡ Some taker → taker ≤ race.finder.place → ⊥
  pub unordered : (knows : Table) → IsJustified p (after_all (opening p) run) knows → knows race.other.place race.finder.place ≡ false

-- A call that takes any source, the send that it found, and a send of another rank that fits it
-- too, and may come first.
pub record IsRace (p : MpiProgram) (race : CallerRace) : Type 0 where
  pub free : IsTrue (takes_any_source p race.finder.place)
  pub finder : IsCaller p race.finder
  pub found : IsCaller p race.found
  pub other : IsCaller p race.other
  pub found_fits : IsTrue (are_fit p race.found.place race.finder.place)
  pub other_fits : IsTrue (are_fit p race.other.place race.finder.place)
  pub apart : are_of_one_rank p race.found.place race.other.place ≡ false
  pub untold : IsOpenRace p race

-- What is decided of a program: no run of it gets stuck; the steps are a run of it that does; or
-- neither, and two messages may race for a call.
abbrev pub IsDecision : MpiProgram → Decision → Type 0
IsDecision p decisions.NoDeadlock = NoStuckRun p
IsDecision p (decisions.Deadlock steps) = IsStuckRun p steps.items
IsDecision p (decisions.Race race) = IsRace p race

-- The bytes are the text of a program, within the long limits, that has these calls.
pub record HasRace (program : List ℕ) (race : CallerRace) : Type 0 where
  pub p : MpiProgram
  pub text : IsTextOfWithin long program p
  pub calls : IsRace p race

-- The same of the program that bytes are the text of, within the long limits.
abbrev pub Decides : List ℕ → Decision → Type 0
Decides program decisions.NoDeadlock = IsNeverStuckWithin long program
Decides program (decisions.Deadlock steps) = IsStuckRunWithin long program steps.items
Decides program (decisions.Race race) = HasRace program race

-- want of memory is told alike, wherever it is met
abbrev pub undecided_reading : ReadFault → Undecided
undecided_reading reading.Memory = undecided.Memory
undecided_reading fault = undecided.Read fault

abbrev pub undecided_resolving : ResolveFault → Undecided
undecided_resolving resolving.Memory = undecided.Memory
undecided_resolving fault = undecided.Resolve fault

-- Why bytes aren't decided: memory ran out; their first fault within the long limits; or the first
-- fault of their call lines.
abbrev pub IsUndecided : List ℕ → Undecided → Type 0
IsUndecided program undecided.Memory = Unit {0}
IsUndecided program (undecided.Read fault) = HasFaultWithin long program fault
IsUndecided program (undecided.Resolve fault) = (text : ProgramText) × IsTextWithin long program text × IsFirstFaultWithin long text fault

-- each of these for what it is
abbrev pub IsDecided : List ℕ → Result Decision Undecided → Type 0
IsDecided program (Ok decision) = Decides program decision
IsDecided program (Err why) = IsUndecided program why

-- The lines of the steps below the two headings of a schedule's text. Within the limits of a
-- schedule this is the text of an evidence.
abbrev pub schedule_text : List Step → List ℕ
schedule_text steps = flat_map (λ line. line) (written_lines (as_schedule (map written steps)))

-- a rank's issue of its next call, as it is written
abbrev pub issue_step : ℕ → Bool → WrittenStep
issue_step rank buffered = Issue rank buffered

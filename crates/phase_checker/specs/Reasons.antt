-- Why a text is no phase.
use Rattle.std.specs.Prelude.{ℕ, List}
use Rattle.calltext.specs.Grammar.{long}
use Rattle.semantics.specs.Headline.{IsStuckRunWithin}
use Rattle.semantics.specs.declared.state.Step.{Step}
use Rattle.deciding.specs.Decisions.{HasRace, IsUndecided}
use Rattle.deciding.specs.declared.texts.Undecided.{Undecided}
use Rattle.deciding.specs.declared.texts.Undecided.TheVariants as undecided
use Rattle.phase_checker.specs.declared.reason.NotAPhase.{NotAPhase}
use Rattle.phase_checker.specs.declared.reason.NotAPhase.TheVariants as phases
use Rattle.phase_checker.specs.declared.reason.NotJoined.{NotJoined}
use Rattle.phase_checker.specs.declared.reason.NotJoined.TheVariants as joins

-- what is told where a text isn't one of a program
abbrev pub phase_undecided : Undecided → NotAPhase
phase_undecided undecided.Memory = phases.Memory
phase_undecided (undecided.Read fault) = phases.Read fault
phase_undecided (undecided.Resolve fault) = phases.Resolve fault

abbrev pub program_undecided : Undecided → NotJoined
program_undecided undecided.Memory = joins.Memory
program_undecided (undecided.Read fault) = joins.Read fault
program_undecided (undecided.Resolve fault) = joins.Resolve fault

-- Why a text is no phase: it is none of a program; a run of its program gets stuck; or messages of
-- the one run may race. Want of memory may be told for any text.
abbrev pub IsNoPhase : List ℕ → NotAPhase → Type 0
IsNoPhase text phases.Memory = Unit {0}
IsNoPhase text (phases.Read fault) = IsUndecided text (undecided.Read fault)
IsNoPhase text (phases.Resolve fault) = IsUndecided text (undecided.Resolve fault)
IsNoPhase text phases.Deadlock = (steps : List Step) × IsStuckRunWithin long text steps
IsNoPhase text (phases.Race race) = HasRace text race

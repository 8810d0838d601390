-- Stuck runs are within the limits of schedules.
use Rattle.std.proofs.Common.{List, [], ◌∷◌, map, arith}
use Rattle.std.specs.List.{AllByRecursion}
use Rattle.std.proofs.lemmas.List.{length-map}
use Rattle.std.proofs.lemmas.List.Elements.{recursion_from_All, All-from_recursion}
use Rattle.callorder.specs.ProgramRules.{IsProgram}
use Rattle.callorder.specs.Programs.{MpiProgram}
use Rattle.semantics.specs.declared.state.Step.{Step}
use Rattle.semantics.specs.declared.state.Step.TheVariants.{Issue, Match, See}
use Rattle.semantics.specs.Machine.{IsStuckRun}
use Rattle.semantics.specs.Laws.{NamesOfProgram}
use Rattle.semantics.proofs.Lengths.{runs_are_short, runs_name_the_program}
use Rattle.prooflog.specs.Steps.{written, IsStepInRange, IsSchedule}

in_range : (p : MpiProgram) (step : Step) → IsProgram p → NamesOfProgram p step → IsStepInRange (written step)
in_range p (Issue rank buffered) program names = omega (arith, program.few_ranks, names)
in_range p (Match send taker) program names = (omega arith, omega (arith, program.few_calls, names.0), omega arith, omega (arith, program.few_calls, names.1))
in_range p (See send probe) program names = (omega arith, omega (arith, program.few_calls, names.0), omega arith, omega (arith, program.few_calls, names.1))

all_in_range : (p : MpiProgram) (steps : List Step) → IsProgram p → AllByRecursion (NamesOfProgram p) steps → AllByRecursion IsStepInRange (map written steps)
all_in_range p [] program names = tt
all_in_range p (step ∷ steps) program names = (in_range p step program names.0, all_in_range p steps program names.1)

pub stuck_run_is_schedule : (p : MpiProgram) (steps : List Step) → IsProgram p → IsStuckRun p steps → IsSchedule steps
stuck_run_is_schedule p steps program stuck =
    record {
      few = omega (arith, length-map steps written, runs_are_short p steps stuck.run, program.few_calls);
      in_range = All-from_recursion IsStepInRange (map written steps) (all_in_range p steps program (recursion_from_All (NamesOfProgram p) steps (runs_name_the_program p steps stuck.run)));
    }

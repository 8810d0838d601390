-- The run is one of the program that was read.
use Rattle.std.proofs.Common.{subst}
use Rattle.calltext.specs.Grammar.{long}
use Rattle.callorder.specs.Programs.{MpiProgram}
use Rattle.callorder.proofs.FirstFaults.{one_program_of_bytes_within}
use Rattle.semantics.specs.Machine.{IsStuckRun}
use Rattle.reports.proofs.Drawn.{run_drawn}
use Rattle.reports.proofs.decided.explain_run.Goals as goal

pub run_text-requires-clause-stuck : goal.run_text-requires-clause-stuck
run_text-requires-clause-stuck g c κs within =
    subst (λ (q : MpiProgram). IsStuckRun q c.args.steps.now)
    (one_program_of_bytes_within long c.args.text.now c.requires.p c.in_ok-program.program c.requires.text c.in_ok-program.ensures) c.requires.stuck

pub returns : goal.returns
returns g c =
    run_drawn c.run_text.result c.args.form c.args.text.now c.in_ok-source.source c.in_ok-program.program c.args.steps.now c.in_ok-program.ensures
    (subst (λ (q : MpiProgram). IsStuckRun q c.args.steps.now)
    (one_program_of_bytes_within long c.args.text.now c.requires.p c.in_ok-program.program c.requires.text c.in_ok-program.ensures) c.requires.stuck)
    c.in_ok-source.ensures c.run_text.ensures

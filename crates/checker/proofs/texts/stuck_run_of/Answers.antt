use Rattle.checker.proofs.Reasons.{is_no_run}
use Rattle.checker.proofs.texts.stuck_run_of.Goals as goal

pub returns-in-Err-clause-why : goal.returns-in-Err-clause-why
returns-in-Err-clause-why c = is_no_run c.args.program.now c.args.evidence.now c.in-Err.reason c.in-Err.ensures.reason

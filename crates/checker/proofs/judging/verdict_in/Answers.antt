use Rattle.std.proofs.Common.{Ok, rules}
use Rattle.checker.specs.declared.judging.Judged.TheVariants as judged
use Rattle.checker.specs.declared.reason.Verdict.TheVariants.{NoDeadlock, Deadlock, Refused}
use Rattle.checker.specs.Verdicts.{IsJudged}
use Rattle.checker.proofs.HandedOut.{shown_show}
use Rattle.checker.proofs.Headlines.{is_verdict}
use Rattle.checker.proofs.Reasons.{refuted_refute}
use Rattle.checker.proofs.judging.verdict_in.Goals as goal

pub returns-in-Ok-Refuted-clause-no_deadlock : goal.returns-in-Ok-Refuted-clause-no_deadlock
returns-in-Ok-Refuted-clause-no_deadlock g c =
    let is : IsJudged c.args.program.now c.args.evidence.now (Ok (judged.Refuted c.in-Ok-Refuted._refuted)) = search rules in
    (is_verdict c.args.program.now c.args.evidence.now NoDeadlock (refuted_refute _ _ _ _ is.0)).no_deadlock

pub returns-in-Ok-Refuted-clause-is : goal.returns-in-Ok-Refuted-clause-is
returns-in-Ok-Refuted-clause-is g c =
    let is : IsJudged c.args.program.now c.args.evidence.now (Ok (judged.Refuted c.in-Ok-Refuted._refuted)) = search rules in
    is_verdict c.args.program.now c.args.evidence.now NoDeadlock (refuted_refute _ _ _ _ is.0)

pub returns-in-Ok-Stuck-clause-is : goal.returns-in-Ok-Stuck-clause-is
returns-in-Ok-Stuck-clause-is g c =
    let is : IsJudged c.args.program.now c.args.evidence.now (Ok (judged.Stuck c.in-Ok-Stuck._run)) = search rules in
    is_verdict c.args.program.now c.args.evidence.now Deadlock (shown_show _ _ _ _ _ is)

pub returns-in-Err-clause-is : goal.returns-in-Err-clause-is
returns-in-Err-clause-is g c = is_verdict c.args.program.now c.args.evidence.now (Refused c.in-Err.reason) c.in-Err.ensures

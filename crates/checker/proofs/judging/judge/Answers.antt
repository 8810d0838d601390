use Rattle.std.proofs.Common.{rules}
use Rattle.prooflog.specs.declared.evidence.Evidence.TheVariants.{Refutation}
use Rattle.prooflog.specs.Grammar.{IsEvidenceText}
use Rattle.checker.proofs.HandedOut.{are_refuted}
use Rattle.checker.proofs.judging.judge.Goals as goal

pub returns-in-Err : goal.returns-in-Err
returns-in-Err g c = c.in-Err.ensures.reason.1 c.args.evidence.now

pub returns-in-Ok-refute : goal.returns-in-Ok-refute
returns-in-Ok-refute g c =
    let text : IsEvidenceText c.args.evidence.now (Refutation c.in-Ok-Refutation.refutation) = search rules in
    are_refuted c.args.program.now c.args.evidence.now c.in-Ok.read.program c.in-Ok-Refutation.refutation c.in-Ok-refute.refuted
    c.in-Ok.ensures.program text c.in-Ok-refute.ensures.of c.in-Ok-refute.ensures.refuted

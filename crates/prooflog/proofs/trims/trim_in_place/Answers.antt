use Rattle.prooflog.proofs.TrimLaws.{each_keeps_accepted}
use Rattle.prooflog.proofs.trims.trim_in_place.Goals as goal

pub returns-in-Ok-clause-accepted : goal.returns-in-Ok-clause-accepted
returns-in-Ok-clause-accepted c = each_keeps_accepted c.args.evidence.now c.in-Refutation.refutation c.trim.new.self c.in-Refutation.is c.in-Ok.ensures.trimmed

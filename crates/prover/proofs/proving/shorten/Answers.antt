use Rattle.prover.proofs.Answering.{evidence_trimmed}
use Rattle.prover.proofs.proving.shorten.Goals as goal

pub returns-in-Ok : goal.returns-in-Ok
returns-in-Ok c = λ p on. evidence_trimmed p c.args.evidence.now c.trim_in_place.new.evidence c.in-Ok.ensures.trimmed on

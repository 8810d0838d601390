use Rattle.prover.proofs.Answering.{refuted}
use Rattle.prover.proofs.proving.told_refutation.Goals as goal

pub returns-in-Ok : goal.returns-in-Ok
returns-in-Ok g c = λ p text on is_text. refuted text c.in-Ok.text p c.args.refutation is_text c.in-Ok.ensures on

use Rattle.sealing.proofs.Sealed.{one_sealed_phase_more}
use Rattle.sealing.proofs.laws.one_sealed_phase_more.Goals as goal

pub returns : goal.returns
returns c = one_sealed_phase_more

use Rattle.callorder.proofs.FirstFaults as first
use Rattle.callorder.proofs.laws.same_program_within.Goals as goal

pub returns : goal.returns
returns c = first.same_program_within

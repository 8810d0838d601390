use Rattle.phase_checker.proofs.Faults.{one_fault}
use Rattle.phase_checker.proofs.laws.one_fault.Goals as goal

pub returns : goal.returns
returns c = one_fault

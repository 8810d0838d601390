use Rattle.phase_checker.proofs.Faults.{joined_have_no_fault}
use Rattle.phase_checker.proofs.laws.joined_have_no_fault.Goals as goal

pub returns : goal.returns
returns c = joined_have_no_fault

use Rattle.reports.proofs.Shorter.{shortened_refutes}
use Rattle.reports.proofs.laws.shortened_refute.Goals as goal

pub returns : goal.returns
returns c = shortened_refutes

use Rattle.session.proofs.SearchLaws.{decided_runs}
use Rattle.session.proofs.laws.decided_runs_are_right.Goals as goal

pub returns : goal.returns
returns c = decided_runs

use Rattle.session.proofs.SweepLaws.{unrolled_runs}
use Rattle.session.proofs.laws.unrolled_runs_are_right.Goals as goal

pub returns : goal.returns
returns c = unrolled_runs

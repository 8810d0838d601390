use Rattle.session.proofs.SeveralLaws.{each_run}
use Rattle.session.proofs.laws.each_run_is_right.Goals as goal

pub returns : goal.returns
returns c = each_run

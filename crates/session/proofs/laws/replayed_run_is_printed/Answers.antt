use Rattle.session.proofs.CheckLaws.{replayed_run}
use Rattle.session.proofs.laws.replayed_run_is_printed.Goals as goal

pub returns : goal.returns
returns c = replayed_run

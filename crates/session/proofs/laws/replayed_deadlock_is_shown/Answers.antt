use Rattle.session.proofs.CheckLaws.{replayed}
use Rattle.session.proofs.laws.replayed_deadlock_is_shown.Goals as goal

pub returns : goal.returns
returns c = replayed

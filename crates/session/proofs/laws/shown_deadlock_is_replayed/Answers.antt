use Rattle.session.proofs.CheckLaws.{shown_replayed}
use Rattle.session.proofs.laws.shown_deadlock_is_replayed.Goals as goal

pub returns : goal.returns
returns c = shown_replayed

use Rattle.session.proofs.CheckLaws.{shown_checked}
use Rattle.session.proofs.laws.shown_deadlock_is_checked.Goals as goal

pub returns : goal.returns
returns c = shown_checked

use Rattle.session.proofs.CheckLaws.{checked_stuck}
use Rattle.session.proofs.laws.checked_deadlock_is_printed.Goals as goal

pub returns : goal.returns
returns c = checked_stuck

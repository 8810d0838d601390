use Rattle.session.proofs.AnyLaws.{any_told}
use Rattle.session.proofs.laws.told_deadlock_is_shown.Goals as goal

pub returns : goal.returns
returns c = any_told

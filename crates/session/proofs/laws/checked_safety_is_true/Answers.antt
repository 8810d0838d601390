use Rattle.session.proofs.CheckLaws.{checked_never}
use Rattle.session.proofs.laws.checked_safety_is_true.Goals as goal

pub returns : goal.returns
returns c = checked_never

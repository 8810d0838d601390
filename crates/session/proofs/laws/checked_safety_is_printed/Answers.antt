use Rattle.session.proofs.CheckLaws.{checked_safe}
use Rattle.session.proofs.laws.checked_safety_is_printed.Goals as goal

pub returns : goal.returns
returns c = checked_safe

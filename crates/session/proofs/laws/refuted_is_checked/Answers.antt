use Rattle.session.proofs.CheckLaws.{refuted_checked}
use Rattle.session.proofs.laws.refuted_is_checked.Goals as goal

pub returns : goal.returns
returns c = refuted_checked

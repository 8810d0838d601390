use Rattle.session.proofs.FileLaws.{exported_never}
use Rattle.session.proofs.laws.exported_safety_is_true.Goals as goal

pub returns : goal.returns
returns c = exported_never

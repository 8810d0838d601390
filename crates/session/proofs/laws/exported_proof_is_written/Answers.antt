use Rattle.session.proofs.FileLaws.{exported_written}
use Rattle.session.proofs.laws.exported_proof_is_written.Goals as goal

pub returns : goal.returns
returns c = exported_written

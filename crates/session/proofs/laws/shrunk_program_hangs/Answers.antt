use Rattle.session.proofs.FileLaws.{shrunk}
use Rattle.session.proofs.laws.shrunk_program_hangs.Goals as goal

pub returns : goal.returns
returns c = shrunk

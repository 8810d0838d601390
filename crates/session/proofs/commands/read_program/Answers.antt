-- What was read stands for the whole content.
use Rattle.session.proofs.StandIns.{if_read, program_stands}
use Rattle.session.proofs.commands.read_program.Goals as goal

pub returns-clause-bytes : goal.returns-clause-bytes
returns-clause-bytes g c = if_read c.read.result _ _ (program_stands _) c.read.ensures.bytes

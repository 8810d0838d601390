use Rattle.std.proofs.Common.{arith}
use Rattle.session.proofs.StandIns.{whole_read}
use Rattle.session.proofs.decide.read_whole.Goals as goal

pub returns-clause-bytes : goal.returns-clause-bytes
returns-clause-bytes g c = whole_read _ c.in_ok-bytes.bytes.items (omega (arith, c.len-length.ensures)) c.in_ok-bytes.ensures.bytes

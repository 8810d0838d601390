use Rattle.std.proofs.Common.{arith}
use Rattle.calltext.proofs.laws.short_is_within_long.Goals as goal

pub returns : goal.returns
returns c = record { bytes = omega arith; ranks = omega arith; peer = omega arith; tag = omega arith; communicator = omega arith; calls = omega arith }

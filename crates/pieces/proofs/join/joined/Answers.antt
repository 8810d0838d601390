use Rattle.std.proofs.Common.{rules}
use Rattle.pieces.proofs.join.joined.Goals as goal

pub returns : goal.returns
returns c = search rules

use Rattle.unroll.proofs.Spelling.{groups_are_spelled_alike}
use Rattle.unroll.proofs.laws.groups_are_spelled_alike.Goals as goal

pub returns : goal.returns
returns c = groups_are_spelled_alike

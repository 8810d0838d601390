use Rattle.knowledge.proofs.Less.{union_justified}
use Rattle.knowledge.proofs.laws.unions_are_justified.Goals as goal

pub returns : goal.returns
returns c = union_justified

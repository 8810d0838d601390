use Rattle.knowledge.proofs.Less.{column_justified}
use Rattle.knowledge.proofs.laws.columns_are_justified.Goals as goal

pub returns : goal.returns
returns c = column_justified

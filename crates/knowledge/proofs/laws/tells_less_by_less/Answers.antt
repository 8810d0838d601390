use Rattle.knowledge.proofs.Less.{issue_less}
use Rattle.knowledge.proofs.laws.tells_less_by_less.Goals as goal

pub returns : goal.returns
returns c = issue_less

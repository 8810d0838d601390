use Rattle.clauses.proofs.Clauses.{later_variable_is_larger}
use Rattle.clauses.proofs.laws.later_variable_is_larger.Goals as goal

pub returns : goal.returns
returns c = later_variable_is_larger

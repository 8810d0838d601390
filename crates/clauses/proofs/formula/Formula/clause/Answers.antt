use Rattle.std.proofs.Common.{rules}
use Rattle.clauses.proofs.formula.Formula.clause.Goals as goal

pub returns-clause-when : goal.returns-clause-when
returns-clause-when c = search rules

use Rattle.std.proofs.Common.{rules}
use Rattle.clauses.proofs.clause.Clause.from_vec.Goals as goal

pub invariant_of-result : goal.invariant_of-result
invariant_of-result c = search rules

pub returns-clause-when : goal.returns-clause-when
returns-clause-when c = search rules

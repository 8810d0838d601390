use Rattle.std.proofs.Common.{rules}
use Rattle.clauses.proofs.literal.Lit.make.Goals as goal

pub invariant_of-result : goal.invariant_of-result
invariant_of-result c = search rules

pub returns-clause-made : goal.returns-clause-made
returns-clause-made c = search rules

pub returns-clause-when : goal.returns-clause-when
returns-clause-when c = search rules

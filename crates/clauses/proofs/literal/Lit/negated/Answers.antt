use Rattle.std.proofs.Common.{rules}
use Rattle.clauses.proofs.literal.Lit.negated.Goals as goal

pub returns : goal.returns
returns c = search rules

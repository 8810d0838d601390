use Rattle.clauses.proofs.Clauses.{each_clause_follows}
use Rattle.clauses.proofs.laws.each_clause_follows.Goals as goal

pub returns : goal.returns
returns c = each_clause_follows

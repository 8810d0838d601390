use Rattle.clauses.proofs.Clauses.{empty_clause_refutes}
use Rattle.clauses.proofs.laws.empty_clause_refutes.Goals as goal

pub returns : goal.returns
returns c = empty_clause_refutes

use Rattle.formula.proofs.Within as within
use Rattle.formula.proofs.laws.clauses_are_within.Goals as goal

pub returns : goal.returns
returns c = within.clauses_are_within

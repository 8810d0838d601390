use Rattle.formula.proofs.Meanings as meanings
use Rattle.formula.proofs.laws.assignments_mean_all.Goals as goal

pub returns : goal.returns
returns c = meanings.assignments_mean_all

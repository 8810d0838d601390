use Rattle.formula.proofs.Times as times
use Rattle.formula.proofs.laws.times_have_assignments.Goals as goal

pub returns : goal.returns
returns c = times.times_have_assignments

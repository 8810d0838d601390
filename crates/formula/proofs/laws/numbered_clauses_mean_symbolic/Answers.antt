use Rattle.formula.proofs.NormalForms as normal_forms
use Rattle.formula.proofs.laws.numbered_clauses_mean_symbolic.Goals as goal

pub returns : goal.returns
returns c = normal_forms.numbered_clauses_mean_symbolic

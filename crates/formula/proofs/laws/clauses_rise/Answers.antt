use Rattle.formula.proofs.NormalForms as normal_forms
use Rattle.formula.proofs.laws.clauses_rise.Goals as goal

pub returns : goal.returns
returns c = normal_forms.clauses_rise

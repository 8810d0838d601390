use Rattle.formula_from_run.proofs.Sees as sees
use Rattle.formula_from_run.proofs.laws.probes_see_messages.Goals as goal

pub returns : goal.returns
returns c = sees.probes_see_messages

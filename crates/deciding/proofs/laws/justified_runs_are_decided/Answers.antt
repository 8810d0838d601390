use Rattle.deciding.proofs.LawsOfDecisions.{justified_runs_are_decided}
use Rattle.deciding.proofs.laws.justified_runs_are_decided.Goals as goal

pub returns : goal.returns
returns c = justified_runs_are_decided

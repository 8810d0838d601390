use Rattle.formula_from_run.proofs.Takers as takers
use Rattle.formula_from_run.proofs.laws.calls_are_matched_once.Goals as goal

pub returns : goal.returns
returns c = takers.calls_are_matched_once

use Rattle.formula.proofs.Agreement as agreement
use Rattle.formula.proofs.laws.facts_suffice.Goals as goal

pub returns : goal.returns
returns c = agreement.facts_suffice

use Rattle.formula.proofs.Agreement as agreement
use Rattle.formula.proofs.laws.used_pairs_suffice.Goals as goal

pub returns : goal.returns
returns c = agreement.used_pairs_suffice

use Rattle.trimming.proofs.TrimLaws as trimmed
use Rattle.trimming.proofs.laws.trimmed_are_accepted.Goals as goal

pub returns : goal.returns
returns c = trimmed.trimmed_are_accepted

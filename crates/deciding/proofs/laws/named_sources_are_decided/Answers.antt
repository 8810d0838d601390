use Rattle.deciding.proofs.LawsOfDecisions.{named_sources_are_decided}
use Rattle.deciding.proofs.laws.named_sources_are_decided.Goals as goal

pub returns : goal.returns
returns c = named_sources_are_decided

use Rattle.deciding.proofs.LawsOfDecisions.{short_texts_are_decided}
use Rattle.deciding.proofs.laws.short_texts_are_decided.Goals as goal

pub returns : goal.returns
returns c = short_texts_are_decided

use Rattle.deciding.proofs.LawsOfDecisions.{lone_senders_are_decided}
use Rattle.deciding.proofs.laws.lone_senders_are_decided.Goals as goal

pub returns : goal.returns
returns c = lone_senders_are_decided

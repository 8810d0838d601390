use Rattle.phases.proofs.Envelopes.{messages_order}
use Rattle.phases.proofs.laws.messages_order.Goals as goal

pub returns : goal.returns
returns c = messages_order

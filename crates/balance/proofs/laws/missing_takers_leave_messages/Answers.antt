use Rattle.balance.proofs.Matching.{missing_takers_leave_messages}
use Rattle.balance.proofs.laws.missing_takers_leave_messages.Goals as goal

pub returns : goal.returns
returns c = missing_takers_leave_messages

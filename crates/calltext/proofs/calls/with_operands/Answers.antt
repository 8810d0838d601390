use Rattle.std.proofs.Common.{rules}
use Rattle.calltext.proofs.calls.with_operands.Goals as goal

pub returns-in-Send : goal.returns-in-Send
returns-in-Send c = search rules

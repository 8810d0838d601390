use Rattle.std.proofs.Common.{rules}
use Rattle.calltext.proofs.source.LongSource.policy.Goals as goal

pub returns : goal.returns
returns c = search rules

use Rattle.std.proofs.Common.{rules}
use Rattle.steal.proofs.tally.settle.Goals as goal

pub returns-clause-balanced : goal.returns-clause-balanced
returns-clause-balanced c = search rules

pub returns-clause-complete : goal.returns-clause-complete
returns-clause-complete c = search rules

use Rattle.std.proofs.Common.{arith}
use Rattle.std.proofs.lemmas.Grind.{elements}
use Rattle.pool.proofs.keep.Pool.is_open.Goals as goal

pub returns-in-Some-eq0-clause-open : goal.returns-in-Some-eq0-clause-open
returns-in-Some-eq0-clause-open c = grind (arith, elements)

pub returns-in_default-clause-open : goal.returns-in_default-clause-open
returns-in_default-clause-open c = grind (arith, elements)

pub returns-in_default-2-clause-open : goal.returns-in_default-2-clause-open
returns-in_default-2-clause-open c = grind (arith, elements)

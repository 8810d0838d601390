use Rattle.std.proofs.Common.{arith}
use Rattle.std.proofs.lemmas.Grind.{common_steps}
use Rattle.clauses.proofs.clause.rises.Goals as goal

pub loop-literal-preserved : goal.loop-literal-preserved
loop-literal-preserved c = grind (arith, common_steps)

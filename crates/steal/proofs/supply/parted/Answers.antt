use Rattle.std.proofs.Common.{arith}
use Rattle.std.proofs.lemmas.Grind.{common_steps}
use Rattle.steal.proofs.supply.parted.Goals as goal

pub loop-supply-preserved : goal.loop-supply-preserved
loop-supply-preserved c = grind (arith, common_steps)

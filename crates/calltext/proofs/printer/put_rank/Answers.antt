use Rattle.std.proofs.lemmas.Grind.{common_steps}
use Rattle.std.proofs.Common.{arith}
use Rattle.calltext.proofs.printer.put_rank.Goals as goal

pub loop-call-init : goal.loop-call-init
loop-call-init c = grind (arith, common_steps)

pub loop-call-preserved : goal.loop-call-preserved
loop-call-preserved c = grind (arith, common_steps)

pub returns : goal.returns
returns c = grind (arith, common_steps)

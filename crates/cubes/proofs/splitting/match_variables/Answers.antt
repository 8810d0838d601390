use Rattle.std.proofs.Common.{arith}
use Rattle.cubes.proofs.CubeTrees.{one_variable_more}
use Rattle.cubes.proofs.splitting.match_variables.Goals as goal

pub loop-number-preserved : goal.loop-number-preserved
loop-number-preserved c =
    one_variable_more c.args.table.now c.args.numbers.now c.loop-number.variables.items c.push.new.self.items c.loop-number.number-index c.match_variable.result (omega arith) c.loop-number.invariant c.in_ok-push.ensures.items c.match_variable.ensures

use Rattle.std.proofs.Common.{ap, length, arith}
use Rattle.cubes.proofs.Orders.{few_with_taker, rank_more}
use Rattle.cubes.proofs.order.ranks.Goals as goal

pub overflow_sub-len : goal.overflow_sub-len
overflow_sub-len c = omega (arith, ap length c.with_taker.ensures, c.len.ensures, few_with_taker c.args.pairs.now)

pub loop-number-preserved : goal.loop-number-preserved
loop-number-preserved c =
    rank_more c.args.pairs.now c.as_slice-listed.result.now c.loop-number.ranks.items c.push.new.self.items c.with_taker.result.now c.loop-number.number c.len.result c.loop-number.invariant c.in_ok-push.ensures.items c.as_slice-listed.ensures c.with_taker.ensures c.len.ensures

use Rattle.std.proofs.Common.{◌-◌, arith}
use Rattle.clocks.proofs.Listed.{counted}
use Rattle.clocks.proofs.finders.first_unknown.Goals as goal

pub returns-then-is_counted_at : goal.returns-then-is_counted_at
returns-then-is_counted_at c = λ numbering known calls are counts i finder from below there.
    counted numbering known calls c.args.covers.now (c.partition_point-end.result - 1) c.args.count.now are (c.is_counted_at.ensures c.if-is_counted_at.true) counts i finder (omega (arith, below)) there
